-- The first module that is refused by itself decides: RefusedAsAlone.
-- Assumes nothing.
use mathlib.Core.Path.{◌≡◌, refl, sym, ap, ◌∙◌}
use mathlib.Core.Bool.{Bool, true, false}
use mathlib.Core.List.{List, [], ◌∷◌}
use Prim.Native.Nat.{ℕ, zero, suc, ◌+◌, ◌*◌, ◌≤◌, ◌<◌}
use native.Mathlib.Omega.{arith}
use lib.Dec.{ltb}
use lib.ListN.{length}
use Rattle.cell.specs.Choice.{if}
use Rattle.cell.specs.Refusals.{Judged, passed, GoodMachine, refusal_number, after}
use Rattle.cell.specs.declared.Refusal.{Refusal}
use Rattle.cell.specs.declared.Refusal.TheVariants.{Header}
use Rattle.std.specs.Prelude.{Ok, Err}
use Rattle.cell.proofs.JudgementLaws.{refusal_some}
use Rattle.module_judging.specs.Format.{count_of}
use Rattle.module_judging.specs.Grounds.{judge_load}
use Rattle.module_judging.proofs.ConditionLaws.{good_machine}
use Rattle.module_loading.specs.Answers.{load_if, load_of}
use Rattle.set_judging.specs.declared.Member.{Member}
use Rattle.set_judging.specs.Members.{members_of, member_at, file_of}
use Rattle.set_judging.specs.Grounds.{judge_member, judge_members, judge_set}
use Rattle.set_judging.proofs.MemberLaws.{at_next}
use Rattle.set_loading.specs.Sets.{load_set_if, load_set_of}
use Rattle.set_laws.specs.Claims.{number_alone, RefusedAsAlone}

-- the number that a judgement answers
abbrev number_of : Judged → ℕ
number_of (Ok _) = 0
number_of (Err r) = refusal_number r

number_alone_lem : (t : Bool) (j : Judged) (order : ℕ) (m file : List ℕ) (a n : ℕ)
    → if t (refusal_number Header) (load_if j order m file a n).number ≡ number_of (after (if t (Err Header) passed) j)
number_alone_lem true j order m file a n = refl
number_alone_lem false (Ok _) order m file a n = refl
number_alone_lem false (Err r) order m file a n = refl

alone_judged : (order : ℕ) (m buffer : List ℕ) (x : Member) → number_alone order m buffer x ≡ number_of (judge_member (length m) order buffer x)
unfolding load_of judge_member
alone_judged order m buffer x =
    number_alone_lem (ltb (length buffer) (x.place + x.size)) (judge_load (length m) order (file_of buffer x) x.address.0) order m (file_of buffer x)
    x.address.0 (count_of (file_of buffer x))

number_set : (j : Judged) (order : ℕ) (m buffer : List ℕ) (xs : List Member) → (load_set_if j order m buffer xs).number ≡ number_of j
number_set (Ok _) order m buffer xs = refl
number_set (Err r) order m buffer xs = refl

set_judged : (order : ℕ) (m buffer numbers : List ℕ)
    → (load_set_of order m buffer numbers).number ≡ number_of (judge_set (length m) order buffer numbers)
unfolding load_set_of
set_judged order m buffer numbers = number_set (judge_set (length m) order buffer numbers) order m buffer (members_of numbers)

passed_of : (j : Judged) → number_of j ≡ 0 → j ≡ passed
passed_of (Ok _) e = refl
passed_of (Err r) e = absurd (refusal_some r e)

module _ (len order : ℕ) (buffer : List ℕ) where
  -- the modules in front pass, and then one is refused
  first_refused : (r : Refusal) (numbers : List ℕ) (k : ℕ) → 3 * k + 3 ≤ length numbers
      → ((i : ℕ) → i < k → judge_member len order buffer (member_at numbers i) ≡ passed)
      → judge_member len order buffer (member_at numbers k) ≡ Err r → judge_members len order buffer (members_of numbers) ≡ Err r
  first_refused r [] k h s e = absurd (omega arith)
  first_refused r (a ∷ []) k h s e = absurd (omega arith)
  first_refused r (a ∷ place ∷ []) k h s e = absurd (omega arith)
  first_refused r (a ∷ place ∷ size ∷ rest) zero h s e = rw e
  first_refused r (a ∷ place ∷ size ∷ rest) (suc k) h s e =
      rw (s 0 (omega arith))
      (first_refused r rest k (omega arith)
      (λ (i : ℕ) (l : i < k). rw (← at_next a place size rest i) (s (suc i) (omega (arith, l))))
      (rw (← at_next a place size rest k) e))

  -- and then the set is, on a machine that passes
  set_refused : (numbers : List ℕ) → GoodMachine len order → (k : ℕ) → 3 * k + 3 ≤ length numbers
      → ((i : ℕ) → i < k → judge_member len order buffer (member_at numbers i) ≡ passed) → (j : Judged)
      → judge_member len order buffer (member_at numbers k) ≡ j → (number_of j ≡ 0 → ⊥) → judge_set len order buffer numbers ≡ j
  unfolding judge_set
  set_refused numbers g k h s (Ok _) e n = absurd (n refl)
  set_refused numbers g k h s (Err r) e n = rw (good_machine len order g, first_refused r numbers k h s e)

pub refused_as_alone : RefusedAsAlone
refused_as_alone order m buffer numbers g k h s n =
    let len = length m in
    let e = alone_judged order m buffer (member_at numbers k) in
    set_judged order m buffer numbers
    ∙ ap number_of
    (set_refused len order buffer numbers g k h
    (λ i l. passed_of _ (sym (alone_judged order m buffer (member_at numbers i)) ∙ s i l))
    (judge_member len order buffer (member_at numbers k)) refl (λ q. n (e ∙ q)))
    ∙ sym e
