-- The theorem: of the single loads that a set is, the rule's may come last, and then it is the load of an approved rule.
-- Assumes nothing.
use mathlib.Core.Path.{◌≡◌, refl, sym, ap, subst, ◌∙◌}
use mathlib.Core.List.{List, [], ◌∷◌, ◌++◌, append-nil}
use Prim.Native.Nat.{ℕ, zero, suc, ◌+◌, ◌*◌, ◌≤◌}
use native.Mathlib.Omega.{arith}
use lib.ListN.{length}
use Rattle.module_judging.specs.Format.{count_of}
use Rattle.module_loading.specs.Answers.{load_of}
use Rattle.module_saving.specs.Answers.{save_of}
use Rattle.module_judging.specs.Conditions.{GoodPlace}
use Rattle.module_laws.specs.Theorems.{saved_file}
use Rattle.module_laws.proofs.Theorems.{accepted_exactly, saved_exactly, saved_file_lem}
use Rattle.module_laws.proofs.FileLaws.{module-count}
use Rattle.set_judging.specs.declared.Member.{Member}
use Rattle.set_judging.specs.Members.{members_of, member_at, file_of}
use Rattle.set_judging.proofs.MemberLaws.{at_next}
use Rattle.permutations.specs.Permutations.{Permuted, taken}
use Rattle.set_laws.specs.Claims.{alone, memory_after, EachAccepted, accepted}
use Rattle.permutations.proofs.PermutationLaws.{permuted_refl}
use Rattle.set_laws.proofs.Theorems.{in_any_sequence}
use Rattle.approved.proofs.Approved.{approved_runs}
use Rattle.approved_sets.specs.ApprovedSets.{Ready, ApprovedSetRuns}

-- the modules with number k last
record Last (numbers : List ℕ) (k : ℕ) : Type 0 where
  pub others : List Member
  pub order : Permuted (members_of numbers) (others ++ member_at numbers k ∷ [])

last : (numbers : List ℕ) (k : ℕ) → 3 * k + 3 ≤ length numbers → Last numbers k
last [] k h = absurd (omega arith)
last (a ∷ []) k h = absurd (omega arith)
last (a ∷ place ∷ []) k h = absurd (omega arith)
last (a ∷ place ∷ size ∷ rest) zero h =
    let xs = members_of rest in
    record {
      others = xs;
      order = taken _ xs xs [] (subst (Permuted xs) (sym (append-nil xs)) (permuted_refl xs));
    }
last (a ∷ place ∷ size ∷ rest) (suc k) h =
    let l = last rest k (omega arith) in
    record {
      others = member_at (a ∷ place ∷ size ∷ rest) 0 ∷ l.others;
      order = rw (at_next a place size rest k) (taken _ (members_of rest) [] (l.others ++ member_at rest k ∷ []) l.order);
    }

module _ (order : ℕ) (buffer : List ℕ) where
  -- the last of single loads, into what those before it left
  after_others : (others : List Member) (x : Member) (m : List ℕ)
      → memory_after order buffer (others ++ x ∷ []) m ≡ (alone order buffer x (memory_after order buffer others m)).memory
  after_others [] x m = refl
  after_others (y ∷ others) x m = after_others others x (alone order buffer y m).memory

  last_accepted : (others : List Member) (x : Member) (m : List ℕ) → EachAccepted order buffer (others ++ x ∷ []) m
      → (alone order buffer x (memory_after order buffer others m)).number ≡ 0
  last_accepted [] x m (accepted e s) = e
  last_accepted (y ∷ others) x m (accepted e s) = last_accepted others x (alone order buffer y m).memory s

-- a saved module counts the cells that were saved
saved_count : (order : ℕ) (m : List ℕ) (b l : ℕ) (out : List ℕ) → (save_of order m b l out).number ≡ 0
    → count_of (saved_file (save_of order m b l out)) ≡ l
saved_count order m b l out e =
    let g = (saved_exactly order m b l out).only e in
    ap count_of (saved_file_lem order m b l out g) ∙ module-count order m b l (omega (arith, g.place.room, g.machine.lent.most))

pub approved_set_runs : ApprovedSetRuns
approved_set_runs theirs base l p packs q office b low stands out saved ours centre buffer numbers e k h given =
    let x = member_at numbers k in
    let z = last numbers k h in
    let s = in_any_sequence ours centre buffer numbers e (z.others ++ x ∷ []) z.order in
    let before = memory_after ours buffer z.others centre in
    let g = (accepted_exactly ours before (file_of buffer x) x.address.0).only (last_accepted ours buffer z.others x centre s.each) in
    let file = saved_file (save_of theirs office b p.count out) in
    let n = saved_count theirs office b p.count out saved in
    let c : count_of (file_of buffer x) ≡ p.count = ap count_of given.bytes ∙ n in
    let place : GoodPlace (length before) base p.count =
    record {
      aligned = omega (arith, g.place.aligned, given.address);
      inside = omega (arith, g.place.inside, given.address);
      room = omega (arith, g.place.room, given.address, c);
    } in
    let r = approved_runs theirs base l p packs q office b low stands out saved ours before g.machine place in
    let e1 : (load_of ours before file base).memory ≡ (alone ours buffer x before).memory = rw (given.bytes, given.address) in
    subst (Ready ours base l) (e1 ∙ sym (after_others ours buffer z.others x centre) ∙ s.memory)
    (record { runs = r.runs; starts = r.starts })
