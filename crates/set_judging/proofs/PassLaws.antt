-- What it says of the modules of a set that each has passed by itself.
use mathlib.Core.Path.{◌≡◌, sym, ◌∙◌}
use mathlib.Core.List.{List, [], ◌∷◌}
use Prim.Native.Nat.{ℕ, ◌+◌, ◌≤◌}
use native.Mathlib.Omega.{arith}
use borrow.Author.Tests.{ltb-false}
use lib.Dec.{ltb}
use lib.ListN.{length, drop, length-drop}
use lib.Seq.{length-take-le}
use Rattle.cell.specs.Refusals.{passed, judge, judge_machine}
use Rattle.cell.specs.declared.Refusal.TheVariants.{Header}
use Rattle.cell.proofs.JudgementLaws.{both_pass, one_clear}
use Rattle.module_judging.specs.Grounds.{judge_file, judge_place, judge_load}
use Rattle.module_judging.proofs.ConditionLaws.{file_good, place_good}
use Rattle.module_judging.proofs.JudgeLaws.{load_parts}
use Rattle.set_judging.specs.declared.Member.{Member}
use Rattle.set_judging.specs.Members.{members_of, member_at, file_of, cells_of}
use Rattle.set_judging.specs.Sharing.{Headed}
use Rattle.set_judging.specs.Conditions.{Fits, AllFit}
use Rattle.set_judging.specs.Grounds.{beyond, judge_member, judge_members}
use Rattle.set_judging.proofs.MemberLaws.{Each, none, more, each_at}

-- a module inside the buffer has as many bytes as it is said to have
pub file_length_lem : (buffer : List ℕ) (x : Member) → x.place + x.size ≤ length buffer → length (file_of buffer x) ≡ x.size
file_length_lem buffer x h = length-take-le x.size (drop x.place buffer) (simp length-drop (omega arith))

module _ (len order : ℕ) (buffer : List ℕ) where
  -- it lies inside the buffer, and loads alone
  pub member_parts : (x : Member) → judge_member len order buffer x ≡ passed
      → (x.place + x.size ≤ length buffer) × (judge_load len order (file_of buffer x) x.address.0 ≡ passed)
  unfolding judge_member
  member_parts x e =
      let p = both_pass (judge (beyond buffer x ∷ [])) (judge_load len order (file_of buffer x) x.address.0) e in
      (ltb-false (length buffer) (x.place + x.size) (one_clear (ltb (length buffer) (x.place + x.size)) Header passed p.0).0, p.1)

  pub member_fits : (x : Member) → judge_member len order buffer x ≡ passed → Fits len buffer x
  member_fits x e =
      let p = member_parts x e in
      let q = both_pass (judge_machine len order) _ (sym (load_parts len order (file_of buffer x) x.address.0) ∙ p.1) in
      let s = both_pass (judge_file (file_of buffer x)) (judge_place len x.address.0 (cells_of buffer x)) q.1 in
      record {
        inside = p.0;
        whole = sym (file_length_lem buffer x p.0) ∙ (file_good (file_of buffer x) s.0).whole;
        room = (place_good len x.address.0 (cells_of buffer x) s.1).room;
      }

  pub each_passes : (xs : List Member) → judge_members len order buffer xs ≡ passed
      → Each (λ (x : Member). judge_member len order buffer x ≡ passed) xs
  each_passes [] e = none
  each_passes (x ∷ xs) e =
      let p = both_pass (judge_member len order buffer x) (judge_members len order buffer xs) e in
      more p.0 (each_passes xs p.1)

  pub all_fit : (numbers : List ℕ) → judge_members len order buffer (members_of numbers) ≡ passed → AllFit len buffer numbers
  unfolding AllFit
  all_fit numbers e k h =
      member_fits (member_at numbers k)
      (each_at (λ (x : Member). judge_member len order buffer x ≡ passed) numbers (each_passes (members_of numbers) e) k h)

-- every file has its header
pub all_headed : (len : ℕ) (buffer numbers : List ℕ) → AllFit len buffer numbers → Headed numbers
unfolding AllFit Headed
all_headed len buffer numbers fit k h = let w = (fit k h).whole in omega (arith, w)
