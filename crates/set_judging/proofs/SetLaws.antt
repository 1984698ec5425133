-- A set passes exactly if its machine passes, each module by itself, and all of them together.
use mathlib.Core.Path.{◌≡◌}
use mathlib.Core.Bool.{false, not, ◌||◌}
use mathlib.Core.List.{List, [], ◌∷◌}
use Prim.Native.Nat.{ℕ, ◌%◌, ◌≤◌}
use native.Mathlib.Omega.{arith}
use borrow.Author.Tests.{ltb-false, eqb-true, eqb-false, not-false, le-ltb, eq-eqb, ne_eqb}
use lib.Dec.{ltb, eqb}
use lib.ListN.{length}
use Rattle.cell.specs.Refusals.{passed, judge, after, judge_machine}
use Rattle.cell.specs.declared.Refusal.TheVariants.{ModuleSet}
use Rattle.cell.proofs.BooleanLaws.{neither}
use Rattle.cell.proofs.JudgementLaws.{both_pass, one_clear}
use Rattle.set_judging.specs.Members.{members_of}
use Rattle.set_judging.specs.Sharing.{end_of, sharing}
use Rattle.set_judging.specs.Grounds.{judge_members, module_set, judge_set}

pub record Passing (len order : ℕ) (buffer numbers : List ℕ) : Type 0 where
  pub machine : judge_machine len order ≡ passed
  pub alone : judge_members len order buffer (members_of numbers) ≡ passed
  pub whole : length numbers % 3 ≡ 0
  pub some : 1 ≤ length (members_of numbers)
  pub few : length (members_of numbers) ≤ 16
  pub apart : sharing (end_of buffer) (members_of numbers) ≡ false

module _ (len order : ℕ) (buffer numbers : List ℕ) where
  pub set_passing : judge_set len order buffer numbers ≡ passed → Passing len order buffer numbers
  unfolding judge_set
  set_passing e =
      let n = length (members_of numbers) in
      let shared = sharing (end_of buffer) (members_of numbers) in
      let together = judge (module_set (end_of buffer) numbers ∷ []) in
      let p = both_pass (judge_machine len order) (after (judge_members len order buffer (members_of numbers)) together) e in
      let q = both_pass (judge_members len order buffer (members_of numbers)) together p.1 in
      let s = one_clear (module_set (end_of buffer) numbers).applies ModuleSet passed q.1 in
      let t = neither (not (eqb (length numbers % 3) 0)) (eqb n 0 || (ltb 16 n || shared)) s.0 in
      let u = neither (eqb n 0) (ltb 16 n || shared) t.1 in
      let v = neither (ltb 16 n) shared u.1 in
      let w = eqb-false n 0 u.0 in
      record {
        machine = p.0;
        alone = q.0;
        whole = eqb-true (length numbers % 3) 0 (not-false (eqb (length numbers % 3) 0) t.0);
        some = omega (arith, w);
        few = ltb-false 16 n v.0;
        apart = v.1;
      }

  pub passing_set : Passing len order buffer numbers → judge_set len order buffer numbers ≡ passed
  unfolding judge_set
  passing_set g =
      let n = length (members_of numbers) in
      rw (g.machine, g.alone, eq-eqb (length numbers % 3) 0 g.whole, ne_eqb n 0 (omega (arith, g.some)), le-ltb 16 n g.few, g.apart)
