-- What areas that were taken are.
use mathlib.Core.Path.{◌≡◌}
use mathlib.Core.Bool.{false, not, ◌||◌}
use mathlib.Core.List.{[], ◌∷◌}
use Prim.Native.Nat.{ℕ, ◌%◌}
use native.Mathlib.Omega.{arith}
use lib.Dec.{ltb, eqb}
use borrow.Author.Tests.{ltb-false, eqb-true, eqb-false, not-false}
use Rattle.cell.specs.Refusals.{passed, judge}
use Rattle.cell.specs.declared.Refusal.TheVariants.{StackAreas}
use Rattle.cell.proofs.BooleanLaws.{neither}
use Rattle.cell.proofs.JudgementLaws.{one_clear}
use Rattle.areas.specs.Areas.{held_under_data, held_under_return, none, bytes_with, misplaced, overlapping, bad_areas, judge_areas, Placed}
use Rattle.areas.specs.declared.Area.{Area}
use Rattle.areas.specs.declared.Areas.{Areas}

placed : (len held : ℕ) (area : Area) → misplaced len held area ≡ false → Placed len held area
placed len held area e =
    let p = neither (not (eqb (area.top.0 % 4) 0)) (eqb area.cells.0 0 || (ltb area.top.0 (bytes_with held area) || ltb len area.top.0)) e in
    let q = neither (eqb area.cells.0 0) (ltb area.top.0 (bytes_with held area) || ltb len area.top.0) p.1 in
    let s = neither (ltb area.top.0 (bytes_with held area)) (ltb len area.top.0) q.1 in
    let n = eqb-false area.cells.0 0 q.0 in
    record {
      aligned = eqb-true (area.top.0 % 4) 0 (not-false (eqb (area.top.0 % 4) 0) p.0);
      some = omega arith;
      begins = ltb-false area.top.0 (bytes_with held area) s.0;
      ends = ltb-false len area.top.0 s.1;
    }

-- both areas are placed, and they do not overlap
pub record Taken (len : ℕ) (areas : Areas) : Type 0 where
  pub stack : Placed len held_under_data areas.stack
  pub returns : Placed len held_under_return areas.returns
  pub apart : overlapping areas ≡ false

pub taken : (len : ℕ) (areas : Areas) → none areas ≡ false → judge_areas len areas ≡ passed → Taken len areas
unfolding judge_areas
taken len areas n e =
    let stack = misplaced len held_under_data areas.stack in
    let returns = misplaced len held_under_return areas.returns in
    let p = one_clear stack StackAreas (judge (bad_areas returns ∷ bad_areas (overlapping areas) ∷ [])) (rw n at e) in
    let q = one_clear returns StackAreas (judge (bad_areas (overlapping areas) ∷ [])) p.1 in
    let s = one_clear (overlapping areas) StackAreas passed q.1 in
    record {
      stack = placed len held_under_data areas.stack p.0;
      returns = placed len held_under_return areas.returns q.0;
      apart = s.0;
    }
