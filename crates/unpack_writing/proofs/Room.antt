-- The room of two arrays.
-- Assumes nothing.
use mathlib.Core.Path.{◌≡◌}
use mathlib.Core.Bool.{◌||◌}
use Prim.Native.Nat.{ℕ, ◌≤◌}
use borrow.Author.Tests.{ltb-false}
use lib.Dec.{ltb}
use Rattle.cell.specs.Refusals.{passed}
use Rattle.cell.specs.declared.Refusal.TheVariants as refusal
use Rattle.cell.proofs.BooleanLaws.{neither}
use Rattle.cell.proofs.JudgementLaws.{one_clear}
use Rattle.unpack_judging.specs.Judgement.{judge_arrays}

-- arrays that are not refused have room
pub arrays_room : (n k x : ℕ) → judge_arrays n k x ≡ passed → (n ≤ k) × (n ≤ x)
unfolding judge_arrays
arrays_room n k x e =
    let p = neither (ltb k n) (ltb x n) (one_clear (ltb k n || ltb x n) refusal.ShortOutput passed e).0 in
    (ltb-false k n p.0, ltb-false x n p.1)
