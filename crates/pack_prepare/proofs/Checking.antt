-- What a listing that the input list passed gives.
-- Assumes nothing.
use mathlib.Core.Path.{◌≡◌, sym}
use mathlib.Core.Bool.{not}
use mathlib.Core.List.{List, [], ◌∷◌}
use Prim.Native.Nat.{ℕ, ◌≤◌}
use native.Mathlib.Omega.{arith}
use borrow.Author.Tests.{eqb-true, not-false}
use lib.Dec.{eqb}
use lib.ListN.{length}
use Rattle.cell.specs.Refusals.{judge, passed}
use Rattle.cell.specs.declared.Refusal.TheVariants.{ItemCount}
use Rattle.cell.proofs.JudgementLaws.{both_pass, one_clear}
use Rattle.pack_layout.specs.Grounds.{unequal}
use Rattle.pack_layout.specs.Listing.{listed, judged_arrays, judged_listing, Checked}
use Rattle.pack_layout.specs.Packing.{layout, image_cells}
use Rattle.pack_layout.proofs.Listing.{some_item}
use Rattle.pack_layout.proofs.Placing.{at_most}

-- arrays that the input list passes
pub arrays_checked : (kinds operands : List ℕ) → judged_arrays kinds operands ≡ passed → Checked kinds operands
unfolding judged_arrays
arrays_checked kinds operands e =
    let s = both_pass (judge (unequal (length kinds) (length operands) ∷ [])) (judged_listing (listed kinds operands)) e in
    let t = one_clear (not (eqb (length kinds) (length operands))) ItemCount passed s.0 in
    record { equal = sym (eqb-true (length kinds) (length operands) (not-false (eqb (length kinds) (length operands)) t.0)); input = s.1 }

module _ (kinds operands : List ℕ) (ok : Checked kinds operands) where
  pub items_most : length kinds ≤ 4096
  items_most = (some_item (listed kinds operands) ok.input).1

  -- an image has at most 8,192 cells
  pub cells_most : image_cells (listed kinds operands) ≤ 8192
  cells_most = omega (arith, items_most, at_most (layout (listed kinds operands)) (length kinds))
