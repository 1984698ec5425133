-- What refuses a packing. Document 01, Turned back for the input, Turned back for the state, and the order below them. -4101 and -1
-- speak of a memory, and a packing has none.
use Rattle.std.specs.Prelude.{List, [], ◌∷◌, ℕ, ◌*◌, ltb}
use Rattle.cell.specs.Refusals.{Ground, judge, in_order, byte_order, Judged}
use Rattle.cell.specs.declared.Refusal.TheVariants.{ShortOutput}
use Rattle.pack_layout.specs.Listing.{Listing, listed, judged_arrays}
use Rattle.pack_layout.specs.Packing.{image_cells, judged_place}

-- -4102: no byte order but 0 and 1
unfoldable pub judge_order : ℕ → Judged
judge_order order = judge (byte_order order ∷ [])

-- -4105: the output has no room for the image, which takes four bytes a cell
abbrev pub short_output : ℕ → ℕ → Ground
short_output cells size = record { applies = ltb size (4 * cells); refusal = ShortOutput }

unfoldable pub judge_room : ℕ → ℕ → Judged
judge_room cells size = judge (short_output cells size ∷ [])

-- what is judged before the layout, and what once its size is known
unfoldable pub judge_input : ℕ → List ℕ → List ℕ → Judged
judge_input order kinds operands = in_order (judge_order order ∷ judged_arrays kinds operands ∷ [])

unfoldable pub judge_image : ℕ → ℕ → ℕ → Judged
judge_image base cells size = in_order (judged_place base cells ∷ judge_room cells size ∷ [])

-- a packing of a listing with a given judgement of the input list: -4102, input list, -4104 and -4110, -4105
abbrev pub judge_all : ℕ → Judged → ℕ → Listing → ℕ → Judged
judge_all order input base l size =
    in_order (judge_order order ∷ input ∷ judged_place base (image_cells l) ∷ judge_room (image_cells l) size ∷ [])

-- size is the length of the output
unfoldable pub judge_pack : ℕ → List ℕ → List ℕ → ℕ → ℕ → Judged
judge_pack order kinds operands base size =
    judge_all order (judged_arrays kinds operands) base (listed kinds operands) size
