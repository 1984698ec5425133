-- Judgements in order, and what an accepted packing gives.
-- Assumes nothing.
use mathlib.Core.Path.{◌≡◌, refl, sym, ap, ◌∙◌}
use mathlib.Core.List.{List, [], ◌∷◌}
use Prim.Native.Nat.{ℕ, ◌*◌, ◌≤◌}
use native.Mathlib.Omega.{arith}
use borrow.Author.Tests.{ltb-false}
use lib.Dec.{ltb}
use Rattle.std.specs.Prelude.{Err, Ok}
use Rattle.cell.specs.Memory.{cell_count}
use Rattle.cell.specs.Refusals.{after, in_order, Judged, passed}
use Rattle.cell.specs.declared.CellCount.{CellCount}
use Rattle.cell.specs.declared.Refusal.TheVariants.{ShortOutput}
use Rattle.cell.proofs.JudgementLaws.{both_pass, one_clear}
use Rattle.pack_layout.specs.Listing.{Listing, listed, judged_arrays, Checked}
use Rattle.pack_layout.specs.Packing.{image_cells, judged_place}
use Rattle.pack_layout.proofs.Packing.{base_of}
use Rattle.pack_prepare.proofs.Checking.{arrays_checked}
use Rattle.pack_refusals.specs.Judgement.{judge_order, judge_room, judge_input, judge_image, judge_all, judge_pack}

-- four judgements in order: where the first two refuse, they decide; where they pass, the last two do
halves : (a b c d : Judged) → in_order (a ∷ b ∷ c ∷ d ∷ []) ≡ after (in_order (a ∷ b ∷ [])) (in_order (c ∷ d ∷ []))
halves (Ok _) (Ok _) c d = refl
halves (Ok _) (Err r) c d = refl
halves (Err r) b c d = refl

-- a packing is judged by its input, then by its image
pub pack_halves : (order : ℕ) (kinds operands : List ℕ) (base size : ℕ)
    → judge_pack order kinds operands base size
    ≡ after (judge_input order kinds operands) (judge_image base (image_cells (listed kinds operands)) size)
unfolding judge_pack judge_input judge_image
pack_halves order kinds operands base size =
    halves (judge_order order) (judged_arrays kinds operands) (judged_place base (image_cells (listed kinds operands)))
    (judge_room (image_cells (listed kinds operands)) size)

-- the last in order decides
pub last_one : (a : Judged) → in_order (a ∷ []) ≡ a
last_one (Ok _) = refl
last_one (Err r) = refl

pub input_checked : (order : ℕ) (kinds operands : List ℕ) → judge_input order kinds operands ≡ passed → Checked kinds operands
unfolding judge_input
input_checked order kinds operands e =
    let s = both_pass (judge_order order) (in_order (judged_arrays kinds operands ∷ [])) e in
    arrays_checked kinds operands (both_pass (judged_arrays kinds operands) passed s.1).0

room_of : (cells size : ℕ) → judge_room cells size ≡ passed → 4 * cells ≤ size
unfolding judge_room
room_of cells size e = ltb-false size (4 * cells) (one_clear (ltb size (4 * cells)) ShortOutput passed e).0

-- an image that passes lies below 16,777,216, and the output has room for it
image_fits : (base cells size : ℕ) → judge_image base cells size ≡ passed → (base ≤ 16777216) × (4 * cells ≤ size)
unfolding judge_image
image_fits base cells size e =
    let s = both_pass (judged_place base cells) (in_order (judge_room cells size ∷ [])) e in
    let p = base_of base cells s.0 in
    (omega (arith, p.inside), room_of cells size (both_pass (judge_room cells size) passed s.1).0)

-- where a packing passes, the output has room for the image
pub all_room : (order : ℕ) (input : Judged) (base : ℕ) (l : Listing) (size : ℕ) → judge_all order input base l size ≡ passed
    → 4 * image_cells l ≤ size
unfolding judge_image
all_room order input base l size e =
    (image_fits base (image_cells l) size (both_pass input _ (both_pass (judge_order order) _ e).1).1).1

pub counted_fits : (base size : ℕ) (l : Listing) (cells : CellCount) → cells ≡ cell_count (image_cells l)
    → judge_image base cells.0 size ≡ passed → (base ≤ 16777216) × (4 * image_cells l ≤ size)
counted_fits base size l cells e q =
    image_fits base (image_cells l) size (sym (ap (λ (x : CellCount). judge_image base x.0 size) e) ∙ q)
