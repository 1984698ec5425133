-- Which images are taken: those of legal listings, each read back to the listing that it was packed from, and no other.
-- Assumes nothing.
use mathlib.Core.Path.{◌≡◌, refl, ap₂, ◌∙◌}
use mathlib.Core.Bool.{true, false≢true}
use mathlib.Core.List.{List, [], ◌∷◌}
use Prim.Native.Nat.{ℕ}
use borrow.Author.Tests.{eqb-true, eq-eqb}
use lib.Dec.{eqb}
use lib.ListN.{length}
use Rattle.std.specs.Prelude.{Err, Ok}
use Rattle.cell.specs.Refusals.{Judged, passed}
use Rattle.cell.proofs.BooleanLaws.{both_true}
use Rattle.pack_layout.specs.Listing.{Listing, listed, judged_listing}
use Rattle.pack_layout.specs.Packing.{image, Legal}
use Rattle.pack_layout.specs.Output.{bytes_of}
use Rattle.pack_layout.specs.Reading.{cells_of, kinds_read, operands_read}
use Rattle.pack_layout.specs.Unpacking.{same, passes, packs_to, taken}
use Rattle.pack_layout.proofs.Packing.{image_below}
use Rattle.pack_layout.proofs.Reading.{kinds_back, operands_back}
use Rattle.pack_layout.proofs.Output.{cells_back}

pub same_is : (xs ys : List ℕ) → same xs ys ≡ true → xs ≡ ys
unfolding same
same_is [] [] e = refl
same_is [] (y ∷ ys) e = absurd (false≢true e)
same_is (x ∷ xs) [] e = absurd (false≢true e)
same_is (x ∷ xs) (y ∷ ys) e =
    let p = both_true (eqb x y) (same xs ys) e in
    ap₂ (λ (a : ℕ) (s : List ℕ). a ∷ s) (eqb-true x y p.0) (same_is xs ys p.1)

pub same_own : (xs : List ℕ) → same xs xs ≡ true
unfolding same
same_own [] = refl
same_own (x ∷ xs) = rw (eq-eqb x x refl) (same_own xs)

passes_is : (j : Judged) → passes j ≡ true → j ≡ passed
passes_is (Ok _) e = refl
passes_is (Err r) e = absurd (false≢true e)

-- bytes that a listing packs to
pub record Packs (order base : ℕ) (l : Listing) (s : List ℕ) : Type 0 where
  pub input : judged_listing l ≡ passed
  pub bytes : bytes_of order (image base l) ≡ s

pub packs_is : (order base : ℕ) (l : Listing) (s : List ℕ) → packs_to order base l s ≡ true → Packs order base l s
unfolding packs_to
packs_is order base l s e =
    let p = both_true (passes (judged_listing l)) (same (bytes_of order (image base l)) s) e in
    record { input = passes_is (judged_listing l) p.0; bytes = same_is _ _ p.1 }

pub packs_so : (order base : ℕ) (l : Listing) → judged_listing l ≡ passed → packs_to order base l (bytes_of order (image base l)) ≡ true
unfolding packs_to
packs_so order base l e = rw e (same_own (bytes_of order (image base l)))

-- the bytes of a legal listing's image are read back to it
module _ (order base : ℕ) (kinds operands : List ℕ) (equal : length operands ≡ length kinds) (ok : Legal base (listed kinds operands)) where
  abbrev bytes : List ℕ
  bytes = bytes_of order (image base (listed kinds operands))

  cells_are : cells_of order bytes ≡ image base (listed kinds operands)
  cells_are = cells_back order (image base (listed kinds operands)) (image_below base (listed kinds operands) ok)

  pub kinds_again : kinds_read (cells_of order bytes) ≡ kinds
  kinds_again = rw cells_are (kinds_back base kinds operands ok)

  pub operands_again : operands_read (cells_of order bytes) base ≡ operands
  operands_again = rw cells_are (operands_back base kinds operands ok equal)

  pub taken_again : taken order base bytes ≡ true
  taken_again =
      ap₂ (λ (k x : List ℕ). packs_to order base (listed k x) bytes) kinds_again operands_again
      ∙ packs_so order base (listed kinds operands) ok.input
