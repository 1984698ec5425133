-- Which images are taken. Document 02, (h): those that the packer writes, and no other.
use Rattle.std.specs.Prelude.{Bool, true, false, ◌&&◌, List, [], ◌∷◌, ℕ, eqb, Err, Ok}
use Rattle.cell.specs.Refusals.{Judged}
use Rattle.pack_layout.specs.Listing.{Listing, judged_listing}
use Rattle.pack_layout.specs.Packing.{image}
use Rattle.pack_layout.specs.Output.{bytes_of}
use Rattle.pack_layout.specs.Reading.{cells_of, listing_read}

-- two lists have the same numbers
unfoldable pub same : List ℕ → List ℕ → Bool
same [] [] = true
same [] (y ∷ ys) = false
same (x ∷ xs) [] = false
same (x ∷ xs) (y ∷ ys) = eqb x y && same xs ys

abbrev pub passes : Judged → Bool
passes (Ok _) = true
passes (Err r) = false

-- a listing that the input list takes, and whose image these bytes are
unfoldable pub packs_to : ℕ → ℕ → Listing → List ℕ → Bool
packs_to order base l s = passes (judged_listing l) && same (bytes_of order (image base l)) s

-- the bytes of an image are taken if the listing read from them packs to them
abbrev pub taken : ℕ → ℕ → List ℕ → Bool
taken order base s = packs_to order base (listing_read (cells_of order s) base) s
