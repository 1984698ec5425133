-- The working array of a packing after the rounds.
use Rattle.std.specs.Prelude.{◌≡◌, List, ℕ, length}
use Rattle.pack_layout.specs.declared.PlacedItem.{PlacedItem}
use Rattle.pack_layout.specs.Placed.{Entered, marked_in}
use Rattle.pack_layout.specs.Listing.{listed, entry}
use Rattle.pack_layout.specs.Layout.{Laid}
use Rattle.pack_layout.specs.Packing.{marks as marks_of, layout}

-- the array holds the entries, the last marks and the last layout of a listing
pub record Prepared (kinds operands : List ℕ) (placed : List PlacedItem) : Type 0 where
  pub entered : Entered placed (entry (listed kinds operands)) (length kinds)
  pub settled : marked_in placed ≡ marks_of (listed kinds operands)
  pub laid : Laid (layout (listed kinds operands)) placed (length kinds)
