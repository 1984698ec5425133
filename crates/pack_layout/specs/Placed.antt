-- The working array of a packing: what it keeps of each item.
use Rattle.std.specs.Prelude.{◌≡◌, Bool, false, List, ℕ, ◌<◌, get_or}
use Rattle.pack_layout.specs.declared.PlacedItem.{PlacedItem}

-- an item before it is laid out
abbrev pub unplaced : PlacedItem
unplaced = record { at = record { 0 = 0 }; next = record { 0 = 0 }; left = 0; entry = false; marked = false }

-- what the array holds of item i
abbrev pub placed_at : List PlacedItem → ℕ → PlacedItem
placed_at placed i = get_or placed i unplaced

-- the array holds the entries among the first n items
abbrev pub Entered : List PlacedItem → (ℕ → Bool) → ℕ → Type 0
Entered placed entry n = (j : ℕ) → j < n → (placed_at placed j).entry ≡ entry j

-- the marks that the array holds
unfoldable pub marked_in : List PlacedItem → ℕ → Bool
marked_in placed i = (placed_at placed i).marked

-- an item with its mark written, and the rest as it was
abbrev pub with_mark : Bool → PlacedItem → PlacedItem
with_mark mark item = record { at = item.at; next = item.next; left = item.left; entry = item.entry; marked = mark }

-- an item with what says that it is an entry written, and the rest as it was
abbrev pub with_entry : Bool → PlacedItem → PlacedItem
with_entry opens item = record { at = item.at; next = item.next; left = item.left; entry = opens; marked = item.marked }

-- of each item all but what says that it is an entry is as before
abbrev pub EntriesAlone : List PlacedItem → List PlacedItem → Type 0
EntriesAlone before after = (j : ℕ) → with_entry false (placed_at after j) ≡ with_entry false (placed_at before j)
