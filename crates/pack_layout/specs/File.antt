-- A listing as a file. Document 01, Listings: the count, the base, the kinds a byte each, the operands; all but the kinds in four bytes,
-- the least significant first.
use Rattle.std.specs.Prelude.{List, [], ◌∷◌, ℕ, zero, suc, ◌+◌, length, take, drop}
use Rattle.cell.specs.Memory.{cell_at}
use Rattle.cell.specs.Refusals.{judge, after, Judged}
use Rattle.pack_layout.specs.Grounds.{listing_length}
use Rattle.pack_layout.specs.Listing.{Listing, listed, judged_arrays}

abbrev pub least_first : List ℕ → ℕ → ℕ
least_first s a = cell_at 0 s a

-- k cells from the byte a on
unfoldable pub cells_from : List ℕ → ℕ → ℕ → List ℕ
cells_from s a zero = []
cells_from s a (suc k) = least_first s a ∷ cells_from s (a + 4) k

abbrev pub file_count : List ℕ → ℕ
file_count s = least_first s 0

abbrev pub file_base : List ℕ → ℕ
file_base s = least_first s 4

abbrev pub file_kinds : List ℕ → List ℕ
file_kinds s = take (file_count s) (drop 8 s)

abbrev pub file_operands : List ℕ → List ℕ
file_operands s = cells_from s (8 + file_count s) (file_count s)

abbrev pub filed : List ℕ → Listing
filed s = listed (file_kinds s) (file_operands s)

-- document 01, Turned back for the input: a file's length is that of its header and its items
abbrev pub judged_length : List ℕ → Judged
judged_length s = judge (listing_length (length s) (file_count s) ∷ [])

unfoldable pub judged_file : List ℕ → Judged
judged_file s = after (judged_length s) (judged_arrays (file_kinds s) (file_operands s))
