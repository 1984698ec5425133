-- The two files of a listing at a base: document 01, Listings, and document 02, (l). All numbers stand least significant byte first.
use Rattle.std.specs.Prelude.{List, [], ◌∷◌, ◌++◌, ℕ}
use Rattle.cell.specs.Choice.{if}
use Rattle.cell.specs.Memory.{cell_bytes}
use Rattle.pack_layout.specs.Kinds.{class_of}
use Rattle.pack_layout.specs.Listing.{Listing}
use Rattle.short_judging.specs.Operands.{has_operand, operands_before, in_turn}

abbrev pub least_bytes : ℕ → List ℕ
least_bytes x = cell_bytes 0 x

-- what item i puts into a file: its kind, its operand, and its operand where a short file has one
abbrev pub kind_byte : Listing → ℕ → List ℕ
kind_byte l i = l.kind i ∷ []

abbrev pub operand_bytes : Listing → ℕ → List ℕ
operand_bytes l i = least_bytes (l.operand i)

abbrev pub kept_bytes : Listing → ℕ → List ℕ
kept_bytes l i = if (has_operand (class_of (l.kind i))) (least_bytes (l.operand i)) []

-- n and base; n, m and base
abbrev pub header : Listing → ℕ → List ℕ
header l base = least_bytes l.count ++ least_bytes base

abbrev pub short_header : Listing → ℕ → List ℕ
short_header l base = least_bytes l.count ++ least_bytes (operands_before l.kind l.count) ++ least_bytes base

-- document 01's file, and the short one
unfoldable pub long_file : Listing → ℕ → List ℕ
long_file l base = header l base ++ in_turn (kind_byte l) l.count ++ in_turn (operand_bytes l) l.count

unfoldable pub short_file : Listing → ℕ → List ℕ
short_file l base = short_header l base ++ in_turn (kind_byte l) l.count ++ in_turn (kept_bytes l) l.count
