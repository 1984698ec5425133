-- A listing as a short file. Document 02, (l): the sizes n and m, the base, n kinds of a byte each, m operands; all but the kinds in four
-- bytes, the least significant first, as in document 01's file.
use Rattle.std.specs.Prelude.{List, [], ◌∷◌, ℕ, ◌+◌, ◌*◌, length, get_or, take, drop}
use Rattle.cell.specs.Choice.{if}
use Rattle.pack_layout.specs.File.{least_first}
use Rattle.pack_layout.specs.Kinds.{class_of}
use Rattle.pack_layout.specs.Listing.{Listing, listed}
use Rattle.short_judging.specs.Operands.{has_operand, operands_before, in_turn}

-- n
abbrev pub short_count : List ℕ → ℕ
short_count s = least_first s 0

-- m
abbrev pub operand_count : List ℕ → ℕ
operand_count s = least_first s 4

abbrev pub short_base : List ℕ → ℕ
short_base s = least_first s 8

abbrev pub short_kinds : List ℕ → List ℕ
short_kinds s = take (short_count s) (drop 12 s)

abbrev pub short_kind : List ℕ → ℕ → ℕ
short_kind s i = get_or (short_kinds s) i 0

-- the operand of item i: behind those of the items before it, or 0 where the file has none for it
unfoldable pub short_operand : List ℕ → ℕ → ℕ
short_operand s i =
    if (has_operand (class_of (short_kind s i))) (least_first s (12 + short_count s + 4 * operands_before (short_kind s) i)) 0

abbrev pub short_operands : List ℕ → List ℕ
short_operands s = in_turn (λ i. short_operand s i ∷ []) (length (short_kinds s))

-- the listing that the file carries
abbrev pub short_listing : List ℕ → Listing
short_listing s = listed (short_kinds s) (short_operands s)
