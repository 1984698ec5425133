-- Cells in lent memory, in either byte order. Document 01, The processor, on ENDISM: a cell of order 0 begins with its low byte,
-- one of order 1 with its high byte.
use Rattle.std.specs.Prelude.{◌≡◌, ℕ, zero, suc, ◌+◌, ◌*◌, ◌/◌, ◌%◌, ◌<◌, ◌≤◌, List, [], ◌∷◌, slice_index, slice_set}
use Rattle.cell.specs.declared.CellCount.{CellCount}

abbrev pub cell_count : ℕ → CellCount
cell_count n = record { 0 = n }

-- the four bytes of a cell, least significant first
abbrev pub byte0 : ℕ → ℕ
byte0 x = x % 256

abbrev pub byte1 : ℕ → ℕ
byte1 x = x / 256 % 256

abbrev pub byte2 : ℕ → ℕ
byte2 x = x / 65536 % 256

abbrev pub byte3 : ℕ → ℕ
byte3 x = x / 16777216 % 256

-- the four bytes of a cell in a byte order, the first first
abbrev pub cell_bytes : ℕ → ℕ → List ℕ
cell_bytes zero x = byte0 x ∷ byte1 x ∷ byte2 x ∷ byte3 x ∷ []
cell_bytes (suc order) x = byte3 x ∷ byte2 x ∷ byte1 x ∷ byte0 x ∷ []

-- a cell of four bytes, a the first in memory
abbrev pub joined : ℕ → ℕ → ℕ → ℕ → ℕ → ℕ
joined zero a b c d = a + b * 256 + c * 65536 + d * 16777216
joined (suc order) a b c d = d + c * 256 + b * 65536 + a * 16777216

-- the cell at byte address a
unfoldable pub cell_at : ℕ → List ℕ → ℕ → ℕ
cell_at order m a = joined order (slice_index m a) (slice_index m (a + 1)) (slice_index m (a + 2)) (slice_index m (a + 3))

-- four bytes in a row
abbrev pub put : List ℕ → ℕ → ℕ → ℕ → ℕ → ℕ → List ℕ
put m a p q r s = slice_set (slice_set (slice_set (slice_set m a p) (a + 1) q) (a + 2) r) (a + 3) s

-- memory with x at byte address a
unfoldable pub store_cell : ℕ → List ℕ → ℕ → ℕ → List ℕ
store_cell zero m a x = put m a (byte0 x) (byte1 x) (byte2 x) (byte3 x)
store_cell (suc order) m a x = put m a (byte3 x) (byte2 x) (byte1 x) (byte0 x)

-- two memories agree on the bytes from lo up to, and without, hi
unfoldable pub Alike : ℕ → ℕ → List ℕ → List ℕ → Type 0
Alike lo hi m m2 = (j : ℕ) → lo ≤ j → j < hi → slice_index m2 j ≡ slice_index m j

-- every byte of a memory is below 256
unfoldable pub Bytewise : List ℕ → Type 0
Bytewise m = (i : ℕ) → slice_index m i < 256
