-- The file of an object module. Document 01, Modules, and document 001, section 4.1 and table 8: the six letters of its title and a 00h, the byte
-- order, then, in that order, how many cells follow, and these cells.
use Rattle.std.specs.Prelude.{List, [], ◌∷◌, ◌++◌, ℕ, ◌*◌, get_or, take, drop}
use Rattle.cell.specs.Memory.{cell_bytes, cell_at}

-- "BEETLE", 00h
abbrev pub title : List ℕ
title = 0x42 ∷ 0x45 ∷ 0x45 ∷ 0x54 ∷ 0x4C ∷ 0x45 ∷ 0x00 ∷ []

-- the twelve bytes in front of l cells
unfoldable pub header_of : ℕ → ℕ → List ℕ
header_of order l = title ++ (order ∷ cell_bytes order l)

-- the module of the l cells from byte address a on, their bytes as they stand in memory
unfoldable pub module_of : ℕ → List ℕ → ℕ → ℕ → List ℕ
module_of order m a l = header_of order l ++ take (4 * l) (drop a m)

-- what a file says: its byte order, the count l of its cells, and its code part, from byte 12 on
abbrev pub order_of : List ℕ → ℕ
order_of file = get_or file 7 0

unfoldable pub count_of : List ℕ → ℕ
count_of file = cell_at (order_of file) file 8

abbrev pub code_of : List ℕ → List ℕ
code_of file = drop 12 file
