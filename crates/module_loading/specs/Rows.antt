-- Document 01, Worked on paper, the row on modules: a cell of 55h in a file of order 0, and its bytes on a machine of order 1. Then, for document 02,
-- (c), a file of two cells that a load is told to halt in.
use Rattle.std.specs.Prelude.{List, [], ◌∷◌, ◌++◌, ℕ, take, drop, replicate}
use Rattle.module_loading.specs.Answers.{LoadResult, load_of, load_first_of}

-- the file: "BEETLE", 00h, order 0, one cell, 55h
abbrev pub module55 : List ℕ
module55 =
    0x42 ∷ 0x45 ∷ 0x45 ∷ 0x54 ∷ 0x4C ∷ 0x45 ∷ 0x00 ∷ 0x00 ∷ 0x01 ∷ 0x00 ∷ 0x00 ∷ 0x00 ∷ 0x55 ∷ 0x00 ∷ 0x00 ∷ 0x00 ∷ []

-- on a machine of order 1, with 400h bytes of zeros, at address 10h
abbrev pub loaded55 : LoadResult
loaded55 = load_of 1 (replicate 1024 0) module55 0x10

-- the four bytes from the address on, and those that document 01 has
abbrev pub bytes55 : List ℕ
bytes55 = take 4 (drop 0x10 loaded55.memory)

abbrev pub paper55 : List ℕ
paper55 = 0x00 ∷ 0x00 ∷ 0x00 ∷ 0x55 ∷ []

-- the header of a module of order 0 with two cells, and the cells 55h and 01020304h
abbrev pub two_cells : List ℕ
two_cells = take 8 module55 ++ (0x02 ∷ 0x00 ∷ 0x00 ∷ 0x00 ∷ 0x55 ∷ 0x00 ∷ 0x00 ∷ 0x00 ∷ 0x04 ∷ 0x03 ∷ 0x02 ∷ 0x01 ∷ [])

-- on a machine of a byte order, with 400h bytes of 5Ah, at address 10h, told to halt after k cells
abbrev pub halted_after : ℕ → ℕ → LoadResult
halted_after order k = load_first_of order (replicate 1024 0x5A) two_cells 0x10 k

-- the eight bytes from the address on
abbrev pub halted_bytes : ℕ → ℕ → List ℕ
halted_bytes order k = take 8 (drop 0x10 (halted_after order k).memory)
