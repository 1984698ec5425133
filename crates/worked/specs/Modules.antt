-- The rows on modules: one cell of 55h is loaded, between machines of the two byte orders; a load of two cells halts.
use Rattle.std.specs.Prelude.{List, [], ◌∷◌, ◌++◌, ℕ}
use Rattle.module_loading.specs.Rows.{loaded55, bytes55, paper55, halted_after, halted_bytes}
use Rattle.worked.specs.Rows.{Row, numbers, lists}

-- a load told to halt after k cells: how many went in, and the bytes there
abbrev pub halt_row : ℕ → ℕ → ℕ → List ℕ → Row
halt_row order k count bytes = numbers (halted_after order k).count count ∷ lists (halted_bytes order k) bytes ∷ []

-- halts after 0, 1, 2 and 3 of two cells, given the bytes of each; a cell that did not go in is as lent
abbrev pub halt_rows : ℕ → List ℕ → List ℕ → List Row
halt_rows order first second =
    let lent : List ℕ = 0x5A ∷ 0x5A ∷ 0x5A ∷ 0x5A ∷ [] in
    halt_row order 0 0 (lent ++ lent)
    ∷ halt_row order 1 1 (first ++ lent)
    ∷ halt_row order 2 2 (first ++ second)
    ∷ halt_row order 3 2 (first ++ second)
    ∷ []

abbrev pub module_rows : List Row
module_rows =
    (numbers loaded55.count 1 ∷ lists bytes55 paper55 ∷ [])
    ∷ (halt_rows 0 (0x55 ∷ 0x00 ∷ 0x00 ∷ 0x00 ∷ []) (0x04 ∷ 0x03 ∷ 0x02 ∷ 0x01 ∷ [])
    ++ halt_rows 1 (0x00 ∷ 0x00 ∷ 0x00 ∷ 0x55 ∷ []) (0x01 ∷ 0x02 ∷ 0x03 ∷ 0x04 ∷ []))
