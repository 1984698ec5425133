-- The rows on packing (the table of crate `pack_layout`), and the run of the first of them, for a byte order.
use Rattle.std.specs.Prelude.{List, [], ◌∷◌, map, ℕ, ◌+◌}
use Rattle.cell.specs.Memory.{store_cell}
use Rattle.machine.specs.Places.{no_table}
use Rattle.areas.specs.Areas.{no_areas}
use Rattle.processor_start.specs.Answers.{StartAnswer, start_answer}
use Rattle.processor.specs.Answers.{RunAnswer, given_of, run_answer}
use Rattle.pack_layout.specs.Worked as packed
use Rattle.worked.specs.Rows.{Row, numbers, lists}
use Rattle.worked.specs.Processor.{blank}

-- accepted, and packed to its cells
abbrev pub packing_rows : List Row
packing_rows = map (λ r. numbers (packed.judged_number (packed.row_judged r)) 0 ∷ lists (packed.row_image r) r.cells ∷ []) packed.worked

-- cells in a row from byte address a on
abbrev pub laid : ℕ → List ℕ → ℕ → List ℕ → List ℕ
laid order m a [] = m
laid order m a (x ∷ xs) = laid order (store_cell order m a x) (a + 4) xs

-- the image of a table's first row
abbrev pub first_image : List packed.Row → List ℕ
first_image [] = []
first_image (r ∷ rs) = packed.row_image r

-- the first row's image at 10h, started there
abbrev pub ready : ℕ → StartAnswer
ready order = start_answer order no_areas no_table (laid order blank 0x10 (first_image packed.worked)) 0x10 0

-- and run: reason 5, four cycles
abbrev pub ran_first : ℕ → RunAnswer
ran_first order = run_answer (given_of order no_table (ready order).memory (ready order).registers 100)

-- the same run cut after three cycles: spent, and carried on it stops in the first. Document 02, (m)
abbrev pub cut_first : ℕ → RunAnswer
cut_first order = run_answer (given_of order no_table (ready order).memory (ready order).registers 3)

abbrev pub cut_then : ℕ → RunAnswer
cut_then order = run_answer (given_of order no_table (cut_first order).memory (cut_first order).registers 97)

abbrev pub run_rows : ℕ → List Row
run_rows order =
    (numbers (ready order).number 0
    ∷ numbers (ran_first order).number 1
    ∷ numbers (ran_first order).reason 5
    ∷ numbers (ran_first order).count 4
    ∷ [])
    ∷ (numbers (cut_first order).number 0
    ∷ numbers (cut_first order).reason 0
    ∷ numbers (cut_first order).count 3
    ∷ numbers (cut_then order).number 1
    ∷ numbers (cut_then order).reason 5
    ∷ numbers (cut_then order).count 1
    ∷ lists (cut_then order).memory (ran_first order).memory
    ∷ [])
    ∷ []
