-- The rows on the processor, for a byte order.
use Rattle.std.specs.Prelude.{List, [], ◌∷◌, ℕ, ◌-◌, ◌^◌, replicate}
use Rattle.cell.specs.Memory.{cell_at, store_cell}
use Rattle.machine.specs.Places.{no_table}
use Rattle.areas.specs.Areas.{no_areas, filed}
use Rattle.processor_start.specs.Answers.{StartAnswer, start_answer}
use Rattle.processor.specs.Answers.{CycleAnswer, cycle_answer}
use Rattle.worked.specs.Rows.{Row, numbers, lists}

-- a memory of 400h bytes, all 0
abbrev pub blank : List ℕ
blank = replicate 0x400 0

-- -7 and 2 on the data stack at 300h
abbrev pub operands : ℕ → List ℕ
operands order = store_cell order (store_cell order blank 0x304 (2 ^ 32 - 7)) 0x300 2

-- one cycle
abbrev pub after : ℕ → List ℕ → ℕ → ℕ → CycleAnswer
after order m opcode sp = cycle_answer order no_table m (filed no_areas (record { ep = 0x10; a = opcode; sp = sp; rp = 0x400 }))

-- what stands below the top of the data stack at 300h, and on top
abbrev pub pair : ℕ → List ℕ → ℕ → ℕ → Row
pair order m x y = numbers (cell_at order m 0x304) x ∷ numbers (cell_at order m 0x300) y ∷ []

-- R> at 10h, started there, and its first cycle
abbrev pub started : ℕ → StartAnswer
started order = start_answer order no_areas no_table (store_cell order blank 0x10 0x0D) 0x10 0x20

abbrev pub popped : ℕ → CycleAnswer
popped order = cycle_answer order no_table (started order).memory (started order).registers

abbrev pub processor_rows : ℕ → List Row
processor_rows order =
    -- -7 2 /MOD: 1 and -4
    pair order (after order (operands order) 0x28 0x300).memory 1 (2 ^ 32 - 4) ∷
    -- S/REM: -1 and -3
    pair order (after order (operands order) 0x2A 0x300).memory (2 ^ 32 - 1) (2 ^ 32 - 3) ∷
    -- MEMORY 400h, R> at start: -9 is thrown and stands at 2FCh, -ADDRESS is 400h
    (numbers (popped order).code (2 ^ 32 - 9)
    ∷ numbers (cell_at order (popped order).memory 0x2FC) (2 ^ 32 - 9)
    ∷ numbers (cell_at order (popped order).memory 0xC) 0x400
    ∷ []) ∷
    -- SP 0, DUP: no room for the -9, so a stop with -258 and memory as it was
    (numbers (after order blank 0x01 0).number 1
    ∷ numbers (after order blank 0x01 0).reason (2 ^ 32 - 258)
    ∷ lists (after order blank 0x01 0).memory blank
    ∷ []) ∷
    []
