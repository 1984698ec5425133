-- The rows on stack areas (document 02, (a)), for a byte order, with no table.
use Rattle.std.specs.Prelude.{List, [], ◌∷◌, ◌++◌, map, ℕ, ◌-◌, ◌^◌}
use Rattle.cell.specs.Memory.{cell_at, store_cell}
use Rattle.machine.specs.Places.{no_table}
use Rattle.areas.specs.Areas.{areas_of, filed}
use Rattle.areas.specs.declared.Areas.{Areas}
use Rattle.areas.specs.declared.RegisterFile.{RegisterFile}
use Rattle.processor_start.specs.Answers.{StartAnswer, start_answer}
use Rattle.processor.specs.Answers.{CycleAnswer, cycle_answer, RunAnswer, given_of, run_answer}
use Rattle.worked.specs.Rows.{Row, numbers, lists}
use Rattle.worked.specs.Processor.{blank}
use Rattle.worked.specs.Cycling.{small, set_up, holding, registers_at, cycled, moved, goes, throws, raises, stops}

-- DUP at the bottom of the data area, and then the handler's DUP
abbrev pub overflow : ℕ → CycleAnswer
overflow order = cycled no_table order (set_up order) 0x01 0x210 0x318

abbrev pub second : ℕ → CycleAnswer
second order = cycle_answer order no_table (overflow order).memory (overflow order).registers

abbrev pub data_rows : ℕ → List Row
data_rows order =
    -- DUP, and 0, at the bottom: -3 goes into the held cell
    raises no_table order (set_up order) 0x01 0x210 0x318 (2 ^ 32 - 3)
    ∷ raises no_table order (set_up order) 0x19 0x210 0x318 (2 ^ 32 - 3)
    -- the handler pushes again, from the held cell on: there is no room for the second -3, and the first stays where it is
    ∷ (numbers (second order).number 1
    ∷ numbers (second order).reason (2 ^ 32 - 258)
    ∷ numbers (cell_at order (second order).memory 0x20C) (2 ^ 32 - 3)
    ∷ lists (second order).memory (overflow order).memory
    ∷ moved (second order).registers 0x24 0x20C 0x318)
    -- a push into the lowest cell of the area is none
    ∷ goes no_table order (set_up order) 0x1A 0x214 0x318 0x210 0x318 (holding order 0x210 1)
    -- DROP at the top: -4; one cell below it goes on
    ∷ raises no_table order (set_up order) 0x02 0x220 0x318 (2 ^ 32 - 4)
    ∷ goes no_table order (set_up order) 0x02 0x21C 0x318 0x220 0x318 (set_up order)
    -- + with one item: its second one is at the top
    ∷ raises no_table order (set_up order) 0x1E 0x21C 0x318 (2 ^ 32 - 4)
    -- PICK of the last item, and of the one above it; ROLL of the same
    ∷ goes no_table order (holding order 0x21C 9) 0x09 0x218 0x318 0x218 0x318 (store_cell order (holding order 0x21C 9) 0x218 9)
    ∷ raises no_table order (holding order 0x218 1) 0x09 0x218 0x318 (2 ^ 32 - 4)
    ∷ raises no_table order (holding order 0x218 1) 0x0A 0x218 0x318 (2 ^ 32 - 4)
    -- PICK of an item outside memory, which lies above the top too: -9
    ∷ throws no_table order (holding order 0x218 0x100) 0x09 0x218 0x318 (2 ^ 32 - 9) 0x61C
    ∷ []

abbrev pub held_rows : ℕ → List Row
held_rows order =
    -- DROP takes the held cell off
    goes no_table order (holding order 0x20C 9) 0x02 0x20C 0x318 0x210 0x318 (holding order 0x20C 9)
    -- 1+ reads it, and may not write it: -3, with no room for the code
    ∷ stops no_table order (holding order 0x20C 9) 0x21 0x20C (2 ^ 32 - 258) 0x20C
    -- @ and ! name it, and the areas are not asked
    ∷ goes no_table order (store_cell order (holding order 0x20C 9) 0x214 0x20C) 0x39 0x214 0x318 0x214 0x318 (store_cell order (holding order 0x20C 9) 0x214 9)
    ∷ goes no_table order (store_cell order (holding order 0x214 0x20C) 0x218 7) 0x3A 0x214 0x318 0x21C 0x318
    (store_cell order (store_cell order (holding order 0x214 0x20C) 0x218 7) 0x20C 7)
    -- HALT in the area, on the held cell, below it and at the top
    ∷ stops no_table order (holding order 0x21C 5) 0x55 0x21C 5 0x220
    ∷ stops no_table order (holding order 0x20C 9) 0x55 0x20C 9 0x210
    ∷ stops no_table order (holding order 0x208 9) 0x55 0x208 (2 ^ 32 - 258) 0x208
    ∷ stops no_table order (holding order 0x220 9) 0x55 0x220 (2 ^ 32 - 258) 0x220
    -- SP! off the area goes on, and so does THROW to its handler
    ∷ goes no_table order (holding order 0x218 0x100) 0x3F 0x218 0x318 0x100 0x318 (holding order 0x218 0x100)
    ∷ (let c = cycled no_table order (set_up order) 0x54 0x100 0x318 in
    numbers c.number 0 ∷ lists c.memory (holding order 8 0x10) ∷ moved c.registers 0x24 0x100 0x318)
    ∷ []

abbrev pub return_rows : ℕ → List Row
return_rows order =
    -- >R at the bottom of the return area: -5; a cell above it goes on
    raises no_table order (holding order 0x218 7) 0x0C 0x218 0x310 (2 ^ 32 - 5)
    ∷ goes no_table order (holding order 0x218 7) 0x0C 0x218 0x314 0x21C 0x310 (store_cell order (holding order 0x218 7) 0x310 7)
    -- R> below it and at its top: -5 and -6
    ∷ raises no_table order (set_up order) 0x0D 0x218 0x30C (2 ^ 32 - 5)
    ∷ raises no_table order (set_up order) 0x0D 0x218 0x320 (2 ^ 32 - 6)
    -- R> from the held cell, which is no cell of the return stack: -5
    ∷ raises no_table order (set_up order) 0x0D 0x218 0x20C (2 ^ 32 - 5)
    -- at MEMORY: -9, also where it is unaligned too; unaligned above and below the area: -23
    ∷ throws no_table order (set_up order) 0x0D 0x218 0x400 (2 ^ 32 - 9) 0x400
    ∷ throws no_table order (set_up order) 0x0D 0x218 0x402 (2 ^ 32 - 9) 0x402
    ∷ throws no_table order (set_up order) 0x0D 0x218 0x322 (2 ^ 32 - 23) 0x322
    ∷ throws no_table order (set_up order) 0x0D 0x218 0x30D (2 ^ 32 - 23) 0x30D
    ∷ []

-- start at 10h with areas
abbrev pub started : ℕ → Areas → StartAnswer
started order areas = start_answer order areas no_table blank 0x10 0x20

-- a start that is refused leaves memory as it was
abbrev pub refused : ℕ → ℕ → Areas → Row
refused order number areas = numbers (started order areas).number number ∷ lists (started order areas).memory blank ∷ []

abbrev pub taken : ℕ → Areas → Row
taken order areas =
    numbers (started order areas).number 0
    ∷ numbers (started order areas).registers.registers.sp areas.stack.top.0
    ∷ numbers (started order areas).registers.registers.rp areas.returns.top.0
    ∷ []

-- -4111: one number alone; a top that is unaligned; no cells; past memory; below 0, the held cell counted; so many cells that their bytes are more than a
-- cell can say; over each other; the return area over the held cell
abbrev pub bad_areas : List Areas
bad_areas =
    areas_of 0x220 0 0 0
    ∷ areas_of 0 4 0 0
    ∷ areas_of 0 0 0x320 0
    ∷ areas_of 0 0 0 4
    ∷ areas_of 0x222 4 0x320 4
    ∷ areas_of 0x220 4 0x321 4
    ∷ areas_of 0x220 0 0x320 4
    ∷ areas_of 0x220 4 0x320 0
    ∷ areas_of 0x404 4 0x320 4
    ∷ areas_of 0x220 4 0x404 4
    ∷ areas_of 0x10 4 0x320 4
    ∷ areas_of 0x220 4 0xC 4
    ∷ areas_of 0x220 0x40000001 0x320 4
    ∷ areas_of 0x220 4 0x218 4
    ∷ areas_of 0x220 4 0x210 1
    ∷ []

-- up to MEMORY; from 0 on, the held cell counted; next to each other either way, the held cell between them
abbrev pub good_areas : List Areas
good_areas =
    small
    ∷ areas_of 0x400 4 0x320 4
    ∷ areas_of 0x220 4 0x400 4
    ∷ areas_of 0x14 4 0x320 4
    ∷ areas_of 0x220 4 0x10 4
    ∷ areas_of 0x220 4 0x20C 1
    ∷ areas_of 0x220 4 0x230 4
    ∷ []

-- a cycle and a run with a data area of no cells
abbrev pub empty_file : RegisterFile
empty_file = filed (areas_of 0x220 0 0x320 4) (record { ep = 0x10; a = 0x01; sp = 0x218; rp = 0x318 })

abbrev pub refused_cycle : ℕ → CycleAnswer
refused_cycle order = cycle_answer order no_table (set_up order) empty_file

abbrev pub refused_run : ℕ → RunAnswer
refused_run order = run_answer (given_of order no_table (set_up order) empty_file 5)

abbrev pub given_rows : ℕ → List Row
given_rows order =
    -- the stacks begin at the tops, and the areas are in the registers
    (numbers (started order small).number 0 ∷ moved (started order small).registers 0x14 0x220 0x320)
    -- and in those of a run that has spent its budget
    ∷ (let r = run_answer (given_of order no_table (set_up order) (registers_at 0x19 0x220 0x318) 1) in
    numbers r.number 0 ∷ numbers r.count 1 ∷ moved r.registers 0x10 0x21C 0x318)
    -- a byte order of 2 is refused before its areas
    ∷ refused 2 (2 ^ 32 - 4102) (areas_of 0x220 0 0 0)
    -- cycle and run refuse areas as start does, and leave all as it was
    ∷ (numbers (refused_cycle order).number (2 ^ 32 - 4111)
    ∷ numbers (refused_cycle order).registers.registers.sp 0x218
    ∷ lists (refused_cycle order).memory (set_up order)
    ∷ [])
    ∷ (numbers (refused_run order).number (2 ^ 32 - 4111)
    ∷ numbers (refused_run order).registers.registers.sp 0x218
    ∷ numbers (refused_run order).count 0
    ∷ lists (refused_run order).memory (set_up order)
    ∷ [])
    ∷ (map (refused order (2 ^ 32 - 4111)) bad_areas ++ map (taken order) good_areas)

abbrev pub area_rows : ℕ → List Row
area_rows order = data_rows order ++ (held_rows order ++ (return_rows order ++ given_rows order))
