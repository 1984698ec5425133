-- The rows on tables (document 02, (b)), for a byte order: one cycle with the areas of specs/Cycling.antt and a table.
use Rattle.cell.specs.Place.{Checked, good}
use Rattle.std.specs.Prelude.{List, [], ◌∷◌, ◌++◌, map, ℕ, ◌+◌, ◌-◌, ◌^◌, set, Ok, Err}
use Rattle.cell.specs.Memory.{store_cell}
use Rattle.cell.specs.Number.{byte_address}
use Rattle.machine.specs.Places.{Width, one_byte, one_cell, table_of, no_table, place_of}
use Rattle.exceptions.specs.Exceptions.{exception_of, exception_code}
use Rattle.machine.specs.declared.Table.{Table}
use Rattle.machine.specs.declared.Machine.{Machine}
use Rattle.machine.specs.declared.Access.{Access}
use Rattle.machine.specs.declared.Access.TheVariants.{DataRead, DataWrite, ReturnRead, ReturnWrite, NamedRead, NamedWrite, Stream, Push}
use Rattle.areas.specs.Areas.{areas_of}
use Rattle.bounds.specs.Bounds.{machine_of}
use Rattle.areas.specs.declared.Areas.{Areas}
use Rattle.processor_start.specs.Answers.{StartAnswer, start_answer}
use Rattle.processor.specs.Answers.{CycleAnswer, RunAnswer, given_of, run_answer}
use Rattle.worked.specs.Rows.{Claim, Row, numbers, lists}
use Rattle.worked.specs.Cycling.{small, set_up, holding, registers_at, cycled, moved, goes, throws, raises, stops}

abbrev pub read_only : ℕ
read_only = 2 ^ 32 - 20

-- the two cells at 100h and 104h; and the one at a
abbrev pub two_cells : Table
two_cells = table_of 0x100 0x108

abbrev pub cell : ℕ → Table
cell a = table_of a (a + 4)

-- 7 and an address on the data stack at 214h
abbrev pub naming : ℕ → ℕ → List ℕ
naming order a = store_cell order (holding order 0x214 a) 0x218 7

abbrev pub refuses : ℕ → ℕ → ℕ → Row
refuses order opcode a = raises two_cells order (naming order a) opcode 0x214 0x318 read_only

-- ! and C! that go on
abbrev pub stores : Table → ℕ → ℕ → Row
stores table order a = goes table order (naming order a) 0x3A 0x214 0x318 0x21C 0x318 (store_cell order (naming order a) a 7)

abbrev pub stores_byte : ℕ → ℕ → Row
stores_byte order a =
    goes two_cells order (naming order a) 0x3C 0x214 0x318 0x21C 0x318 (set (naming order a) (byte_address order a) 7)

abbrev pub named_rows : ℕ → List Row
named_rows order =
    -- ! into the first and into the last cell of the table, just before it and just behind it
    refuses order 0x3A 0x100 ∷ refuses order 0x3A 0x104 ∷ stores two_cells order 0xFC ∷ stores two_cells order 0x108 ∷
    -- C! into the first and into the last byte, just before and just behind
    refuses order 0x3C 0x100 ∷ refuses order 0x3C 0x107 ∷ stores_byte order 0xFF ∷ stores_byte order 0x108 ∷
    -- +!
    refuses order 0x3D 0x100 ∷
    -- @ and C@ of a cell of the table
    goes two_cells order (naming order 0x104) 0x39 0x214 0x318 0x214 0x318 (store_cell order (naming order 0x104) 0x214 0) ∷
    goes two_cells order (naming order 0x104) 0x3B 0x214 0x318 0x214 0x318 (store_cell order (naming order 0x104) 0x214 0) ∷
    -- ! at an unaligned address of the table, and at MEMORY, where the table ends too
    throws two_cells order (naming order 0x102) 0x3A 0x214 0x318 (2 ^ 32 - 23) 0x102 ∷
    throws (table_of 0x3F0 0x400) order (naming order 0x400) 0x3A 0x214 0x318 (2 ^ 32 - 9) 0x400 ∷
    -- a table with equal ends has no byte
    stores (table_of 0x104 0x104) order 0x104 ∷ []

-- 2, 5, 6 and 7 in the data area, the 2 on top
abbrev pub full : ℕ → List ℕ
full order = store_cell order (store_cell order (store_cell order (holding order 0x210 2) 0x214 5) 0x218 6) 0x21C 7

-- what ROLL by 2 makes of them
abbrev pub turned : ℕ → List ℕ
turned order = store_cell order (store_cell order (store_cell order (full order) 0x21C 6) 0x218 5) 0x214 7

abbrev pub data_rows : ℕ → List Row
data_rows order =
    -- DUP's push into the table: no room for the -20 either. DUP of an item in the table goes on
    stops (cell 0x210) order (full order) 0x01 0x214 (2 ^ 32 - 258) 0x214
    ∷ goes (cell 0x214) order (full order) 0x01 0x214 0x318 0x210 0x318 (store_cell order (full order) 0x210 5)
    -- 1+ of an item in the table, and of one below it
    ∷ raises (cell 0x214) order (full order) 0x21 0x214 0x318 read_only
    ∷ goes (cell 0x218) order (full order) 0x21 0x214 0x318 0x214 0x318 (store_cell order (full order) 0x214 6)
    -- SWAP writes both of its cells, NIP one
    ∷ raises (cell 0x214) order (full order) 0x03 0x214 0x318 read_only
    ∷ raises (cell 0x218) order (full order) 0x03 0x214 0x318 read_only
    ∷ goes (cell 0x214) order (full order) 0x08 0x214 0x318 0x218 0x318 (store_cell order (full order) 0x218 5)
    -- TUCK at the bottom of the area: -20 of its first or second place comes before the third's -3
    ∷ raises (cell 0x214) order (full order) 0x07 0x210 0x318 read_only
    ∷ raises (cell 0x210) order (full order) 0x07 0x210 0x318 read_only
    ∷ raises no_table order (full order) 0x07 0x210 0x318 (2 ^ 32 - 3)
    -- ROLL by 2 over each edge of a table and into its middle; its own number is not written, and ROLL by 0 writes nothing
    ∷ raises (table_of 0x21C 0x224) order (full order) 0x0A 0x210 0x318 read_only
    ∷ raises (cell 0x218) order (full order) 0x0A 0x210 0x318 read_only
    ∷ raises (table_of 0x210 0x218) order (full order) 0x0A 0x210 0x318 read_only
    ∷ goes (cell 0x210) order (full order) 0x0A 0x210 0x318 0x214 0x318 (turned order)
    ∷ goes (cell 0x21C) order (holding order 0x218 0) 0x0A 0x218 0x318 0x21C 0x318 (holding order 0x218 0)
    -- a divisor of 0 is found before the place of the result
    ∷ raises (cell 0x218) order (store_cell order (full order) 0x214 0) 0x26 0x214 0x318 (2 ^ 32 - 10)
    ∷ []

-- the loop's index at 318h, the limit 5 above it
abbrev pub looping : ℕ → ℕ → List ℕ
looping order index = store_cell order (holding order 0x31C 5) 0x318 index

abbrev pub return_rows : ℕ → List Row
return_rows order =
    -- >R, EXECUTE, CALL and CALLI push into the table; R> takes an item out of it
    raises (cell 0x314) order (full order) 0x0C 0x214 0x318 read_only
    ∷ raises (cell 0x314) order (full order) 0x46 0x214 0x318 read_only
    ∷ raises (cell 0x314) order (full order) 0x48 0x214 0x318 read_only
    ∷ raises (cell 0x314) order (full order) 0x49 0x214 0x318 read_only
    ∷ goes (cell 0x318) order (full order) 0x0D 0x214 0x318 0x210 0x31C (store_cell order (full order) 0x210 0)
    -- (DO): its first place, its second; the first one's -20 before the second's -5, and the first one's -5 before the second's -20
    ∷ raises (cell 0x314) order (full order) 0x4B 0x214 0x318 read_only
    ∷ raises (cell 0x310) order (full order) 0x4B 0x214 0x318 read_only
    ∷ raises (cell 0x310) order (full order) 0x4B 0x214 0x314 read_only
    ∷ raises (cell 0x308) order (full order) 0x4B 0x214 0x310 (2 ^ 32 - 5)
    -- >R below and above the return area, where the table lies too: -5 and -6
    ∷ raises (cell 0x30C) order (full order) 0x0C 0x214 0x310 (2 ^ 32 - 5)
    ∷ raises (cell 0x320) order (full order) 0x0C 0x214 0x324 (2 ^ 32 - 6)
    -- (LOOP)I writes its index where it goes on, and nothing where it ends
    ∷ raises (cell 0x318) order (looping order 3) 0x4D 0x214 0x318 read_only
    ∷ (let c = cycled (cell 0x318) order (looping order 4) 0x4D 0x214 0x318 in
    numbers c.number 0 ∷ numbers c.code 0 ∷ lists c.memory (looping order 4) ∷ moved c.registers 0x14 0x214 0x320)
    ∷ []

-- start with areas and a table, at EP, with its handler at 20h
abbrev pub started : ℕ → Areas → Table → ℕ → StartAnswer
started order areas table ep = start_answer order areas table (set_up order) ep 0x20

-- the four cells that a start sets
abbrev pub start_cells : ℕ → List ℕ
start_cells order = store_cell order (store_cell order (store_cell order (set_up order) 4 0x400) 8 0xFFFFFFFF) 0xC 0xFFFFFFFF

abbrev pub throw_rows : ℕ → List Row
throw_rows order =
    -- DROP at the top: -4 would go into the table
    stops (cell 0x21C) order (set_up order) 0x02 0x220 (2 ^ 32 - 258) 0x220
    -- THROW pushes nothing
    ∷ (let c = cycled (cell 0x21C) order (set_up order) 0x54 0x220 0x318 in
    numbers c.number 0 ∷ lists c.memory (holding order 8 0x10) ∷ moved c.registers 0x24 0x220 0x318)
    -- a start at MEMORY, SP just above the table: -9 has no room; with the table a cell lower it has
    ∷ (let s = started order small (cell 0x21C) 0x400 in
    numbers s.number 1
    ∷ numbers s.reason (2 ^ 32 - 258)
    ∷ lists s.memory (start_cells order)
    ∷ moved s.registers 0x400 0x220 0x320)
    ∷ (let s = started order small (cell 0x218) 0x400 in numbers s.number 0 ∷ moved s.registers 0x24 0x21C 0x320)
    ∷ []

-- the code of a place: 0 for a good one
abbrev pub code_of : Machine → Checked → ℕ
code_of machine (Ok _) = 0
code_of machine (Err f) = exception_code (exception_of machine f)

-- with a table from 10h to MEMORY, which has every place
abbrev pub told : ℕ → Width → Access → ℕ → ℕ → Claim
told order width access a code =
    let machine = machine_of order small (table_of 0x10 0x400) 0x400 in
    numbers (code_of machine (place_of machine width access 0x400 a)) code

abbrev pub told_row : ℕ → Row
told_row order =
    told order one_cell DataWrite 0x400 (2 ^ 32 - 9)
    ∷ told order one_cell DataWrite 0x20E (2 ^ 32 - 23)
    ∷ told order one_cell DataWrite 0x20C (2 ^ 32 - 3)
    ∷ told order one_cell DataWrite 0x220 (2 ^ 32 - 4)
    ∷ told order one_cell DataWrite 0x210 read_only
    ∷ told order one_cell ReturnWrite 0x402 (2 ^ 32 - 9)
    ∷ told order one_cell ReturnWrite 0x312 (2 ^ 32 - 23)
    ∷ told order one_cell ReturnWrite 0x30C (2 ^ 32 - 5)
    ∷ told order one_cell ReturnWrite 0x320 (2 ^ 32 - 6)
    ∷ told order one_cell ReturnWrite 0x31C read_only
    ∷ told order one_cell NamedWrite 0x400 (2 ^ 32 - 9)
    ∷ told order one_cell NamedWrite 0x102 (2 ^ 32 - 23)
    ∷ told order one_cell NamedWrite 0x3FC read_only
    ∷ told order one_byte NamedWrite 0x400 (2 ^ 32 - 9)
    ∷ told order one_byte NamedWrite 0x102 read_only
    ∷ told order one_cell Push 0x20C read_only
    -- reads are not asked
    ∷ told order one_cell DataRead 0x20C 0
    ∷ told order one_cell ReturnRead 0x310 0
    ∷ told order one_cell NamedRead 0x100 0
    ∷ told order one_byte NamedRead 0x102 0
    ∷ told order one_cell Stream 0x100 0
    ∷ []

abbrev pub refused : ℕ → ℕ → Areas → Table → Row
refused order number areas table =
    let s = started order areas table 0x10 in numbers s.number number ∷ lists s.memory (set_up order) ∷ []

abbrev pub taken : ℕ → Table → Row
taken order table = numbers (started order small table 0x10).number 0 ∷ []

-- -4112: an end that is unaligned; the two exchanged; below 10h; past memory; one zero alone, which is no "none"
abbrev pub bad_tables : List Table
bad_tables =
    table_of 0x102 0x108
    ∷ table_of 0x100 0x106
    ∷ table_of 0x108 0x100
    ∷ table_of 0xC 0x20
    ∷ table_of 0xC 0xC
    ∷ table_of 0x3F0 0x404
    ∷ table_of 0x404 0x404
    ∷ table_of 0 0x20
    ∷ table_of 0x20 0
    ∷ []

-- none; from 10h on; up to MEMORY; equal ends, at 10h, between and at MEMORY
abbrev pub good_tables : List Table
good_tables =
    no_table
    ∷ table_of 0x10 0x400
    ∷ table_of 0x3FC 0x400
    ∷ table_of 0x10 0x10
    ∷ table_of 0x104 0x104
    ∷ table_of 0x400 0x400
    ∷ []

abbrev pub refused_cycle : ℕ → CycleAnswer
refused_cycle order = cycled (table_of 0x108 0x100) order (set_up order) 0x01 0x214 0x318

abbrev pub refused_run : ℕ → RunAnswer
refused_run order = run_answer (given_of order (table_of 0x108 0x100) (set_up order) (registers_at 0x01 0x214 0x318) 5)

abbrev pub given_rows : ℕ → List Row
given_rows order =
    -- a byte order of 2, and bad areas, are refused before the table
    refused 2 (2 ^ 32 - 4102) small (table_of 0x108 0x100)
    ∷ refused order (2 ^ 32 - 4111) (areas_of 0x220 0 0x320 4) (table_of 0x108 0x100)
    -- cycle and run refuse a table as start does, and leave all as it was
    ∷ (numbers (refused_cycle order).number (2 ^ 32 - 4112)
    ∷ lists (refused_cycle order).memory (set_up order)
    ∷ moved (refused_cycle order).registers 0x10 0x214 0x318)
    ∷ (numbers (refused_run order).number (2 ^ 32 - 4112)
    ∷ numbers (refused_run order).count 0
    ∷ lists (refused_run order).memory (set_up order)
    ∷ moved (refused_run order).registers 0x10 0x214 0x318)
    ∷ (map (refused order (2 ^ 32 - 4112) small) bad_tables ++ map (taken order) good_tables)

abbrev pub table_rows : ℕ → List Row
table_rows order = named_rows order ++ (data_rows order ++ (return_rows order ++ (throw_rows order ++ (told_row order ∷ given_rows order))))
