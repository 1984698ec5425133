-- One cycle of an opcode in A, and what it leaves, with a table, for a byte order: the data area is 210h to 220h with the held cell at 20Ch, the return area 310h to
-- 320h; EP is 10h, the handler is at 20h, and -ADDRESS is 5A5Ah before.
use Rattle.std.specs.Prelude.{List, [], ◌∷◌, ℕ, ◌-◌}
use Rattle.cell.specs.Memory.{cell_at, store_cell}
use Rattle.machine.specs.declared.Table.{Table}
use Rattle.areas.specs.Areas.{areas_of, filed}
use Rattle.areas.specs.declared.Areas.{Areas}
use Rattle.areas.specs.declared.RegisterFile.{RegisterFile}
use Rattle.processor.specs.Answers.{CycleAnswer, cycle_answer}
use Rattle.worked.specs.Rows.{Claim, Row, numbers, lists}
use Rattle.worked.specs.Processor.{blank}

abbrev pub small : Areas
small = areas_of 0x220 4 0x320 4

-- the handler is DUP
abbrev pub set_up : ℕ → List ℕ
set_up order = store_cell order (store_cell order (store_cell order blank 0 0x20) 0xC 0x5A5A) 0x20 0x01

-- the same with one more cell
abbrev pub holding : ℕ → ℕ → ℕ → List ℕ
holding order a x = store_cell order (set_up order) a x

abbrev pub registers_at : ℕ → ℕ → ℕ → RegisterFile
registers_at opcode sp rp = filed small (record { ep = 0x10; a = opcode; sp = sp; rp = rp })

abbrev pub cycled : Table → ℕ → List ℕ → ℕ → ℕ → ℕ → CycleAnswer
cycled table order m opcode sp rp = cycle_answer order table m (registers_at opcode sp rp)

-- the four numbers stand in registers as they were given
abbrev pub unchanged : RegisterFile → List Claim
unchanged f =
    numbers f.areas.stack.top.0 0x220
    ∷ numbers f.areas.stack.cells.0 4
    ∷ numbers f.areas.returns.top.0 0x320
    ∷ numbers f.areas.returns.cells.0 4
    ∷ []

-- where a cycle left the registers that it moves
abbrev pub moved : RegisterFile → ℕ → ℕ → ℕ → List Claim
moved f ep sp rp =
    numbers f.registers.ep ep
    ∷ numbers f.registers.sp sp
    ∷ numbers f.registers.rp rp
    ∷ unchanged f

-- the instruction goes on with SP and RP, and leaves this memory
abbrev pub goes : Table → ℕ → List ℕ → ℕ → ℕ → ℕ → ℕ → ℕ → List ℕ → Row
goes table order m opcode sp rp new_sp new_rp left =
    let c = cycled table order m opcode sp rp in
    numbers c.number 0 ∷ numbers c.code 0 ∷ lists c.memory left ∷ moved c.registers 0x10 new_sp new_rp

-- a code is thrown with this -ADDRESS: it stands just below SP, and the handler follows
abbrev pub throws : Table → ℕ → List ℕ → ℕ → ℕ → ℕ → ℕ → ℕ → Row
throws table order m opcode sp rp code address =
    let c = cycled table order m opcode sp rp in
    numbers c.number 0
    ∷ numbers c.code code
    ∷ numbers (cell_at order c.memory (sp - 4)) code
    ∷ numbers (cell_at order c.memory 0xC) address
    ∷ lists c.memory (store_cell order (store_cell order (store_cell order m 0xC address) (sp - 4) code) 8 0x10)
    ∷ moved c.registers 0x24 (sp - 4) rp

-- the codes of areas and tables name no address: -ADDRESS is as it was
abbrev pub raises : Table → ℕ → List ℕ → ℕ → ℕ → ℕ → ℕ → Row
raises table order m opcode sp rp code = throws table order m opcode sp rp code 0x5A5A

-- the machine stops with a reason, with SP where it is told to be and memory as it was
abbrev pub stops : Table → ℕ → List ℕ → ℕ → ℕ → ℕ → ℕ → Row
stops table order m opcode sp reason new_sp =
    let c = cycled table order m opcode sp 0x318 in
    numbers c.number 1 ∷ numbers c.reason reason ∷ lists c.memory m ∷ moved c.registers 0x10 new_sp 0x318
