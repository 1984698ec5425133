-- The rows on counting loops (document 02, (e)), for a byte order: one cycle of (+LOOP)I in a cell at 20h that leads to 1Ch, its step on the data stack at
-- 200h, index and limit on the return stack at 300h.
use Rattle.std.specs.Prelude.{List, [], ◌∷◌, ℕ, ◌-◌, ◌^◌}
use Rattle.cell.specs.Memory.{store_cell}
use Rattle.machine.specs.Places.{no_table}
use Rattle.areas.specs.Areas.{no_areas, filed}
use Rattle.processor.specs.Answers.{CycleAnswer, cycle_answer}
use Rattle.worked.specs.Rows.{Row, numbers, lists}
use Rattle.worked.specs.Processor.{blank}

abbrev pub counting : ℕ → ℕ → ℕ → ℕ → List ℕ
counting order index limit step = store_cell order (store_cell order (store_cell order blank 0x304 limit) 0x300 index) 0x200 step

abbrev pub stepped : ℕ → ℕ → ℕ → ℕ → CycleAnswer
stepped order index limit step =
    cycle_answer order no_table (counting order index limit step) (filed no_areas (record { ep = 0x24; a = 0xFFFFFE4F; sp = 0x200; rp = 0x300 }))

-- the loop ends: index and limit are dropped, nothing is written, and the next cell follows
abbrev pub ends : ℕ → ℕ → ℕ → ℕ → Row
ends order index limit step =
    let c = stepped order index limit step in
    numbers c.registers.registers.ep 0x28
    ∷ numbers c.registers.registers.sp 0x204
    ∷ numbers c.registers.registers.rp 0x308
    ∷ lists c.memory (counting order index limit step)
    ∷ []

-- the loop goes on at 1Ch, with the index that is written
abbrev pub continues : ℕ → ℕ → ℕ → ℕ → ℕ → Row
continues order index limit step new =
    let c = stepped order index limit step in
    numbers c.registers.registers.ep 0x20
    ∷ numbers c.registers.registers.sp 0x204
    ∷ numbers c.registers.registers.rp 0x300
    ∷ lists c.memory (store_cell order (counting order index limit step) 0x300 new)
    ∷ []

abbrev pub counting_rows : ℕ → List Row
counting_rows order =
    -- the two cases of the document: from 7FFFFFFFh by 1, to the limits 80000000h and 0
    ends order 0x7FFFFFFF 0x80000000 1 ∷ continues order 0x7FFFFFFF 0 1 0x80000000 ∷
    -- up by 4: past a limit two steps away, and to one
    continues order 0x7FFFFFF8 0x80000000 4 0x7FFFFFFC ∷ ends order 0x7FFFFFFC 0x80000000 4 ∷
    -- up over the end of the circle
    continues order 0xFFFFFFF0 0x10 0x10 0 ∷ ends order 0 0x10 0x10 ∷
    -- down by 4: to the limit, and below it
    continues order 0x80000004 0x80000000 (2 ^ 32 - 4) 0x80000000 ∷ ends order 0x80000000 0x80000000 (2 ^ 32 - 4) ∷
    -- by 0, at the limit and just below it
    continues order 0x80000000 0x80000000 0 0x80000000 ∷ continues order 0x7FFFFFFF 0x80000000 0 0x7FFFFFFF ∷
    -- down by 2^31, the longest step: from as far above the limit, and from one place nearer
    continues order 0x90000000 0x10000000 0x80000000 0x10000000 ∷ ends order 0x8FFFFFFF 0x10000000 0x80000000 ∷ []
