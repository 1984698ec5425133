-- A start.
use Rattle.std.specs.Prelude.{List, ℕ, length}
use Rattle.cell.specs.Memory.{store_cell}
use Rattle.exceptions.specs.Fixed.{handler_cell, memory_cell, bad_cell, address_cell}
use Rattle.throws.specs.Throws.{CycleState, next_of}
use Rattle.machine.specs.declared.Machine.{Machine}

-- a start sets 'THROW to the handler, MEMORY to the length, and 'BAD and -ADDRESS to FFFFFFFFh
abbrev pub four_cells : Machine → List ℕ → ℕ → List ℕ
four_cells machine m handler =
    store_cell machine.order
    (store_cell machine.order (store_cell machine.order (store_cell machine.order m handler_cell handler) memory_cell (length m)) bad_cell
    0xFFFFFFFF)
    address_cell
    0xFFFFFFFF

-- the stacks begin where they are told to, and NEXT fetches the first cell
unfoldable pub start_of : Machine → List ℕ → ℕ → ℕ → ℕ → ℕ → CycleState
start_of machine m ep handler sp rp =
    next_of machine (four_cells machine m handler) (record { ep = ep; a = 0; sp = sp; rp = rp })
