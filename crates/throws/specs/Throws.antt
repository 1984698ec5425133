-- NEXT, the throw and the stops. Document 01, The processor, on throws: the address goes to -ADDRESS where the fault has one, the code to the data
-- stack, EP to 'BAD; then the machine goes on at the address in 'THROW, by a NEXT there. Where one of these cannot be done, it stops.
use Rattle.cell.specs.Place.{Checked, Fetched}
use Rattle.std.specs.Prelude.{List, ℕ, ◌%◌, eqb, length, Ok, Err}
use Rattle.cell.specs.Choice.{if}
use Rattle.cell.specs.Memory.{store_cell, cell_at}
use Rattle.cell.specs.Number.{sum, difference}
use Rattle.machine.specs.Places.{one_cell, place_of, fetch_of}
use Rattle.machine.specs.Commits.{Stepped}
use Rattle.exceptions.specs.Exceptions.{exception_of, exception_code}
use Rattle.exceptions.specs.Fixed.{bad_stack, bad_handler, handler_cell, bad_cell, address_cell}
use Rattle.machine.specs.declared.Machine.{Machine}
use Rattle.machine.specs.declared.Registers.{Registers}
use Rattle.machine.specs.declared.Access.TheVariants.{Stream, Push}
use Rattle.machine.specs.declared.Exception.{Exception}
use Rattle.machine.specs.declared.Exception.TheVariants.{Range, Alignment, DataOverflow, DataUnderflow, ReturnOverflow, ReturnUnderflow, ReadOnly, Divisor, Illegal, Library}
use Rattle.machine.specs.declared.Outcome.{Outcome}
use Rattle.machine.specs.declared.Outcome.TheVariants as outcome
use Rattle.machine.specs.declared.Ended.{Ended}
use Rattle.machine.specs.declared.Ended.TheVariants.{Went, Threw, Stopped}
use Rattle.machine.specs.declared.CycleResult.{CycleResult}

-- memory, registers and how the cycle ended
pub record CycleState : Type 0 where
  pub memory : List ℕ
  pub result : CycleResult

abbrev pub cycle_state : List ℕ → Registers → Ended → CycleState
cycle_state m r e = record { memory = m; result = record { registers = r; ended = e } }

abbrev pub with_result : List ℕ → CycleResult → CycleState
with_result m t = record { memory = m; result = t }

abbrev pub stopped : Registers → ℕ → CycleResult
stopped r reason = record { registers = r; ended = Stopped reason }

-- A is the cell at h, EP the address after it
abbrev pub entered : ℕ → ℕ → Registers → Registers
entered h x r = record { ep = sum h 4; a = x; sp = r.sp; rp = r.rp }

-- 'BAD has taken EP; EP takes 'THROW and NEXT follows. A 'THROW at which no cell can be read stops the machine with -259, in the
-- registers that it had
abbrev pub handed : List ℕ → Registers → Ended → ℕ → Fetched → CycleState
handed m r e h (Ok x) = cycle_state m (entered h x r) e
handed m r e h (Err f) = cycle_state m r (Stopped bad_handler)

abbrev pub to_handler : Machine → List ℕ → Registers → Ended → ℕ → CycleState
to_handler machine m r e h = handed m r e h (fetch_of machine Stream m h)

-- 'BAD takes EP, then the handler
unfoldable pub handler_of : Machine → List ℕ → Registers → Ended → CycleState
handler_of machine m r e =
    to_handler machine (store_cell machine.order m bad_cell r.ep) r e
    (cell_at machine.order (store_cell machine.order m bad_cell r.ep) handler_cell)

-- -ADDRESS changes where the exception has an address
abbrev pub noted : Machine → List ℕ → Exception → List ℕ
noted machine m (Range a) = store_cell machine.order m address_cell a.0
noted machine m (Alignment a) = store_cell machine.order m address_cell a.0
noted machine m DataOverflow = m
noted machine m DataUnderflow = m
noted machine m ReturnOverflow = m
noted machine m ReturnUnderflow = m
noted machine m ReadOnly = m
noted machine m Divisor = m
noted machine m Illegal = m
noted machine m Library = m

-- the code at a place that was judged, then the rest of the throw. Where the place is bad, -ADDRESS stays too, and -258 stops the machine
abbrev pub pushed : Machine → List ℕ → Registers → Exception → ℕ → Checked → CycleState
pushed machine m r e sp (Err f) = cycle_state m r (Stopped bad_stack)
pushed machine m r e sp (Ok _) =
    handler_of machine (store_cell machine.order (noted machine m e) sp (exception_code e))
    (record { ep = r.ep; a = r.a; sp = sp; rp = r.rp })
    (Threw e)

unfoldable pub throw_of : Machine → List ℕ → Registers → Exception → CycleState
throw_of machine m r e =
    pushed machine m r e (difference r.sp 4) (place_of machine one_cell Push (length m) (difference r.sp 4))

-- THROW, 54h, finds its code on the stack already. An unaligned SP stops it with -258
unfoldable pub throwing_of : Machine → List ℕ → Registers → CycleState
throwing_of machine m r = if (eqb (r.sp % 4) 0) (handler_of machine m r Went) (cycle_state m r (Stopped bad_stack))

-- NEXT moves the cell at EP into A, and EP behind it
abbrev pub nexted : Machine → List ℕ → Registers → Fetched → CycleState
nexted machine m r (Ok x) = cycle_state m (entered r.ep x r) Went
nexted machine m r (Err f) = throw_of machine m r (exception_of machine f)

unfoldable pub next_of : Machine → List ℕ → Registers → CycleState
next_of machine m r = nexted machine m r (fetch_of machine Stream m r.ep)

-- the rest of a cycle, by how the instruction left the machine. A NEXT that an instruction ends in is a step of its own: where it
-- fails, what the instruction did before it stays done
abbrev pub finished : Machine → List ℕ → Registers → Outcome → CycleState
finished machine m r outcome.Went = cycle_state m r Went
finished machine m r outcome.Next = next_of machine m r
finished machine m r (outcome.Raise f) = throw_of machine m r (exception_of machine f)
finished machine m r (outcome.Halt x) = cycle_state m r (Stopped x)
finished machine m r outcome.Throw = throwing_of machine m r

unfoldable pub finish_of : Machine → Stepped → CycleState
finish_of machine s = finished machine s.memory s.step.registers s.step.outcome
