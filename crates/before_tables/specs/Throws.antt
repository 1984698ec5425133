-- What was thrown, NEXT, the throw and the stops, before tables. Document 01, The processor, and document 02, (a).
use Rattle.std.specs.Prelude.{List, ℕ, ◌%◌, ltb, eqb, length, Ok, Err}
use Rattle.cell.specs.Choice.{if}
use Rattle.cell.specs.Memory.{store_cell, cell_at}
use Rattle.cell.specs.Number.{difference}
use Rattle.cell.specs.Place.{address, Checked, Fetched}
use Rattle.cell.specs.declared.Fault.{Fault}
use Rattle.cell.specs.declared.Fault.TheVariants as fault
use Rattle.machine.specs.Places.{one_cell}
use Rattle.exceptions.specs.Exceptions.{exception_code}
use Rattle.machine.specs.Commits.{Stepped}
use Rattle.exceptions.specs.Fixed.{bad_stack, handler_cell, bad_cell, address_cell}
use Rattle.throws.specs.Throws.{CycleState, cycle_state, entered, handed}
use Rattle.machine.specs.declared.Registers.{Registers}
use Rattle.machine.specs.declared.Access.TheVariants.{Stream, Push}
use Rattle.machine.specs.declared.Exception.{Exception}
use Rattle.machine.specs.declared.Exception.TheVariants.{Range, Alignment, DataOverflow, DataUnderflow, ReturnOverflow, ReturnUnderflow, ReadOnly, Divisor, Illegal, Library}
use Rattle.machine.specs.declared.Outcome.{Outcome}
use Rattle.machine.specs.declared.Outcome.TheVariants as outcome
use Rattle.machine.specs.declared.Ended.{Ended}
use Rattle.machine.specs.declared.Ended.TheVariants.{Went, Threw, Stopped}
use Rattle.before_tables.specs.Machines.{SpanBefore, MachineBefore, end_before}
use Rattle.before_tables.specs.Places.{place_before, fetch_before}

-- a stack's fault at a place in memory that was not one of its cells: unaligned, or below them, or at or above their end. A write of the held cell, the
-- lowest of the data stack's, counted as below
abbrev pub end_told_before : SpanBefore → ℕ → Exception → Exception → Exception
end_told_before span a below above = if (eqb (a % 4) 0) (if (ltb a (end_before span)) below above) (Alignment (address a))

-- Table was no fault of that time: no place gave it, and it stands as it is today
unfoldable pub exception_before : MachineBefore → Fault → Exception
exception_before machine (fault.Range a) = Range a
exception_before machine (fault.Alignment a) = Alignment a
exception_before machine (fault.Data a) = end_told_before machine.stack a.0 DataOverflow DataUnderflow
exception_before machine (fault.Return a) = end_told_before machine.returns a.0 ReturnOverflow ReturnUnderflow
exception_before machine fault.Table = ReadOnly
exception_before machine fault.Divisor = Divisor
exception_before machine fault.Illegal = Illegal
exception_before machine fault.Library = Library

-- -ADDRESS changed where the exception had an address
abbrev pub noted_before : ℕ → List ℕ → Exception → List ℕ
noted_before order m (Range a) = store_cell order m address_cell a.0
noted_before order m (Alignment a) = store_cell order m address_cell a.0
noted_before order m DataOverflow = m
noted_before order m DataUnderflow = m
noted_before order m ReturnOverflow = m
noted_before order m ReturnUnderflow = m
noted_before order m ReadOnly = m
noted_before order m Divisor = m
noted_before order m Illegal = m
noted_before order m Library = m

module _ (machine : MachineBefore) where
  -- 'BAD takes EP, and then the machine goes on at 'THROW
  abbrev to_handler : List ℕ → Registers → Ended → ℕ → CycleState
  to_handler m r e h = handed m r e h (fetch_before machine Stream m h)

  unfoldable pub handler_before : List ℕ → Registers → Ended → CycleState
  handler_before m r e =
      to_handler (store_cell machine.order m bad_cell r.ep) r e
      (cell_at machine.order (store_cell machine.order m bad_cell r.ep) handler_cell)

  -- the push of the code at a place that was judged, and the rest of the throw
  abbrev pub pushed_before : List ℕ → Registers → Exception → ℕ → Checked → CycleState
  pushed_before m r e sp (Err f) = cycle_state m r (Stopped bad_stack)
  pushed_before m r e sp (Ok _) =
      handler_before (store_cell machine.order (noted_before machine.order m e) sp (exception_code e))
      (record { ep = r.ep; a = r.a; sp = sp; rp = r.rp })
      (Threw e)

  unfoldable pub throw_before : List ℕ → Registers → Exception → CycleState
  throw_before m r e =
      pushed_before m r e (difference r.sp 4) (place_before machine one_cell Push (length m) (difference r.sp 4))

  -- THROW, 54h
  unfoldable pub throwing_before : List ℕ → Registers → CycleState
  throwing_before m r = if (eqb (r.sp % 4) 0) (handler_before m r Went) (cycle_state m r (Stopped bad_stack))

  abbrev pub nexted_before : List ℕ → Registers → Fetched → CycleState
  nexted_before m r (Ok x) = cycle_state m (entered r.ep x r) Went
  nexted_before m r (Err f) = throw_before m r (exception_before machine f)

  unfoldable pub next_before : List ℕ → Registers → CycleState
  next_before m r = nexted_before m r (fetch_before machine Stream m r.ep)

  -- the rest of a cycle
  abbrev pub finished_before : List ℕ → Registers → Outcome → CycleState
  finished_before m r outcome.Went = cycle_state m r Went
  finished_before m r outcome.Next = next_before m r
  finished_before m r (outcome.Raise f) = throw_before m r (exception_before machine f)
  finished_before m r (outcome.Halt x) = cycle_state m r (Stopped x)
  finished_before m r outcome.Throw = throwing_before m r

  unfoldable pub finish_before : Stepped → CycleState
  finish_before s = finished_before s.memory s.step.registers s.step.outcome
