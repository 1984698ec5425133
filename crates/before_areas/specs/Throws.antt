-- NEXT, the throw and the stops, before areas. Document 01, The processor. What was thrown was the fault itself; it is told in the words of today, so that both
-- machines answer in one type.
use Rattle.cell.specs.Place.{Checked, Fetched}
use Rattle.std.specs.Prelude.{List, ℕ, ◌-◌, ◌%◌, ◌^◌, eqb, length, Ok, Err}
use Rattle.cell.specs.Choice.{if}
use Rattle.cell.specs.Memory.{store_cell, cell_at}
use Rattle.cell.specs.Number.{difference}
use Rattle.cell.specs.declared.Fault.{Fault}
use Rattle.cell.specs.declared.Fault.TheVariants.{Range, Alignment, Data, Return, Divisor, Illegal, Library}
use Rattle.cell.specs.declared.Fault.TheVariants as fault
use Rattle.machine.specs.Places.{one_cell}
use Rattle.machine.specs.Commits.{Stepped}
use Rattle.exceptions.specs.Fixed.{bad_stack, handler_cell, bad_cell, address_cell}
use Rattle.throws.specs.Throws.{CycleState, cycle_state, entered, handed}
use Rattle.machine.specs.declared.Registers.{Registers}
use Rattle.machine.specs.declared.Exception.{Exception}
use Rattle.machine.specs.declared.Exception.TheVariants as thrown
use Rattle.machine.specs.declared.Outcome.{Outcome}
use Rattle.machine.specs.declared.Outcome.TheVariants as outcome
use Rattle.machine.specs.declared.Ended.{Ended}
use Rattle.machine.specs.declared.Ended.TheVariants.{Went, Threw, Stopped}
use Rattle.before_areas.specs.Places.{place_before, fetch_before}

-- what was thrown, its code, and -ADDRESS. A stack had no fault of its own: Data and Return were not there, and stand as an unaligned address;
-- nor was there a table, and Table stands as it is today
abbrev pub thrown_before : Fault → Exception
thrown_before (Range a) = thrown.Range a
thrown_before (Alignment a) = thrown.Alignment a
thrown_before (Data a) = thrown.Alignment a
thrown_before (Return a) = thrown.Alignment a
thrown_before fault.Table = thrown.ReadOnly
thrown_before Divisor = thrown.Divisor
thrown_before Illegal = thrown.Illegal
thrown_before Library = thrown.Library

abbrev pub code_before : Fault → ℕ
code_before (Range a) = 2 ^ 32 - 9
code_before (Alignment a) = 2 ^ 32 - 23
code_before (Data a) = 2 ^ 32 - 23
code_before (Return a) = 2 ^ 32 - 23
code_before fault.Table = 2 ^ 32 - 20
code_before Divisor = 2 ^ 32 - 10
code_before Illegal = 2 ^ 32 - 256
code_before Library = 2 ^ 32 - 257

abbrev pub noted_before : ℕ → List ℕ → Fault → List ℕ
noted_before order m (Range a) = store_cell order m address_cell a.0
noted_before order m (Alignment a) = store_cell order m address_cell a.0
noted_before order m (Data a) = store_cell order m address_cell a.0
noted_before order m (Return a) = store_cell order m address_cell a.0
noted_before order m fault.Table = m
noted_before order m Divisor = m
noted_before order m Illegal = m
noted_before order m Library = m

module _ (order : ℕ) where
  -- 'BAD takes EP, and then the machine goes on at 'THROW
  abbrev to_handler : List ℕ → Registers → Ended → ℕ → CycleState
  to_handler m r e h = handed m r e h (fetch_before order m h)

  unfoldable pub handler_before : List ℕ → Registers → Ended → CycleState
  handler_before m r e =
      to_handler (store_cell order m bad_cell r.ep) r e (cell_at order (store_cell order m bad_cell r.ep) handler_cell)

  -- the push of the code at a place that was judged, and the rest of the throw
  abbrev pub pushed_before : List ℕ → Registers → Fault → ℕ → Checked → CycleState
  pushed_before m r f sp (Err g) = cycle_state m r (Stopped bad_stack)
  pushed_before m r f sp (Ok _) =
      handler_before (store_cell order (noted_before order m f) sp (code_before f)) (record { ep = r.ep; a = r.a; sp = sp; rp = r.rp })
      (Threw (thrown_before f))

  unfoldable pub throw_before : List ℕ → Registers → Fault → CycleState
  throw_before m r f = pushed_before m r f (difference r.sp 4) (place_before one_cell (length m) (difference r.sp 4))

  -- THROW, 54h
  unfoldable pub throwing_before : List ℕ → Registers → CycleState
  throwing_before m r = if (eqb (r.sp % 4) 0) (handler_before m r Went) (cycle_state m r (Stopped bad_stack))

  abbrev pub nexted_before : List ℕ → Registers → Fetched → CycleState
  nexted_before m r (Ok x) = cycle_state m (entered r.ep x r) Went
  nexted_before m r (Err f) = throw_before m r f

  unfoldable pub next_before : List ℕ → Registers → CycleState
  next_before m r = nexted_before m r (fetch_before order m r.ep)

  -- the rest of a cycle
  abbrev pub finished_before : List ℕ → Registers → Outcome → CycleState
  finished_before m r outcome.Went = cycle_state m r Went
  finished_before m r outcome.Next = next_before m r
  finished_before m r (outcome.Raise f) = throw_before m r f
  finished_before m r (outcome.Halt x) = cycle_state m r (Stopped x)
  finished_before m r outcome.Throw = throwing_before m r

  unfoldable pub finish_before : Stepped → CycleState
  finish_before s = finished_before s.memory s.step.registers s.step.outcome
