-- A start, a cycle, any number of them, and how many a budget allows, before tables. Document 01, The processor.
use Rattle.std.specs.Prelude.{List, ℕ, zero, suc, ◌%◌, length}
use Rattle.cell.specs.Memory.{store_cell}
use Rattle.machine.specs.Commits.{Stepped, stepped}
use Rattle.exceptions.specs.Fixed.{handler_cell, memory_cell, bad_cell, address_cell}
use Rattle.throws.specs.Throws.{CycleState}
use Rattle.machine.specs.declared.Registers.{Registers}
use Rattle.machine.specs.declared.Outcome.TheVariants as outcome
use Rattle.machine.specs.declared.Ended.{Ended}
use Rattle.machine.specs.declared.Ended.TheVariants.{Went, Threw, Stopped}
use Rattle.instruction.specs.Dispatch.{OperandClass, next, plain, taking, operand_class, taken, decode_of}
use Rattle.instruction.specs.declared.Instruction.{Instruction}
use Rattle.cycles.specs.Cycles.{shifted}
use Rattle.cycles.specs.Counts.{counted}
use Rattle.before_tables.specs.Machines.{MachineBefore}
use Rattle.before_tables.specs.Places.{reading_before}
use Rattle.before_tables.specs.Plain.{plain_before}
use Rattle.before_tables.specs.Taking.{taking_at_before}
use Rattle.before_tables.specs.Commits.{commit_before}
use Rattle.before_tables.specs.Throws.{next_before, finish_before}

-- a start set 'THROW to the handler, MEMORY to the length, and 'BAD and -ADDRESS to FFFFFFFFh
abbrev pub cells_before : ℕ → List ℕ → ℕ → List ℕ
cells_before order m handler =
    store_cell order (store_cell order (store_cell order (store_cell order m handler_cell handler) memory_cell (length m)) bad_cell 0xFFFFFFFF)
    address_cell
    0xFFFFFFFF

module _ (machine : MachineBefore) where
  abbrev pub executed_before : List ℕ → Registers → Instruction → OperandClass → Stepped
  executed_before m r i next = stepped m (record { registers = r; outcome = outcome.Next })
  executed_before m r i plain =
      commit_before machine m r (plain_before machine.order m (reading_before machine m) r.ep r.sp r.rp i)
  executed_before m r i (taking form t) = taken form (commit_before machine m r (taking_at_before (reading_before machine m) form t r))

  unfoldable pub cycle_before : List ℕ → Registers → CycleState
  cycle_before m r =
      let i = decode_of (r.a % 256) in
      finish_before machine (executed_before m (shifted r) i (operand_class i))

  -- one cycle more; a stop stays
  abbrev pub advanced_before : CycleState → Ended → CycleState
  advanced_before s Went = cycle_before s.memory s.result.registers
  advanced_before s (Threw e) = cycle_before s.memory s.result.registers
  advanced_before s (Stopped x) = s

  unfoldable pub advance_before : CycleState → CycleState
  advance_before s = advanced_before s s.result.ended

  unfoldable pub cycles_before : ℕ → CycleState → CycleState
  cycles_before zero s = s
  cycles_before (suc n) s = cycles_before n (advance_before s)

  -- the cycles that a run does within a budget
  unfoldable pub done_before : ℕ → CycleState → ℕ
  done_before zero s = 0
  done_before (suc b) s = counted (advance_before s).result.ended (done_before b (advance_before s))

  -- the stacks began where they were told to
  unfoldable pub start_before : List ℕ → ℕ → ℕ → ℕ → ℕ → CycleState
  start_before m ep handler sp rp =
      next_before machine (cells_before machine.order m handler) (record { ep = ep; a = 0; sp = sp; rp = rp })
