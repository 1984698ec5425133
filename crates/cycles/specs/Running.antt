-- Where a run stands on its way: the cycles done so far, and what is still to be counted.
use Rattle.std.specs.Prelude.{◌≡◌, ◌≤◌, false, List, ℕ, suc, ◌+◌, ◌-◌, length}
use Rattle.machine.specs.Commits.{stepped}
use Rattle.throws.specs.Throws.{with_result, finish_of}
use Rattle.machine.specs.declared.Machine.{Machine}
use Rattle.machine.specs.declared.Registers.{Registers}
use Rattle.machine.specs.declared.CycleResult.{CycleResult}
use Rattle.machine.specs.declared.Step.{Step}
use Rattle.machine.specs.declared.Ended.{Ended}
use Rattle.machine.specs.declared.Ended.TheVariants.{Went}
use Rattle.cycles.specs.Cycles.{cycle_of, cycles_of}
use Rattle.cycles.specs.Counts.{is_stop, done_of}

-- a run that has not ended, with so much of its budget left
pub record Running (machine : Machine) (m0 : List ℕ) (t0 : CycleResult) (budget : ℕ) (m : List ℕ) (t : CycleResult) (left : ℕ) : Type 0 where
  pub within : left ≤ budget
  pub going : is_stop t.ended ≡ false
  pub spent : left ≡ 0 → t.ended ≡ Went
  pub long : length m ≡ length m0
  pub here : with_result m t ≡ cycles_of machine (budget - left) (with_result m0 t0)
  pub ahead : done_of machine budget (with_result m0 t0) ≡ (budget - left) + done_of machine left (with_result m t)

-- the same, however the last cycle ended
pub record Looping (machine : Machine) (m0 : List ℕ) (r0 : Registers) (budget : ℕ) (m : List ℕ) (r : Registers) (left : ℕ) : Type 0 where
  pub last : Ended
  pub running : Running machine m0 (record { registers = r0; ended = Went }) budget m (record { registers = r; ended = last }) left

-- a run whose next cycle has come to a step that is still to be finished
pub record Stalled (machine : Machine) (m0 : List ℕ) (r0 : Registers) (budget : ℕ) (m2 : List ℕ) (s : Step) (left : ℕ) : Type 0 where
  pub memory : List ℕ
  pub registers : Registers
  pub looping : Looping machine m0 r0 budget memory registers (suc left)
  pub cycle : finish_of machine (stepped m2 s) ≡ cycle_of machine memory registers
  pub long : length m2 ≡ length memory
