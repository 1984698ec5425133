-- The cycles that a run does within a budget.
use Rattle.std.specs.Prelude.{Bool, true, false, List, ℕ, zero, suc, eqb}
use Rattle.throws.specs.Throws.{CycleState, cycle_state}
use Rattle.machine.specs.declared.Machine.{Machine}
use Rattle.machine.specs.declared.Registers.{Registers}
use Rattle.machine.specs.declared.Ended.{Ended}
use Rattle.machine.specs.declared.Ended.TheVariants.{Went, Threw, Stopped}
use Rattle.cycles.specs.Cycles.{advance}

-- before any cycle
abbrev pub begun : List ℕ → Registers → CycleState
begun m r = cycle_state m r Went

abbrev pub is_stop : Ended → Bool
is_stop Went = false
is_stop (Threw f) = false
is_stop (Stopped x) = true

-- a cycle that ends a run with so much of its budget left: a stop, or a throw in the last one
abbrev pub is_last : Ended → ℕ → Bool
is_last Went n = false
is_last (Threw f) n = eqb n 0
is_last (Stopped x) n = true

-- the cycles done, the stopping one counted. Document 01, The processor, on run
abbrev pub counted : Ended → ℕ → ℕ
counted Went n = suc n
counted (Threw f) n = suc n
counted (Stopped x) n = 1

unfoldable pub done_of : Machine → ℕ → CycleState → ℕ
done_of machine zero s = 0
done_of machine (suc b) s = counted (advance machine s).result.ended (done_of machine b (advance machine s))
