use Rattle.cycles.specs.Running.{Looping}
use Rattle.cycles.proofs.running.run_cycles.Given as goal

abbrev pub invariant-loop-left : goal.invariant-loop-left
invariant-loop-left l = Looping l.machine l.initial.memory l.initial.registers l.budget l.memory l.registers l.left

abbrev pub decreases-loop-left : goal.decreases-loop-left
decreases-loop-left l = l.left
