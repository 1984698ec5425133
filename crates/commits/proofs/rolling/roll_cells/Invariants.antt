use Rattle.commits.proofs.RollLaws.{Rolling}
use Rattle.commits.proofs.rolling.roll_cells.Given as goal

abbrev pub invariant-loop-k : goal.invariant-loop-k
invariant-loop-k l = Rolling l.machine l.initial.memory l.top.0 l.initial.k l.last l.memory l.k
