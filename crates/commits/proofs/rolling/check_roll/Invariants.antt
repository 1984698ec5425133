use Rattle.commits.proofs.RollLaws.{Judging}
use Rattle.commits.proofs.rolling.check_roll.Given as goal

abbrev pub invariant-loop-k : goal.invariant-loop-k
invariant-loop-k l = Judging l.machine l.memory l.top.0 l.initial.k l.k
