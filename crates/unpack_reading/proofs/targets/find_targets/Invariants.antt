use Rattle.unpack_reading.proofs.Finding.{Turned}
use Rattle.unpack_reading.proofs.targets.find_targets.Given as goal

abbrev pub invariant-loop-i : goal.invariant-loop-i
invariant-loop-i l = Turned l.kinds l.initial.operands l.firsts l.base.0 l.operands l.i
