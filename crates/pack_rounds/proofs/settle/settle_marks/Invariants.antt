use Rattle.std.proofs.Common.{◌-◌, length}
use Rattle.pack_layout.specs.Placed.{marked_in}
use Rattle.pack_layout.proofs.Rounds.{count}
use Rattle.pack_rounds.proofs.Settling.{RoundStep}
use Rattle.pack_rounds.proofs.settle.settle_marks.Given as goal

abbrev pub invariant-loop-cells : goal.invariant-loop-cells
invariant-loop-cells l = RoundStep l.kinds l.operands l.placed

abbrev pub decreases-loop-cells : goal.decreases-loop-cells
decreases-loop-cells l = length l.kinds - count (marked_in l.placed) (length l.kinds)
