use Rattle.pack_layout.specs.Listing.{listed}
use Rattle.pack_rounds.proofs.Marking.{MarkStep}
use Rattle.pack_rounds.proofs.mark.mark_branches.Given as goal

abbrev pub invariant-loop-i : goal.invariant-loop-i
invariant-loop-i l = MarkStep (listed l.kinds l.operands) l.initial.placed l.placed l.added l.i
