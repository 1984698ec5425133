use Rattle.pack_layout.specs.Layout.{spot_of}
use Rattle.pack_layout.specs.Listing.{listed}
use Rattle.pack_rounds.proofs.Laying.{LayStep}
use Rattle.pack_rounds.proofs.lay.lay_out.Given as goal

abbrev pub invariant-loop-i : goal.invariant-loop-i
invariant-loop-i l = LayStep (listed l.kinds l.operands) l.initial.placed l.placed (spot_of l.c) l.i
