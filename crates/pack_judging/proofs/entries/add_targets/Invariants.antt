use Rattle.pack_layout.specs.Listing.{listed}
use Rattle.pack_layout.specs.Placed.{Entered, EntriesAlone}
use Rattle.pack_judging.proofs.Passes.{entry_with}
use Rattle.pack_judging.proofs.entries.add_targets.Given as goal

abbrev pub invariant-loop-j : goal.invariant-loop-j
invariant-loop-j l = record {
  entered : Entered l.placed (entry_with (listed l.kinds l.operands) l.j) l.n;
  rest : EntriesAlone l.initial.placed l.placed;
}
