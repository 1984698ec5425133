use Rattle.pack_layout.specs.Placed.{Entered, EntriesAlone}
use lib.ListN.{get_or}
use Rattle.pack_layout.specs.Listing.{after_call}
use Rattle.pack_judging.proofs.entries.after_calls.Given as goal

abbrev pub invariant-loop-i : goal.invariant-loop-i
invariant-loop-i l = record {
  entered : Entered l.placed (after_call (λ k. get_or l.kinds k 0)) l.i;
  rest : EntriesAlone l.fn.placed l.placed;
}
