use Rattle.pack_layout.specs.Listing.{listed}
use Rattle.list_items.proofs.RunLaws.{Going}
use Rattle.list_items.proofs.running.run_items.Given as goal

abbrev pub invariant-loop : goal.invariant-loop
invariant-loop l = Going l.machine l.image.base.0 (listed l.kinds l.operands) l.initial.memory l.fn.start l.memory l.ran l.counter
