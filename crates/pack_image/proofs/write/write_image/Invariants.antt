use Rattle.pack_layout.specs.Listing.{listed}
use Rattle.pack_image.proofs.Writing.{WriteStep}
use Rattle.pack_image.proofs.write.write_image.Given as goal

abbrev pub invariant-loop-i : goal.invariant-loop-i
invariant-loop-i l = WriteStep l.order l.base.0 (listed l.kinds l.operands) l.placed l.initial.out l.out l.rest l.i
