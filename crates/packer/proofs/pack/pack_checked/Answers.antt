-- `packer::pack::pack_checked` meets its contract.
use mathlib.Core.Path.{sym}
use lib.ListN.{length}
use Rattle.pack_layout.specs.Listing.{listed}
use Rattle.pack_refusals.proofs.Judging.{counted_fits}
use Rattle.packer.proofs.pack.pack_checked.Goals as goal

pub write_image-requires-clause-base_bound : goal.write_image-requires-clause-base_bound
write_image-requires-clause-base_bound c = counted_fits c.args.base.0 (length c.args.output.now) (listed c.args.kinds.now c.args.operands.now)
    c.prepare-cells.result c.prepare-cells.ensures.value (sym c.in_ok-judge_image.ensures)
