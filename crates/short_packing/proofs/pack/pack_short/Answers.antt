-- `short_packing::pack::pack_short` meets its contract.
-- Assumes nothing.
use mathlib.Core.Path.{sym}
use Rattle.short_packing.proofs.Packing.{input_good, parts_packed}
use Rattle.short_packing.proofs.pack.pack_short.Goals as goal

pub returns : goal.returns
returns c = parts_packed c.args.order c.args.file.now (input_good c.args.order c.args.file.now (sym c.in_ok-judge_input.ensures))
    c.cell_at-n.result c.cell_at.result c.operands_in-operands.result c.cell_at-n.ensures c.cell_at.ensures c.operands_in-operands.ensures.1 c.args.output.now _ c.pack.ensures
