-- `short_packing::pack::judge_pack_short` meets its contract.
-- Assumes nothing.
use mathlib.Core.Path.{sym}
use Rattle.std.proofs.lemmas.Result.{err_from_is_err_and}
use Rattle.short_packing.proofs.Packing.{input_good, input_refused, parts_judged}
use Rattle.short_packing.proofs.pack.judge_pack_short.Goals as goal

pub returns : goal.returns
returns c = parts_judged c.args.order c.args.file.now (input_good c.args.order c.args.file.now (sym c.in_ok-judge_input.ensures))
    c.cell_at-n.result c.cell_at.result c.operands_in-operands.result c.cell_at-n.ensures c.cell_at.ensures c.operands_in-operands.ensures.1 c.args.size _ c.judge_pack.ensures

pub returns-in_err-judge_input : goal.returns-in_err-judge_input
returns-in_err-judge_input c = let p = err_from_is_err_and c.from_residual.result c.from_residual.ensures.1 in
    rw (p.1, p.2) (sym (input_refused c.args.order c.args.file.now _ (sym c.in_err-judge_input.ensures) c.args.size))
