-- `unpacker::unpack::judge_unpack` meets its contract.
-- Assumes nothing.
use mathlib.Core.Path.{◌∙◌}
use Rattle.unpacker.proofs.Answering.{read_refused, read_passed, judged_refused, judged_passed}
use Rattle.std.proofs.lemmas.Result.{err_from_is_err_and}
use Rattle.unpacker.proofs.unpack.judge_unpack.Goals as goal

pub returns-in_err-n : goal.returns-in_err-n
returns-in_err-n c = let p = err_from_is_err_and c.from_residual.result c.from_residual.ensures.1 in
    rw (p.1, p.2) (judged_refused c.args.order c.args.base.0 c.args.image.now _ _ _ (read_refused _ _ c.recover.result _ c.recover.ensures.value c.in_err-n.was))

pub returns : goal.returns
returns c = let p = read_passed _ _ c.recover.result _ c.recover.ensures.value c.in_ok-n.was in
    c.judge_arrays.ensures ∙ judged_passed c.args.order c.args.base.0 c.args.image.now _ _ _ p.0 p.1
