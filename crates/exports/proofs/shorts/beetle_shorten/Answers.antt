-- `exports::shorts::beetle_shorten` meets its contract.
-- Assumes nothing.
use Rattle.short_calls.proofs.CallLaws.{shorten_no_place, shorten_told}
use Rattle.exports.proofs.shorts.beetle_shorten.Goals as goal

pub returns-then-out-lt1 : goal.returns-then-out-lt1
returns-then-out-lt1 c = shorten_no_place c.args.file.now c.args.output.now c.args.out.now _ c.judge_shorten.ensures _ c.no_place.ensures c.if-out-lt1.true

pub returns : goal.returns
returns c = shorten_told c.args.file.now c.args.output.now c.args.out.now _ _ _ _ c.if-out-lt1.false c.shorten.ensures c.note_converted.ensures
