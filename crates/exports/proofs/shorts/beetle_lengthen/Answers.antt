-- `exports::shorts::beetle_lengthen` meets its contract.
-- Assumes nothing.
use Rattle.short_calls.proofs.CallLaws.{lengthen_no_place, lengthen_told}
use Rattle.exports.proofs.shorts.beetle_lengthen.Goals as goal

pub returns-then-out-lt1 : goal.returns-then-out-lt1
returns-then-out-lt1 c = lengthen_no_place c.args.file.now c.args.output.now c.args.out.now _ c.judge_lengthen.ensures _ c.no_place.ensures c.if-out-lt1.true

pub returns : goal.returns
returns c = lengthen_told c.args.file.now c.args.output.now c.args.out.now _ _ _ _ c.if-out-lt1.false c.lengthen.ensures c.note_converted.ensures
