-- `exports::images::beetle_unpack` meets its contract.
-- Assumes nothing.
use Rattle.unpack_calls.proofs.CallLaws.{unpack_no_place, unpack_told}
use Rattle.exports.proofs.images.beetle_unpack.Goals as goal

pub returns-then-out-lt1 : goal.returns-then-out-lt1
returns-then-out-lt1 c = unpack_no_place c.args.order c.args.image.now c.args.base c.args.kinds.now c.args.operands.now c.args.out.now _ c.judge_unpack.ensures _ c.no_place.ensures c.if-out-lt1.true

pub returns : goal.returns
returns c = unpack_told c.args.order c.args.image.now c.args.base c.args.kinds.now c.args.operands.now c.args.out.now _ _ _ _ _ c.if-out-lt1.false c.unpack.ensures c.note_unpacked.ensures
