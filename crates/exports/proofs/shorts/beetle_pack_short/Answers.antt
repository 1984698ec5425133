-- `exports::shorts::beetle_pack_short` meets its contract.
-- Assumes nothing.
use Rattle.short_calls.proofs.CallLaws.{pack_no_place, pack_told_lem}
use Rattle.exports.proofs.shorts.beetle_pack_short.Goals as goal

pub returns-then-out-lt1 : goal.returns-then-out-lt1
returns-then-out-lt1 c = pack_no_place c.args.file.now c.args.output.now c.args.out.now c.args.order _ c.judge_pack_short.ensures _ c.no_place.ensures c.if-out-lt1.true

pub returns : goal.returns
returns c = pack_told_lem c.args.file.now c.args.output.now c.args.out.now c.args.order _ _ _ _ c.if-out-lt1.false c.pack_short.ensures c.note_packed.ensures
