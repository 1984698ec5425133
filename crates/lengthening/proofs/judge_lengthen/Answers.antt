-- `lengthening::judge_lengthen` meets its contract.
-- Assumes nothing.
use mathlib.Core.Path.{◌≡◌, sym}
use Rattle.cell.specs.Refusals.{passed}
use native.Mathlib.Omega.{arith}
use Rattle.short_judging.proofs.Passing.{short_good}
use Rattle.short_judging.specs.Judging.{judged_short}
use Rattle.short_files.proofs.Answering.{room_short, room_good, lengthened_length}
use Rattle.short_files.specs.Converted.{lengthened, judge_lengthen}
use Rattle.lengthening.proofs.judge_lengthen.Goals as goal

pub cell_at-requires : goal.cell_at-requires
cell_at-requires c = omega (arith, (short_good c.args.file.now (sym c.in_ok-judge_short.ensures)).whole)

pub returns-then-size-cell_at : goal.returns-then-size-cell_at
unfolding judge_lengthen
returns-then-size-cell_at c = let p : judged_short c.args.file.now ≡ passed = sym c.in_ok-judge_short.ensures in
    sym (room_short (judged_short c.args.file.now) (lengthened c.args.file.now) _ c.args.size p (lengthened_length c.args.file.now p) (omega (arith, c.if-size-cell_at.true, c.cell_at.ensures)))

pub returns : goal.returns
unfolding judge_lengthen
returns c = let p : judged_short c.args.file.now ≡ passed = sym c.in_ok-judge_short.ensures in
    sym (room_good (judged_short c.args.file.now) (lengthened c.args.file.now) _ c.args.size p (lengthened_length c.args.file.now p) (omega (arith, c.if-size-cell_at.false, c.cell_at.ensures)))
