-- `shortening::judge_shorten` meets its contract.
-- Assumes nothing.
use mathlib.Core.Path.{sym}
use native.Mathlib.Omega.{arith}
use Rattle.std.proofs.lemmas.Result.{err_from_is_err_and}
use Rattle.pack_layout.specs.File.{judged_file}
use Rattle.short_judging.proofs.Passing.{counted_refused, counted_passed, file_good}
use Rattle.short_files.proofs.Answering.{room_refused, room_short, room_good, shortened_length}
use Rattle.short_files.specs.Converted.{shortened, judge_shorten}
use Rattle.shortening.proofs.judge_shorten.Goals as goal

pub cell_at-requires : goal.cell_at-requires
cell_at-requires c = let p = counted_passed c.args.file.now _ c.count_operands.ensures _ c.in_ok-m.was in omega (arith, (file_good c.args.file.now p.0).whole)

pub returns-then-size-short_length : goal.returns-then-size-short_length
unfolding judge_shorten
returns-then-size-short_length c = let p = counted_passed c.args.file.now _ c.count_operands.ensures _ c.in_ok-m.was in
    sym (room_short (judged_file c.args.file.now) (shortened c.args.file.now) _ c.args.size p.0 (shortened_length c.args.file.now p.0) (omega (arith, c.if-size-short_length.true, c.short_length.ensures, c.cell_at.ensures, p.1)))

pub returns : goal.returns
unfolding judge_shorten
returns c = let p = counted_passed c.args.file.now _ c.count_operands.ensures _ c.in_ok-m.was in
    sym (room_good (judged_file c.args.file.now) (shortened c.args.file.now) _ c.args.size p.0 (shortened_length c.args.file.now p.0) (omega (arith, c.if-size-short_length.false, c.short_length.ensures, c.cell_at.ensures, p.1)))

pub returns-in_err-m : goal.returns-in_err-m
unfolding judge_shorten
returns-in_err-m c = let p = err_from_is_err_and c.from_residual.result c.from_residual.ensures.1 in
    rw (p.1, p.2) (sym (room_refused (judged_file c.args.file.now) (shortened c.args.file.now) c.args.size _ (counted_refused c.args.file.now _ c.count_operands.ensures _ c.in_err-m.was)))
