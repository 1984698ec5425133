-- `shortening::shorten` meets its contract.
-- Assumes nothing.
use mathlib.Core.Path.{sym}
use native.Mathlib.Omega.{arith}
use Rattle.std.proofs.lemmas.Result.{err_from_is_err_and}
use Rattle.pack_layout.specs.File.{file_count, filed, judged_file}
use Rattle.short_judging.proofs.Passing.{counted_refused, counted_passed, file_good}
use Rattle.short_judging.proofs.Turns.{operands_most}
use Rattle.short_files.proofs.Answering.{room_refused, room_short, room_good, shortened_length, convert_refused, convert_passed}
use Rattle.short_files.specs.Converted.{shortened, judge_shorten, shorten_of}
use Rattle.shortening.proofs.shorten.Goals as goal

pub cell_at-requires : goal.cell_at-requires
cell_at-requires c = let p = counted_passed c.args.file.now _ c.count_operands.ensures _ c.in_ok-m.was in omega (arith, (file_good c.args.file.now p.0).whole)

pub returns-then-output-size : goal.returns-then-output-size
unfolding shorten_of judge_shorten
returns-then-output-size c = let p = counted_passed c.args.file.now _ c.count_operands.ensures _ c.in_ok-m.was in
    convert_refused _ _ _ _ (room_short (judged_file c.args.file.now) (shortened c.args.file.now) _ _ p.0 (shortened_length c.args.file.now p.0) (omega (arith, c.if-output-size.true, c.short_length-size.ensures, c.cell_at.ensures, p.1)))

pub write_short-requires : goal.write_short-requires
write_short-requires c = let p = counted_passed c.args.file.now _ c.count_operands.ensures _ c.in_ok-m.was in
    let g = file_good c.args.file.now p.0 in record {
      file_bound = (g.most, g.whole);
      m_value = (sym p.1, omega (arith, c.if-output-size.false, c.short_length-size.ensures, c.cell_at.ensures));
    }

pub overflow_cast-result : goal.overflow_cast-result
overflow_cast-result c = let p = counted_passed c.args.file.now _ c.count_operands.ensures _ c.in_ok-m.was in
    omega (arith, (file_good c.args.file.now p.0).most, p.1, operands_most (filed c.args.file.now).kind (file_count c.args.file.now), c.short_length-size.ensures, c.cell_at.ensures)

pub returns : goal.returns
unfolding shorten_of judge_shorten
returns c = let p = counted_passed c.args.file.now _ c.count_operands.ensures _ c.in_ok-m.was in
    convert_passed _ (shortened c.args.file.now) _ _ _ (room_good (judged_file c.args.file.now) (shortened c.args.file.now) _ _ p.0 (shortened_length c.args.file.now p.0) (omega (arith, c.if-output-size.false, c.short_length-size.ensures, c.cell_at.ensures, p.1))) c.write_short.ensures
    (let t = shortened_length c.args.file.now p.0 in omega (arith, t, c.short_length-size.ensures, c.cell_at.ensures, p.1))

pub returns-in_err-m : goal.returns-in_err-m
unfolding shorten_of judge_shorten
returns-in_err-m c = let p = err_from_is_err_and c.from_residual.result c.from_residual.ensures.1 in
    rw (p.1, p.2) (convert_refused _ _ _ _ (room_refused (judged_file c.args.file.now) (shortened c.args.file.now) _ _ (counted_refused c.args.file.now _ c.count_operands.ensures _ c.in_err-m.was)))
