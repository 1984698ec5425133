-- `lengthening::lengthen` meets its contract.
-- Assumes nothing.
use mathlib.Core.Path.{sym, ap, ◌∙◌}
use Prim.Native.Nat.{ℕ, ◌+◌, ◌*◌}
use native.Mathlib.Omega.{arith}
use Rattle.short_judging.proofs.Passing.{short_good}
use Rattle.short_judging.specs.Judging.{judged_short}
use Rattle.short_files.proofs.Answering.{room_passed, lengthened_length, convert_passed}
use Rattle.short_files.specs.Converted.{lengthened, judge_lengthen, lengthen_of}
use Rattle.lengthening.proofs.lengthen.Goals as goal

pub write_long-requires : goal.write_long-requires
unfolding judge_lengthen
write_long-requires c = let p = room_passed (judged_short c.args.file.now) (lengthened c.args.file.now) _ (sym c.in_ok-judge_lengthen.ensures) in
    let g = short_good c.args.file.now p.0 in record {
      file_bound = (g.most, omega (arith, g.whole, g.operands));
      file_in_bounds = omega (arith, p.1, lengthened_length c.args.file.now p.0);
    }

pub cell_at-requires : goal.cell_at-requires
unfolding judge_lengthen
cell_at-requires c = let p = room_passed (judged_short c.args.file.now) (lengthened c.args.file.now) _ (sym c.in_ok-judge_lengthen.ensures) in
    omega (arith, (short_good c.args.file.now p.0).whole)

pub overflow_mul-result : goal.overflow_mul-result
unfolding judge_lengthen
overflow_mul-result c = let p = room_passed (judged_short c.args.file.now) (lengthened c.args.file.now) _ (sym c.in_ok-judge_lengthen.ensures) in
    omega (arith, (short_good c.args.file.now p.0).most, c.cell_at.ensures)

pub overflow_add-result : goal.overflow_add-result
unfolding judge_lengthen
overflow_add-result c = let p = room_passed (judged_short c.args.file.now) (lengthened c.args.file.now) _ (sym c.in_ok-judge_lengthen.ensures) in
    omega (arith, (short_good c.args.file.now p.0).most, c.cell_at.ensures)

pub returns : goal.returns
unfolding lengthen_of judge_lengthen
returns c = let q = sym c.in_ok-judge_lengthen.ensures in
    let p = room_passed (judged_short c.args.file.now) (lengthened c.args.file.now) _ q in
    convert_passed _ (lengthened c.args.file.now) _ _ _ q c.write_long.ensures (ap (λ (k : ℕ). 8 + 5 * k) c.cell_at.ensures ∙ sym (lengthened_length c.args.file.now p.0))
