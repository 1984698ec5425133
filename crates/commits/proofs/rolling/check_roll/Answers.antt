-- `check_roll` meets its contract. The invariant is `Judging`.
use Rattle.std.proofs.lemmas.Result.{err_from_is_err_and}
use Prim.Native.Nat.{◌+◌, ◌-◌}
use native.Mathlib.Omega.{arith}
use mathlib.Core.Path.{◌≡◌, sym, ◌∙◌}
use Rattle.commits.proofs.RollLaws.{judge_bad, judge_again, judge_done}
use Rattle.commits.proofs.rolling.check_roll.Goals as goal

pub loop-k-preserved : goal.loop-k-preserved
loop-k-preserved c = let n : c.loop-k.k - 1 + 1 ≡ c.loop-k.k = omega (arith, c.loop-k-test.true) in
    judge_again c.args.machine c.args.memory.now c.args.top.0 c.args.depth.0 c.loop-k.k _ c.loop-k-test.true
    (rw (c.address_at.ensures, n) at c.check_data_write.ensures) c.in_ok-check_data_write.was c.loop-k.invariant

pub returns-in_err-check_data_write : goal.returns-in_err-check_data_write
returns-in_err-check_data_write c = let n : c.loop-k.k - 1 + 1 ≡ c.loop-k.k = omega (arith, c.loop-k-test.true) in
    let p = err_from_is_err_and c.from_residual.result c.from_residual.ensures.1 in
    rw (p.1, p.2) (sym c.in_err-check_data_write.was
    ∙ judge_bad c.args.machine c.args.memory.now c.args.top.0 c.args.depth.0 c.loop-k.k _ _ c.loop-k-test.true
    (rw (c.address_at.ensures, n) at c.check_data_write.ensures) c.in_err-check_data_write.was c.loop-k.invariant)

pub returns : goal.returns
returns c = judge_done c.args.machine c.args.memory.now c.args.top.0 c.args.depth.0 c.loop-k.k _ c.loop-k-test.false
    c.check_data_write-2.ensures c.loop-k.invariant
