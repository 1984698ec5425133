-- `batches::running::run_forms` meets its contract.
-- Assumes nothing.
use mathlib.Core.Path.{◌≡◌, refl, ap}
use Prim.Native.Nat.{◌+◌, ◌-◌}
use native.Mathlib.Omega.{arith}
use lib.ListN.{take, drop}
use Rattle.batch_reports.specs.declared.Tally.{Tally}
use Rattle.batches.specs.Batches.{common_of, forms_given}
use Rattle.batches.proofs.BatchLaws.{run_counted, run_left, batch_goes_on}
use Rattle.batches.proofs.running.run_forms.Goals as goal

pub add-t-requires-clause-forms_bound : goal.add-t-requires-clause-forms_bound
add-t-requires-clause-forms_bound c =
    omega (arith, ap (λ (t : Tally). t.forms) (c.count_run.ensures.value c.args.r c.args.memory.now), c.loop.invariant.counted, c.loop-test.true, c.ranges)

pub loop-preserved : goal.loop-preserved
loop-preserved c = let b = common_of c.args.order c.args.start.now c.args.address.0 c.args.r c.args.table c.args.budget in
    let f = forms_given c.args.forms.now c.args.count c.args.size in
    let form = take c.args.size (drop c.loop.at c.args.forms.now) in
    let n : c.loop.at + c.args.size - c.loop.at ≡ c.args.size = omega arith in
    let laid = rw n at c.lay_form.ensures in
    batch_goes_on b f c.args.memory.now c.loop.memory _ c.loop.t c.add-t.result c.loop.at c.loop.counter form refl
    (run_counted b form _ _ c.run.result c.loop.t c.count_run.result c.add-t.result laid c.run.ensures c.count_run.ensures.value c.add-t.ensures.value)
    c.add-t.ensures.within_2
    (run_left b form _ _ c.run.result c.loop.t c.count_run.result c.add-t.result laid c.run.ensures)
    (omega (arith, c.run.auto, c.lay_form.auto, c.loop.invariant.long))
    c.loop-test.true c.loop.invariant
