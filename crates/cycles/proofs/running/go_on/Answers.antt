-- `go_on` meets its contract. The invariant is `Looping`; the measure is the budget left.
use mathlib.Core.Path.{◌∙◌, refl}
use Rattle.cycles.proofs.RunLaws.{loop_begins, loops_at, went}
use Rattle.cycles.proofs.running.go_on.Goals as goal

pub loop-left-init : goal.loop-left-init
loop-left-init c = loop_begins _ _ _ _

pub loop-left-preserved : goal.loop-left-preserved
loop-left-preserved c =
    loops_at c.args.machine c.args.memory.now c.args.r c.args.budget c.loop-left.memory c.loop-left.registers c.loop-left.left c.loop-left.invariant
    c.loop-left-test.true _ _ (went c.args.machine _ c.execute-step.result c.in-Went.is ∙ c.execute-step.ensures) c.execute-step.auto.memory refl
