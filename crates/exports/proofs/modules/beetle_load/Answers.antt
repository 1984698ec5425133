-- `beetle_load` meets its contract: the call that halts, with the largest count.
use mathlib.Core.Path.{◌∙◌}
use native.Mathlib.Omega.{arith}
use Rattle.cell.specs.Memory as mem
use Rattle.module_loading.proofs.AnswerLaws.{count_below}
use Rattle.calls.proofs.ModuleLaws.{first_call_whole}
use Rattle.exports.proofs.modules.beetle_load.Goals as goal

pub returns : goal.returns
unfolding mem.Bytewise
returns c = let h = count_below c.args.file.now (λ i. (c.type_inv.file i).fits) in
    c.call_load_first.ensures
    ∙ first_call_whole c.args.order c.args.memory.now c.args.file.now c.args.address 0xFFFFFFFF c.args.out.now (omega (arith, h))
