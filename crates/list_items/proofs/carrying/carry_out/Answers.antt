-- `carry_out` meets its contract: the item is found, judged and carried out as the list machine's is.
use mathlib.Core.Path.{ap, ◌∙◌}
use Rattle.list_tables.proofs.TableLaws.{is_near}
use Rattle.list_counting.specs.Outcomes.{leaves}
use Rattle.list_items.proofs.CarryLaws.{carry_is}
use Rattle.list_items.proofs.carrying.carry_out.Goals as goal

pub returns : goal.returns
returns c = c.perform.ensures ∙ ap (leaves c.args.memory.now) (carry_is c.args.kinds.now c.args.operands.now c.args.table.now c.args.image
    c.requires.settled c.args.machine c.args.memory.now c.args.s c.requires.item_in_bounds c.requires.lent.0
    c.shape_of-asked.result c.shape_of-asked.ensures c.intent_of-intent.result c.intent_of-intent.ensures
    c.registers_at-r.result c.registers_at-r.ensures)

pub intent_of-intent-requires-clause-near : goal.intent_of-intent-requires-clause-near
intent_of-intent-requires-clause-near c = is_near _ _ _ _ c.requires.settled
