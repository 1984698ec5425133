-- `run_items` meets its contract. The invariant is `Going`.
use mathlib.Core.Path.{sym, ◌∙◌}
use mathlib.Core.Bool.{◌&&◌}
use Rattle.pack_layout.specs.Listing.{listed}
use Rattle.list_tables.specs.Tables.{opens_in}
use Rattle.list_tables.proofs.TableLaws.{in_rows}
use Rattle.list_items.proofs.RunLaws.{run_item, run_goes_on, cycles_is, few_cycles}
use Rattle.list_items.proofs.running.run_items.Goals as goal

pub cycles_at-cycles-requires : goal.cycles_at-cycles-requires
cycles_at-cycles-requires c =
    (in_rows _ _ _ _ c.requires.settled _
    (run_item c.args.machine c.args.image.base.0 (listed c.args.kinds.now c.args.operands.now) c.args.memory.now c.args.start _ _ _ c.loop.invariant (sym c.is_over.ensures ∙ c.if-is_over.false))).0

pub carry_out-c-requires-clause-item_in_bounds : goal.carry_out-c-requires-clause-item_in_bounds
carry_out-c-requires-clause-item_in_bounds c =
    run_item c.args.machine c.args.image.base.0 (listed c.args.kinds.now c.args.operands.now) c.args.memory.now c.args.start _ _ _ c.loop.invariant (sym c.is_over.ensures ∙ c.if-is_over.false)

pub loop-preserved : goal.loop-preserved
loop-preserved c = let o = sym c.is_over.ensures ∙ c.if-is_over.false in
    let l = listed c.args.kinds.now c.args.operands.now in
    run_goes_on c.args.machine c.args.image.base.0 l c.args.memory.now c.args.start _ _ _ c.loop.invariant o _ c.cycles_at-cycles.result c.carry_out-c.result _
    (cycles_is _ _ _ _ c.requires.settled c.args.machine c.loop.memory c.loop.ran.stand
    (run_item c.args.machine c.args.image.base.0 l c.args.memory.now c.args.start _ _ _ c.loop.invariant o) c.cycles_at-cycles.result c.cycles_at-cycles.ensures)
    (few_cycles (c.loop.ran.stand.ran && opens_in c.args.table.now c.loop.ran.stand.item.0) _ c.cycles_at-cycles.ensures)
    c.carry_out-c.ensures c.count_item-ran.ensures c.carry_out-c.auto.memory
