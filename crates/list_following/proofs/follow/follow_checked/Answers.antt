-- `follow_checked` meets its contract: the table of an image that passed is settled.
use mathlib.Core.Path.{refl, sym, ◌∙◌}
use Rattle.list_following.proofs.Following.{image_settled}
use Rattle.list_following.proofs.follow.follow_checked.Goals as goal

pub run_items-requires-clause-settled : goal.run_items-requires-clause-settled
run_items-requires-clause-settled c =
    image_settled c.args.kinds.now c.args.operands.now _ c.args.base.0 c.settle_table-cells.result c.args.room _ c.requires.checked
    (c.settle_table-cells.auto.table ∙ c.requires.table_len) c.settle_table-cells.ensures.rows c.settle_table-cells.ensures.value refl refl
    (sym c.judge_image.ensures ∙ c.in_ok-judge_image.was)
