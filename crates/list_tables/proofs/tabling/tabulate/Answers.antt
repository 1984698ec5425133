-- `tabulate` meets its contract: the rows of the items passed say what the layout does.
use mathlib.Core.Path.{refl, ◌∙◌}
use native.Mathlib.Omega.{arith}
use Rattle.list_tables.proofs.TableLaws.{behind_low, next_row}
use Rattle.list_tables.proofs.tabling.tabulate.Goals as goal

pub overflow_add-behind : goal.overflow_add-behind
overflow_add-behind c = omega (
  arith,
  behind_low _ _ _ c.requires.checked c.requires.prepared _ c.loop-i-test.true _ c.class_of.ensures _ c.form_of-form.ensures _ c.extra_of-extra.ensures,
)

pub loop-i-preserved : goal.loop-i-preserved
loop-i-preserved c =
    next_row _ _ _ c.requires.checked c.requires.prepared _ c.loop-i-test.true _ c.class_of.ensures _ c.form_of-form.ensures _ c.extra_of-extra.ensures
    _ (c.loop-i.auto.table ∙ c.requires.table_len) _ refl refl refl refl refl c.is_short.ensures c.loop-i.invariant
