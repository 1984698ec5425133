-- `short_judging::file::count_operands` meets its contract.
use mathlib.Core.Path.{sym, ◌∙◌}
use borrow.Author.Tests.{le-ltb, ne_eqb}
use Rattle.short_judging.proofs.Passes.{file_counted}
use Rattle.short_judging.specs.Judging.{counted_file}
use Rattle.short_judging.proofs.file.count_operands.Goals as goal

pub returns : goal.returns
unfolding counted_file
returns c = c.count_items.ensures
    ∙ rw (file_counted c.args.file.now (sym c.in_ok-judge_length.ensures), ← c.cell_at-n.ensures, ne_eqb _ 0 c.if-n-eq0.false, le-ltb _ _ c.if-n-gt-MOST_ITEMS.false)
