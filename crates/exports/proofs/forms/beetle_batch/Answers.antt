-- `exports::forms::beetle_batch` meets its contract.
-- Assumes nothing.
use mathlib.Core.Path.{◌∙◌}
use Rattle.exports.proofs.forms.beetle_batch.Goals as goal

pub returns : goal.returns
returns c = c.call_batch.ensures ∙ rw (c.make_areas.ensures, c.make_table.ensures)
