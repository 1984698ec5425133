-- `pack_rounds::lay::lay_out` meets its contract: before each item the cursor and the array are those of the layout.
-- Assumes nothing.
use Rattle.std.proofs.Common.{refl}
use Rattle.pack_rounds.proofs.Laying.{lay_start, lay_step}
use Rattle.pack_rounds.proofs.lay.lay_out.Goals as goal

pub loop-i-init : goal.loop-i-init
loop-i-init c = lay_start _ _ c.requires.checked.input c.requires.placed_len c.requires.entered

pub loop-i-preserved : goal.loop-i-preserved
loop-i-preserved c = lay_step _ _ _ _ _ c.loop-i.invariant c.loop-i-test.true _ c.begun-d.ensures _ refl refl refl refl refl _ _ _ c.class_of.ensures c.form_of-g.ensures c.finished-c.ensures
