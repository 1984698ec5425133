-- `pack_rounds::mark::mark_branches` meets its contract: the items passed are those after the round, the others those before it.
-- Assumes nothing.
use Rattle.std.proofs.Common.{refl}
use Rattle.pack_rounds.proofs.Marking.{mark_start, mark_left, mark_inside, mark_step, pass_step}
use Rattle.pack_rounds.proofs.mark.mark_branches.Goals.{then-newly, else-newly}
use Rattle.pack_rounds.proofs.mark.mark_branches.Goals as goal

pub loop-i-init : goal.loop-i-init
loop-i-init c = mark_start _ _ c.requires.checked.input c.requires.placed_len c.requires.laid

pub newly-requires : goal.newly-requires
newly-requires c = (
  mark_left _ _ _ _ _ c.loop-i.invariant c.loop-i-test.true,
  mark_inside _ _ _ _ _ c.loop-i.invariant c.loop-i-test.true,
)

pub loop-i-preserved : goal.loop-i-preserved
loop-i-preserved c = elim c.if-newly.branch [
  | then-newly w ↦ rw (w.placed-is, w.added-is) (mark_step _ _ _ _ _ c.loop-i.invariant c.loop-i-test.true _ c.newly.ensures w.if-newly.true _ refl)
  | else-newly w ↦ rw (w.placed-is, w.added-is) (pass_step _ _ _ _ _ c.loop-i.invariant c.loop-i-test.true _ c.newly.ensures w.if-newly.false)
]
