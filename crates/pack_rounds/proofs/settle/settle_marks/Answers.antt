-- `pack_rounds::settle::settle_marks` meets its contract. The measure is the number of items without a mark.
-- Assumes nothing.
use Rattle.pack_rounds.proofs.Settling.{round_step, round_less, marks_after, laid_after}
use Rattle.pack_rounds.proofs.settle.settle_marks.Goals as goal

pub loop-cells-smaller : goal.loop-cells-smaller
loop-cells-smaller c = round_less _ _ _ _ _ _ c.loop-cells.invariant c.lay_out-cells.auto.placed c.lay_out-cells.ensures.entered c.lay_out-cells.ensures.marks
    c.mark_branches-added.auto.placed c.mark_branches-added.ensures.value c.mark_branches-added.ensures.marked c.if-not-added.false

pub loop-cells-preserved : goal.loop-cells-preserved
loop-cells-preserved c = round_step _ _ _ _ _ _ c.loop-cells.invariant c.lay_out-cells.auto.placed c.lay_out-cells.ensures.entered c.lay_out-cells.ensures.marks
    c.mark_branches-added.auto.placed c.mark_branches-added.ensures.value c.mark_branches-added.ensures.marked c.if-not-added.false

pub returns-clause-marks_after : goal.returns-clause-marks_after
returns-clause-marks_after c = marks_after _ _ _ _ _ _ c.loop-cells.invariant c.lay_out-cells.auto.placed c.lay_out-cells.ensures.entered c.lay_out-cells.ensures.marks
    c.mark_branches-added.auto.placed c.mark_branches-added.ensures.value c.mark_branches-added.ensures.marked c.if-not-added.true

pub returns-clause-laid : goal.returns-clause-laid
returns-clause-laid c = laid_after _ _ _ _ _ _ c.loop-cells.invariant c.lay_out-cells.auto.placed c.lay_out-cells.ensures.entered c.lay_out-cells.ensures.marks
    c.mark_branches-added.auto.placed c.mark_branches-added.ensures.value c.mark_branches-added.ensures.marked c.if-not-added.true c.lay_out-cells.ensures.laid
