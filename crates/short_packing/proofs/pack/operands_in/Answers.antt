-- `short_packing::pack::operands_in` meets its contract.
-- Assumes nothing.
use mathlib.Core.Path.{refl, sym, ap, ◌∙◌}
use native.Mathlib.Omega.{arith}
use lib.ListN.{length-set}
use Rattle.pack_layout.specs.Kinds.{class_of}
use Rattle.short_judging.proofs.Parts.{short_kind_lem}
use Rattle.short_judging.proofs.Turns.{operands_more, operands_most, operands_room, bit_most}
use Rattle.short_judging.specs.ShortFile.{short_count, short_kind}
use Rattle.short_judging.specs.Operands.{has_operand, operands_before, in_turn}
use Rattle.short_packing.proofs.Packing.{read_more}
use Rattle.short_packing.proofs.pack.operands_in.Goals as goal

pub loop-i-init : goal.loop-i-init
unfolding operands_before in_turn
loop-i-init c = (refl, omega arith, refl)

pub operand_at-requires : goal.operand_at-requires
operand_at-requires c = let k = short_kind_lem c.args.file.now c.loop-i.i (omega (arith, c.cell_at-n.ensures)) in
    let g = operands_room (short_kind c.args.file.now) c.loop-i.i (short_count c.args.file.now) _ (omega (arith, c.loop-i-test.true, c.cell_at-n.ensures)) (c.class_of-c.ensures ∙ ap class_of (sym k)) in
    omega (arith, c.requires.1, c.cell_at-n.ensures, c.loop-i.invariant.1, g)

pub overflow_add-at-in-loop-i : goal.overflow_add-at-in-loop-i
overflow_add-at-in-loop-i c = omega (arith, c.requires.0, c.cell_at-n.ensures, c.loop-i.invariant.1, operands_most (short_kind c.args.file.now) c.loop-i.i, c.operands_of.ensures, bit_most (has_operand c.class_of-c.result))

pub loop-i-preserved : goal.loop-i-preserved
loop-i-preserved c = let k = short_kind_lem c.args.file.now c.loop-i.i (omega (arith, c.cell_at-n.ensures)) in
    let g = operands_more (short_kind c.args.file.now) c.loop-i.i (operands_before (short_kind c.args.file.now) c.loop-i.i) _ _ (c.class_of-c.ensures ∙ ap class_of (sym k)) refl c.operands_of.ensures in (
      length-set c.loop-i.operands c.loop-i.i c.operand_at.result ∙ c.loop-i.invariant.0,
      omega (arith, c.loop-i.invariant.1, g),
      read_more c.args.file.now c.loop-i.operands c.cell_at-n.result c.loop-i.i c.loop-i.at c.operand_at.result _ c.cell_at-n.ensures c.loop-i-test.true (omega (arith, c.requires.0, c.cell_at-n.ensures, c.loop-i.invariant.0)) c.class_of-c.ensures c.loop-i.invariant.1 c.operand_at.ensures c.loop-i.invariant.2,
    )
