-- `lengthening::write_items` meets its contract.
-- Assumes nothing.
use mathlib.Core.Path.{refl, sym, ap, ◌∙◌}
use native.Mathlib.Omega.{arith}
use Rattle.pack_layout.specs.Kinds.{class_of}
use Rattle.short_judging.proofs.Parts.{short_kind_lem}
use Rattle.short_judging.proofs.Turns.{operands_more, operands_most, operands_room, bit_most}
use Rattle.short_judging.specs.ShortFile.{short_count, short_kind, short_listing}
use Rattle.short_judging.specs.Operands.{has_operand, operands_before}
use Rattle.short_files.proofs.Items.{lengthen_item}
use Rattle.short_files.proofs.Filling.{filled_none}
use Rattle.short_files.specs.Files.{operand_bytes}
use Rattle.lengthening.proofs.write_items.Goals as goal

pub loop-i-init : goal.loop-i-init
unfolding operands_before
loop-i-init c = (omega arith, filled_none c.args.output.now 8 c.args.n (short_listing c.args.file.now).kind (operand_bytes (short_listing c.args.file.now)))

pub operand_at-requires : goal.operand_at-requires
operand_at-requires c = let k = short_kind_lem c.args.file.now c.loop-i.i (omega (arith, c.requires.n_value.0)) in
    let g = operands_room (short_kind c.args.file.now) c.loop-i.i (short_count c.args.file.now) _ (omega (arith, c.loop-i-test.true, c.requires.n_value.0)) (c.class_of-c.ensures ∙ ap class_of (sym k)) in
    omega (arith, c.requires.n_value.2, c.loop-i.invariant.0, g)

pub overflow_add-at-in-loop-i : goal.overflow_add-at-in-loop-i
overflow_add-at-in-loop-i c = omega (arith, c.requires.n_value.1, c.loop-i.invariant.0, operands_most (short_kind c.args.file.now) c.loop-i.i, c.operands_of.ensures, bit_most (has_operand c.class_of-c.result))

pub loop-i-preserved : goal.loop-i-preserved
loop-i-preserved c = let l = short_listing c.args.file.now in
    let k = short_kind_lem c.args.file.now c.loop-i.i (omega (arith, c.requires.n_value.0)) in
    let g = operands_more (short_kind c.args.file.now) c.loop-i.i (operands_before (short_kind c.args.file.now) c.loop-i.i) _ _ (c.class_of-c.ensures ∙ ap class_of (sym k)) refl c.operands_of.ensures in
    let next = lengthen_item c.args.file.now c.args.output.now c.args.n c.loop-i.output _ c.loop-i.i c.loop-i.at _ _ _ c.requires.n_value.0 (omega (arith, c.requires.n_value.2)) c.loop-i-test.true refl c.class_of-c.ensures c.loop-i.invariant.0 c.operand_at.ensures c.loop-i.invariant.1 c.put.ensures in (
      omega (arith, c.loop-i.invariant.0, g),
      next,
    )
