-- `shortening::write_items` meets its contract.
-- Assumes nothing.
use mathlib.Core.Path.{refl, sym, ap, ◌∙◌}
use native.Mathlib.Omega.{arith}
use lib.ListN.{length-set}
use Rattle.pack_layout.specs.File.{file_count, filed}
use Rattle.pack_layout.specs.Kinds.{class_of}
use Rattle.short_judging.proofs.Parts.{file_kind}
use Rattle.short_judging.proofs.Turns.{operands_more, operands_most, operands_room, bit_most}
use Rattle.short_judging.specs.Operands.{has_operand, operands_before}
use Rattle.short_files.proofs.Items.{shorten_item}
use Rattle.short_files.proofs.Filling.{filled_none}
use Rattle.short_files.specs.Files.{kept_bytes}
use Rattle.shortening.proofs.write_items.Goals as goal

pub loop-i-init : goal.loop-i-init
unfolding operands_before
loop-i-init c = (omega arith, filled_none c.args.output.now 12 c.args.n (filed c.args.file.now).kind (kept_bytes (filed c.args.file.now)))

pub put_kept-requires : goal.put_kept-requires
put_kept-requires c = let k = file_kind c.args.file.now c.loop-i.i (omega (arith, c.requires.n_value.0)) in
    let g = operands_room (filed c.args.file.now).kind c.loop-i.i (file_count c.args.file.now) _ (omega (arith, c.loop-i-test.true, c.requires.n_value.0)) (c.class_of-c.ensures ∙ ap class_of (sym k)) in
    simp length-set (omega (arith, c.requires.file_in_bounds, c.loop-i.auto.output, c.loop-i.invariant.0, g))

pub overflow_add-at-in-loop-i : goal.overflow_add-at-in-loop-i
overflow_add-at-in-loop-i c = omega (arith, c.requires.n_value.1, c.loop-i.invariant.0, operands_most (filed c.args.file.now).kind c.loop-i.i, c.operands_of.ensures, bit_most (has_operand c.class_of-c.result))

pub loop-i-preserved : goal.loop-i-preserved
loop-i-preserved c = let l = filed c.args.file.now in
    let k = file_kind c.args.file.now c.loop-i.i (omega (arith, c.requires.n_value.0)) in
    let g = operands_more l.kind c.loop-i.i (operands_before l.kind c.loop-i.i) _ _ (c.class_of-c.ensures ∙ ap class_of (sym k)) refl c.operands_of.ensures in
    let next = shorten_item c.args.file.now c.args.output.now c.args.n c.loop-i.output _ c.loop-i.i c.loop-i.at _ _ _ c.requires.n_value.0 c.loop-i-test.true refl c.class_of-c.ensures c.cell_at.ensures c.loop-i.invariant.0 c.loop-i.invariant.1 c.put_kept.ensures in (
      omega (arith, c.loop-i.invariant.0, g),
      next,
    )
