-- `pack_image::write::write_image` meets its contract: the items from the present one on are written.
-- Assumes nothing.
use mathlib.Core.Path.{◌∙◌}
use native.Mathlib.Omega.{arith}
use Rattle.pack_image.proofs.Writing.{write_start, item_left, item_kind, item_target, item_open, item_operand, item_step}
use Rattle.pack_image.proofs.write.write_image.Goals as goal

pub loop-i-init : goal.loop-i-init
loop-i-init c = write_start _ _ _ _ _ (record {
  ok = c.requires.checked.input;
  whole = c.requires.placed_len;
  laid = c.requires.laid;
  marked = c.requires.marks_value;
  room = c.requires.base_bound.1;
})

pub pack_item-p-requires : goal.pack_item-p-requires
pack_item-p-requires c = (
  item_left _ _ _ _ _ _ _ _ c.loop-i.invariant (omega (arith, c.loop-i-test.true)),
  c.requires.base_bound.0,
  item_target _ _ _ _ _ _ _ _ c.loop-i.invariant (omega (arith, c.loop-i-test.true)),
)

pub put_operand-requires : goal.put_operand-requires
put_operand-requires c = item_operand _ _ _ _ _ _ _ _ c.loop-i.invariant (omega (arith, c.loop-i-test.true)) _ c.pack_item-p.ensures.0

pub word_of-w-requires : goal.word_of-w-requires
word_of-w-requires c = item_kind _ _ _ _ _ _ _ _ c.loop-i.invariant (omega (arith, c.loop-i-test.true))

pub put_opened-rest-requires : goal.put_opened-rest-requires
put_opened-rest-requires c = item_open _ _ _ _ _ _ _ _ c.loop-i.invariant (omega (arith, c.loop-i-test.true)) _ c.put_operand.auto.out

pub loop-i-preserved : goal.loop-i-preserved
loop-i-preserved c = item_step _ _ _ _ _ _ _ _ c.loop-i.invariant (omega (arith, c.loop-i-test.true)) _ c.pack_item-p.ensures.0 _ _ _ _ _
    c.pack_item-p.ensures.1 c.word_of-w.ensures c.put_opened-rest.ensures.0 c.put_operand.ensures c.put_opened-rest.ensures.1
    (c.put_opened-rest.auto.out ∙ c.put_operand.auto.out)
