-- `unpack_comparing::compare::packs_to` meets its contract.
use mathlib.Core.Path.{◌∙◌}
use borrow.Author.Tests.{ne_eqb}
use Rattle.unpack_comparing.proofs.Comparing.{packed_refused, packed_other, packed_same}
use Rattle.unpack_comparing.proofs.Sameness.{same_is}
use Rattle.unpack_comparing.proofs.compare.packs_to.Goals as goal

pub returns-in_default : goal.returns-in_default
returns-in_default c = packed_refused c.args.order c.args.base.0 c.args.kinds.now c.args.operands.now c.args.image.now c.requires.operands_len.0 c.requires.image_value c.args.copy.now c.requires.operands_len.1 _ _ c.in_default.ensures

pub returns-then-cells-image : goal.returns-then-cells-image
returns-then-cells-image c = c.eq.ensures ∙ same_is _ _
    ∙ packed_same c.args.order c.args.base.0 c.args.kinds.now c.args.operands.now c.args.image.now c.requires.operands_len.0 c.requires.image_value c.args.copy.now c.requires.operands_len.1 _ c.in-Ok.cells c.in-Ok.ensures c.if-cells-image.true

pub returns-else-cells-image : goal.returns-else-cells-image
returns-else-cells-image c = rw (ne_eqb _ _ c.if-cells-image.false)
    (packed_other c.args.order c.args.base.0 c.args.kinds.now c.args.operands.now c.args.image.now c.requires.operands_len.0 c.requires.image_value c.args.copy.now c.requires.operands_len.1 _ c.in-Ok.cells c.in-Ok.ensures c.if-cells-image.false)
