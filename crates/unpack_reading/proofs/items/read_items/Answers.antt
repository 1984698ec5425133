-- `unpack_reading::items::read_items` meets its contract.
use Rattle.std.proofs.Common.{◌≡◌, sym, ◌∙◌, arith}
use native.Mathlib.Numerals.{add-one}
use Rattle.pack_layout.specs.Reading.{cells_of}
use Rattle.unpack_items.proofs.Cells.{cells_size}
use Rattle.unpack_reading.proofs.Steps.{read_none, room, read_on, over, more, too_many}
use Rattle.unpack_reading.proofs.items.read_items.Goals as goal

pub loop-i-init : goal.loop-i-init
loop-i-init c = read_none _ _ _ _ _ _ c.at_cell-r.ensures c.requires.kinds_len.0 c.requires.kinds_len.1 (c.requires.kinds_len.2 ∙ sym (cells_size c.args.order c.args.image.now)) c.requires.by_index

pub returns-then-size-r-clause-value : goal.returns-then-size-r-clause-value
returns-then-size-r-clause-value c = over (cells_of c.args.order c.args.image.now) _ _ _ _ _ _ c.loop-i.invariant (omega (arith, c.if-size-r.true, c.requires.kinds_len.2, cells_size c.args.order c.args.image.now))

pub behind_item-r-requires : goal.behind_item-r-requires
behind_item-r-requires c = room _ _ _ _ _ _ _ c.loop-i.invariant (omega arith)

pub loop-i-preserved : goal.loop-i-preserved
loop-i-preserved c = rw (add-one c.loop-i.i, c.note_first.ensures)
    (read_on _ _ _ _ _ _ _ c.loop-i.invariant (omega arith)
    (omega (arith, c.if-size-r.false, c.requires.kinds_len.2, cells_size c.args.order c.args.image.now)) _ _ _
    c.read_item-item.ensures.0 c.read_item-item.ensures.1 c.read_item-item.ensures.2 _ c.behind_item-r.ensures)

pub returns-then-r-size-clause-value : goal.returns-then-r-size-clause-value
returns-then-r-size-clause-value c = too_many _ (λ j b. more (cells_of c.args.order c.args.image.now) _ _ _ _ _ _ c.loop-i.invariant (omega (arith, c.if-r-size.true, c.requires.kinds_len.2, cells_size c.args.order c.args.image.now)) j (omega arith))

pub returns-clause-value : goal.returns-clause-value
returns-clause-value c = let t : 4096 ≡ c.loop-i.i = omega arith in
    t ∙ over (cells_of c.args.order c.args.image.now) _ _ _ _ _ _ c.loop-i.invariant (omega (arith, c.if-r-size.false, c.requires.kinds_len.2, cells_size c.args.order c.args.image.now))
