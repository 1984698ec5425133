-- `unpacker::recover::recover_in` meets its contract.
-- Assumes nothing.
use mathlib.Core.Path.{◌≡◌, sym, ap, ◌∙◌}
use Prim.Native.Nat.{ℕ, ◌≤◌}
use native.Mathlib.Omega.{arith}
use lib.ListN.{length, take}
use lib.Seq.{length-take-le}
use Rattle.pack_layout.specs.Listing.{listed}
use Rattle.pack_layout.specs.Unpacking.{packs_to}
use Rattle.unpack_items.proofs.Cells.{cells_size}
use Rattle.unpacker.proofs.Recovering.{part, found_in, too_many, differs, agrees}
use Rattle.unpacker.proofs.recover.recover_in.Goals as goal

pub returns-then-n-gt-MOST_ITEMS : goal.returns-then-n-gt-MOST_ITEMS
returns-then-n-gt-MOST_ITEMS c = let both = too_many c.args.order c.args.base.0 c.args.image.now c.requires.image_value _ _ _ c.read_items-n.ensures.value c.if-n-gt-MOST_ITEMS.true in record {
  value = both.0;
  recovered = both.1;
}

pub returns-then-packs_again : goal.returns-then-packs_again
returns-then-packs_again c = let h : c.read_items-n.result ≤ 4096 = omega (arith, c.if-n-gt-MOST_ITEMS.false) in
    let k : length c.read_items-n.new.kinds ≡ 4096 = c.read_items-n.auto.kinds ∙ c.requires.kinds_len.0 in
    let x : length c.read_items-n.new.held ≡ 4096 = c.read_items-n.auto.held ∙ c.requires.kinds_len.1 in
    let size : length c.packs_again.new.operands ≡ c.read_items-n.result = c.packs_again.auto.operands ∙ ap (λ (m : ℕ). length (take m c.read_items-n.new.held)) (part c.read_items-n.result) ∙ length-take-le c.read_items-n.result c.read_items-n.new.held (omega arith) in
    let cells = cells_size c.args.order c.args.image.now in let both = agrees c.args.order c.args.base.0 c.args.image.now c.requires.image_value c.read_items-n.result c.read_items-n.new.kinds c.read_items-n.new.held c.read_items-n.new.firsts c.packs_again.new.operands c.read_items-n.ensures.value (c.read_items-n.ensures.filled h)
    (omega arith) size (c.read_items-n.auto.firsts ∙ c.requires.kinds_len.2 ∙ sym cells) cells (λ j. (c.slice_known-6-1.given j).fits)
    (found_in c.args.base.0 c.read_items-n.result c.read_items-n.new.kinds c.read_items-n.new.held c.read_items-n.new.firsts c.packs_again.new.operands (omega arith) c.packs_again.ensures.by_index)
    (sym c.if-packs_again.true ∙ c.packs_again.ensures.value ∙ ap (λ (m : ℕ). packs_to c.args.order c.args.base.0 (listed (take m c.read_items-n.new.kinds) c.packs_again.new.operands) c.args.image.now) (part c.read_items-n.result)) _ in record {
      value = both.0;
      recovered = both.1;
    }

pub returns : goal.returns
returns c = let h : c.read_items-n.result ≤ 4096 = omega (arith, c.if-n-gt-MOST_ITEMS.false) in
    let k : length c.read_items-n.new.kinds ≡ 4096 = c.read_items-n.auto.kinds ∙ c.requires.kinds_len.0 in
    let x : length c.read_items-n.new.held ≡ 4096 = c.read_items-n.auto.held ∙ c.requires.kinds_len.1 in
    let size : length c.packs_again.new.operands ≡ c.read_items-n.result = c.packs_again.auto.operands ∙ ap (λ (m : ℕ). length (take m c.read_items-n.new.held)) (part c.read_items-n.result) ∙ length-take-le c.read_items-n.result c.read_items-n.new.held (omega arith) in
    let cells = cells_size c.args.order c.args.image.now in let both = differs c.args.order c.args.base.0 c.args.image.now c.requires.image_value c.read_items-n.result c.read_items-n.new.kinds c.read_items-n.new.held c.read_items-n.new.firsts c.packs_again.new.operands c.read_items-n.ensures.value (c.read_items-n.ensures.filled h)
    (omega arith) size (c.read_items-n.auto.firsts ∙ c.requires.kinds_len.2 ∙ sym cells) cells (λ j. (c.slice_known-6-1.given j).fits)
    (found_in c.args.base.0 c.read_items-n.result c.read_items-n.new.kinds c.read_items-n.new.held c.read_items-n.new.firsts c.packs_again.new.operands (omega arith) c.packs_again.ensures.by_index)
    (sym c.if-packs_again.false ∙ c.packs_again.ensures.value ∙ ap (λ (m : ℕ). packs_to c.args.order c.args.base.0 (listed (take m c.read_items-n.new.kinds) c.packs_again.new.operands) c.args.image.now) (part c.read_items-n.result)) _ _ in record {
      value = both.0;
      recovered = both.1;
    }
