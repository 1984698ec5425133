-- `short_judging::short::judge_items` meets its contract.
use mathlib.Core.Path.{◌≡◌, sym, ap, ◌∙◌}
use Prim.Native.Nat.{◌+◌, ◌-◌}
use native.Mathlib.Omega.{arith}
use Rattle.cell.proofs.JudgementLaws.{after_passed}
use Rattle.cell.specs.Refusals.{Judged, after}
use Rattle.pack_layout.specs.Listing.{judged_from}
use Rattle.pack_layout.specs.Kinds.{class_of}
use Rattle.pack_judging.proofs.Steps.{judged_end}
use Rattle.short_judging.proofs.Passes.{short_item, and_after, first_more, other_refused, same_passed}
use Rattle.short_judging.proofs.Parts.{short_kind_lem}
use Rattle.short_judging.proofs.Turns.{operands_more, operands_grow}
use Rattle.short_judging.specs.ShortFile.{short_kind, short_listing}
use Rattle.short_judging.specs.Operands.{operands_before}
use Rattle.short_judging.proofs.short.judge_items.Goals as goal

pub returns-then-m-next : goal.returns-then-m-next
returns-then-m-next c = let g = operands_more (short_kind c.args.file.now) c.loop-i.i c.loop-i.k _ _ (c.class_of-c.ensures ∙ ap class_of (sym (short_kind_lem c.args.file.now c.loop-i.i (omega (arith, c.requires.n_value.0))))) c.loop-i.invariant.0 c.operands_of.ensures in
    let h = operands_grow (short_kind c.args.file.now) (c.loop-i.i + 1) c.args.n (omega (arith, c.loop-i-test.true)) in
    other_refused _ c.args.n c.args.m (operands_before (short_kind c.args.file.now) c.args.n) _ (λ e. omega (arith, g, h, c.if-m-next.true))

pub loop-i-preserved : goal.loop-i-preserved
loop-i-preserved c = let e = short_item c.args.file.now c.args.n c.loop-i.i c.loop-i.k _ _ _ c.requires.n_value.0 (omega (arith, c.requires.n_bound.1)) c.loop-i-test.true c.class_of-c.ensures c.loop-i.invariant.0 c.operand_at-x.ensures c.judge_item.ensures in (
  operands_more (short_kind c.args.file.now) c.loop-i.i c.loop-i.k _ _ (c.class_of-c.ensures ∙ ap class_of (sym (short_kind_lem c.args.file.now c.loop-i.i (omega (arith, c.requires.n_value.0))))) c.loop-i.invariant.0 c.operands_of.ensures,
  c.if-m-next.false,
  ap (λ (j : Judged). after j (judged_from (short_listing c.args.file.now) (c.args.n - (c.loop-i.i + 1)) (c.loop-i.i + 1))) (c.and-first.ensures ∙ and_after c.loop-i.first _)
      ∙ first_more (short_listing c.args.file.now) c.args.n c.loop-i.i c.loop-i.first _ c.loop-i-test.true e ∙ c.loop-i.invariant.2,
)

pub returns : goal.returns
returns c = let t : c.loop-i.i ≡ c.args.n = omega arith in
    let q : c.loop-i.k ≡ operands_before (short_kind c.args.file.now) c.args.n = c.loop-i.invariant.0 ∙ ap (operands_before (short_kind c.args.file.now)) t in
    sym (after_passed c.loop-i.first) ∙ ap (after c.loop-i.first) (sym (judged_end (short_listing c.args.file.now) c.args.n c.loop-i.i (omega arith))) ∙ c.loop-i.invariant.2
    ∙ sym (same_passed _ c.args.n c.args.m (operands_before (short_kind c.args.file.now) c.args.n) _ (omega (arith, c.if-k-m.false)) c.requires.n_bound.1)
