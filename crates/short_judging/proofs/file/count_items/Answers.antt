-- `short_judging::file::count_items` meets its contract.
use mathlib.Core.Path.{◌≡◌, sym, ap, ◌∙◌}
use Prim.Native.Nat.{ℕ}
use native.Mathlib.Omega.{arith}
use Rattle.std.specs.Prelude.{Ok}
use Rattle.std.proofs.lemmas.Result.{err_from_is_err_and}
use Rattle.cell.specs.Refusals.{Judged}
use Rattle.pack_layout.specs.Kinds.{class_of}
use Rattle.pack_layout.specs.File.{file_count, filed}
use Rattle.pack_judging.proofs.Steps.{judged_on, judged_stop, judged_end}
use Rattle.short_judging.proofs.Parts.{file_kind}
use Rattle.short_judging.proofs.Passes.{file_item}
use Rattle.short_judging.proofs.Turns.{operands_more}
use Rattle.short_judging.specs.Judging.{Counted, keeping, kept_count}
use Rattle.short_judging.specs.Operands.{operands_before}
use Rattle.short_judging.proofs.file.count_items.Goals as goal

pub returns-in_err-judge_item : goal.returns-in_err-judge_item
returns-in_err-judge_item c = let l = filed c.args.file.now in
    let e = file_item c.args.file.now c.args.n c.loop-i.i _ _ _ c.requires.0 (omega (arith, c.requires.2)) c.loop-i-test.true c.class_of-c.ensures c.cell_at.ensures c.judge_item.ensures in
    let s = judged_stop l c.args.n c.loop-i.i _ c.loop-i-test.true (sym e ∙ c.in_err-judge_item.was) in
    let p = err_from_is_err_and c.from_residual.result c.from_residual.ensures.1 in
    rw (p.1, p.2) (ap (λ (j : Judged). keeping j (kept_count c.args.file.now)) (sym s ∙ c.loop-i.invariant.1))

pub loop-i-preserved : goal.loop-i-preserved
loop-i-preserved c = let l = filed c.args.file.now in
    let e = file_item c.args.file.now c.args.n c.loop-i.i _ _ _ c.requires.0 (omega (arith, c.requires.2)) c.loop-i-test.true c.class_of-c.ensures c.cell_at.ensures c.judge_item.ensures in
    let s = judged_on l c.args.n c.loop-i.i c.loop-i-test.true (sym e ∙ c.in_ok-judge_item.was) in (
      operands_more l.kind c.loop-i.i c.loop-i.m _ _ (c.class_of-c.ensures ∙ ap class_of (sym (file_kind c.args.file.now c.loop-i.i (omega (arith, c.requires.0))))) c.loop-i.invariant.0 c.operands_of-m.ensures,
      sym s ∙ c.loop-i.invariant.1,
    )

pub returns : goal.returns
returns c = let l = filed c.args.file.now in
    let t : c.loop-i.i ≡ file_count c.args.file.now = omega (arith, c.requires.0) in
    let e = judged_end l c.args.n c.loop-i.i (omega arith) in
    let z : ◌≡◌ {A = Counted} (Ok c.loop-i.m) (Ok (kept_count c.args.file.now)) = ap (λ (m : ℕ). Ok m) (c.loop-i.invariant.0 ∙ ap (operands_before l.kind) t) in
    z ∙ ap (λ (j : Judged). keeping j (kept_count c.args.file.now)) (sym e ∙ c.loop-i.invariant.1)
