-- `run_cycles` meets its contract. The invariant is `Looping`; the measure is the budget left.
use Prim.Native.Nat.{suc, ◌-◌, ◌<◌}
use native.Mathlib.Omega.{arith}
use mathlib.Core.Path.{◌≡◌, ◌∙◌, sym}
use Rattle.cycles.proofs.RunLaws.{loop_begins, stops_at, loops_at, ends_at, taken_up}
use Rattle.cycles.proofs.running.run_cycles.Goals as goal

pub loop-left-init : goal.loop-left-init
loop-left-init c = loop_begins _ _ _ _

pub loop-left-preserved-in-Ok : goal.loop-left-preserved-in-Ok
loop-left-preserved-in-Ok c =
    taken_up c.args.machine c.args.memory.now c.args.r c.args.budget c.loop-left.memory c.loop-left.registers c.loop-left.left c.loop-left.invariant
    _ _ 0 c.in-Ok.ensures.spent

pub returns-then-is_last : goal.returns-then-is_last
returns-then-is_last c = let n : suc c.in-Err.stall.left - 1 ≡ c.in-Err.stall.left = omega arith in
    let st = c.in-Err.ensures.stalled in
    let a = taken_up c.args.machine c.args.memory.now c.args.r c.args.budget c.loop-left.memory c.loop-left.registers c.loop-left.left c.loop-left.invariant
    st.memory st.registers (suc c.in-Err.stall.left) st.looping in
    let d = stops_at c.args.machine c.args.memory.now c.args.r c.args.budget st.memory st.registers (suc c.in-Err.stall.left) a (omega arith)
    _ c.finish-result.result (c.finish-result.ensures ∙ st.cycle) (rw n (sym c.is_last.ensures ∙ c.if-is_last.true)) in
    record {
      r_value = rw n at d.count;
      result_after = d.state;
    }

pub loop-left-preserved : goal.loop-left-preserved
loop-left-preserved c = let n : suc c.in-Err.stall.left - 1 ≡ c.in-Err.stall.left = omega arith in
    let st = c.in-Err.ensures.stalled in
    let a = taken_up c.args.machine c.args.memory.now c.args.r c.args.budget c.loop-left.memory c.loop-left.registers c.loop-left.left c.loop-left.invariant
    st.memory st.registers (suc c.in-Err.stall.left) st.looping in
    rw n at (loops_at c.args.machine c.args.memory.now c.args.r c.args.budget st.memory st.registers (suc c.in-Err.stall.left) a (omega arith)
    _ c.finish-result.result (c.finish-result.ensures ∙ st.cycle) (c.finish-result.auto.memory ∙ st.long) (rw n (sym c.is_last.ensures ∙ c.if-is_last.false)))

pub returns : goal.returns
returns c = let d = ends_at c.args.machine c.args.memory.now c.args.r c.args.budget c.loop-left.memory c.loop-left.registers c.loop-left.left c.loop-left.invariant c.loop-left-test.false in record {
  r_value = d.count;
  result_after = d.state;
}
