-- A run in two parts, and a run with budget to spare.
use Rattle.std.specs.Prelude.{Ok, Err}
use Rattle.cell.specs.Refusals.{Judged, passed}
use mathlib.Core.Path.{◌≡◌, refl, sym, ap, ◌∙◌}
use mathlib.Core.Logic.{◌≢◌}
use mathlib.Core.Bool.{Bool, true, false, true≢false}
use mathlib.Core.List.{List}
use Prim.Native.Nat.{ℕ, zero, suc, ◌+◌, ◌-◌}
use native.Mathlib.Omega.{arith}
use lib.ListN.{length}
use Rattle.cell.proofs.JudgementLaws.{refusal_some}
use Rattle.throws.specs.Throws.{CycleState}
use Rattle.machine.specs.declared.Machine.{Machine}
use Rattle.machine.specs.declared.Registers.{Registers}
use Rattle.machine.specs.declared.Ended.{Ended}
use Rattle.machine.specs.declared.Ended.TheVariants.{Went, Threw, Stopped}
use Rattle.areas.specs.Areas.{filed}
use Rattle.areas.specs.declared.Areas.{Areas}
use Rattle.areas.specs.declared.RegisterFile.{RegisterFile}
use Rattle.cycles.specs.Cycles.{advance, cycles_of}
use Rattle.processor.specs.declared.Ran.TheVariants.{Spent}
use Rattle.cycles.specs.Counts.{is_stop, done_of, begun}
use Rattle.processor.specs.Answers.{Given, RunAnswer, ran_as, ran_to, run_number, run_registers, run_for, machine_in, judge_run, run_if, run_answer}
use Rattle.cycles.proofs.CycleLaws.{cycles_cut, goes}
use Rattle.processor_laws.specs.Budgets.{with_budget, carried_on, with_cycles, CutBudget, LargerBudget}
use Rattle.processor_laws.proofs.CycleLength.{cycles_keep_length}
use Rattle.processor_laws.proofs.DoneLaws.{stopped, end_of, done_cut, none_done, none_end, first_goes, first_stops, later_end, stop_end, spent_all, stops_again}

-- 0 is a run that was not stopped, any other number one that was
is_spent : (areas : Areas) (r : Registers) (n : ℕ) (e : Ended) → run_number (ran_as areas r n e) ≡ 0 → is_stop e ≡ false
is_spent areas r n Went q = refl
is_spent areas r n (Threw f) q = refl
is_spent areas r n (Stopped x) q = absurd (omega (arith, q))

is_stopped : (areas : Areas) (r : Registers) (n : ℕ) (e : Ended) → run_number (ran_as areas r n e) ≢ 0 → is_stop e ≡ true
is_stopped areas r n Went h = absurd (h refl)
is_stopped areas r n (Threw f) h = absurd (h refl)
is_stopped areas r n (Stopped x) h = refl

as_spent : (areas : Areas) (r : Registers) (n : ℕ) (e : Ended) → is_stop e ≡ false → ran_as areas r n e ≡ Ok (Spent (filed areas r))
as_spent areas r n Went q = refl
as_spent areas r n (Threw f) q = refl
as_spent areas r n (Stopped x) q = absurd (true≢false q)

-- the registers of an accepted run are those it ended with, and the areas as given
pub its_registers : (given : RegisterFile) (areas : Areas) (r : Registers) (n : ℕ) (e : Ended) → run_registers given (ran_as areas r n e) ≡ filed areas r
its_registers given areas r n Went = refl
its_registers given areas r n (Threw f) = refl
its_registers given areas r n (Stopped x) = refl

-- an accepted answer, with b cycles done before it
counted_on : (first second : RegisterFile) (b c n : ℕ) (m : List ℕ) (areas : Areas) (r : Registers) (e : Ended)
    → ran_to first (b + c) m (ran_as areas r (b + n) e) ≡ with_cycles b (ran_to second c m (ran_as areas r n e))
counted_on first second b c n m areas r Went = refl
counted_on first second b c n m areas r (Threw f) = refl
counted_on first second b c n m areas r (Stopped x) = refl

-- the answer of a run that stopped names no budget
no_budget : (given : RegisterFile) (b c n : ℕ) (m : List ℕ) (areas : Areas) (r : Registers) (e : Ended) → is_stop e ≡ true
    → ran_to given b m (ran_as areas r n e) ≡ ran_to given c m (ran_as areas r n e)
no_budget given b c n m areas r Went q = absurd (true≢false (sym q))
no_budget given b c n m areas r (Threw f) q = absurd (true≢false (sym q))
no_budget given b c n m areas r (Stopped x) q = refl

module _ (machine : Machine) where
  -- the answer of a run of b cycles from a state
  abbrev answered : RegisterFile → ℕ → CycleState → RunAnswer
  answered given b s = run_for given b (done_of machine b s) (end_of machine b s)

  -- a run of at least one cycle depends on its first cycle alone
  by_first : (given : RegisterFile) (c : ℕ) (s u : CycleState) → advance machine s ≡ advance machine u → answered given (suc c) s ≡ answered given (suc c) u
  by_first given c s u e = go (stopped (advance machine s)) refl
    where
      go : (t : Bool) → stopped (advance machine s) ≡ t → answered given (suc c) s ≡ answered given (suc c) u
      go true q =
          let p : stopped (advance machine u) ≡ true = ap stopped (sym e) ∙ q in
          rw (stop_end machine c s q, first_stops machine c s q, stop_end machine c u p, first_stops machine c u p, e)
      go false q =
          let p : stopped (advance machine u) ≡ false = ap stopped (sym e) ∙ q in
          rw (later_end machine c s q, first_goes machine c s q, later_end machine c u p, first_goes machine c u p, e)

  -- how the last cycle before it ended does not matter to a run, unless that was a stop
  anew : (given : RegisterFile) (c : ℕ) (s : CycleState) → stopped s ≡ false
      → answered given c s ≡ answered given c (begun s.memory s.result.registers)
  anew given zero s q =
      rw (none_end machine s, none_done machine s, none_end machine (begun s.memory s.result.registers))
      (ap (ran_to given 0 s.memory) (as_spent given.areas s.result.registers 0 s.result.ended q))
  anew given (suc c) s q =
      by_first given c s (begun s.memory s.result.registers) (goes machine s q ∙ sym (goes machine (begun s.memory s.result.registers) refl))

  -- a run that does not end in a stop, and c cycles more from where it ended
  cut_answer : (given : RegisterFile) (b c : ℕ) (s : CycleState) → stopped (end_of machine b s) ≡ false
      → answered given (b + c) s
      ≡ with_cycles b (answered (filed given.areas (end_of machine b s).result.registers) c (begun (end_of machine b s).memory (end_of machine b s).result.registers))
  cut_answer given b c s q =
      let all : done_of machine b s ≡ b = spent_all machine b s q in
      let t : CycleState = cycles_of machine b s in
      let here : end_of machine b s ≡ t = rw all in
      let still : stopped t ≡ false = ap stopped (sym here) ∙ q in
      rw (here, done_cut machine b c s still, cycles_cut machine b (done_of machine c t) s)
      (counted_on given (filed given.areas t.result.registers) b c (done_of machine c t) (end_of machine c t).memory given.areas (end_of machine c t).result.registers (end_of machine c t).result.ended
      ∙ ap (with_cycles b) (anew (filed given.areas t.result.registers) c t still))

  -- a run that ends in a stop, with c cycles more to spare
  more_answer : (given : RegisterFile) (b c : ℕ) (s : CycleState) → stopped s ≡ false → stopped (end_of machine b s) ≡ true
      → answered given (b + c) s ≡ answered given b s
  more_answer given b c s h q =
      let t : CycleState = end_of machine b s in
      rw (stops_again machine b c s h q)
      (no_budget given (b + c) b (done_of machine b s) t.memory given.areas t.result.registers t.result.ended q)

-- a run leaves the areas as they were given
areas_if : (g : Given RegisterFile) (j : Judged) → (run_if j g).registers.areas ≡ g.registers.areas
areas_if g (Err n) = refl
areas_if g (Ok _) =
    let s : CycleState = begun g.memory g.registers.registers in
    let t : CycleState = end_of (machine_in g) g.budget s in
    ap (λ (r : RegisterFile). r.areas)
    (its_registers g.registers g.registers.areas t.result.registers (done_of (machine_in g) g.budget s) t.result.ended)

-- by the judgement, which both runs share
cut_if : (g : Given RegisterFile) (c : ℕ) (j : Judged) → (run_if j g).number ≡ 0
    → run_if j (with_budget (g.budget + c) g) ≡ with_cycles g.budget (run_if j (carried_on g (run_if j g).memory (run_if j g).registers c))
cut_if g c (Err n) e = absurd (refusal_some n e)
cut_if g c (Ok _) e =
    let machine : Machine = machine_in g in
    let areas : Areas = g.registers.areas in
    let s : CycleState = begun g.memory g.registers.registers in
    let t : CycleState = end_of machine g.budget s in
    let n : ℕ = done_of machine g.budget s in
    rw (cycles_keep_length machine n s, its_registers g.registers areas t.result.registers n t.result.ended)
    (cut_answer machine g.registers g.budget c s (is_spent areas t.result.registers n t.result.ended e))

more_if : (g : Given RegisterFile) (c : ℕ) (j : Judged) → (run_if j g).number ≢ 0 → run_if j (with_budget (g.budget + c) g) ≡ run_if j g
more_if g c (Err n) h = refl
more_if g c (Ok _) h =
    let machine : Machine = machine_in g in
    let s : CycleState = begun g.memory g.registers.registers in
    let t : CycleState = end_of machine g.budget s in
    more_answer machine g.registers g.budget c s refl
    (is_stopped g.registers.areas t.result.registers (done_of machine g.budget s) t.result.ended h)

-- a run leaves the memory's length
long_if : (g : Given RegisterFile) (j : Judged) → length (run_if j g).memory ≡ length g.memory
long_if g (Err n) = refl
long_if g (Ok _) =
    let s : CycleState = begun g.memory g.registers.registers in
    cycles_keep_length (machine_in g) (done_of (machine_in g) g.budget s) s

pub run_keeps_length : (g : Given RegisterFile) → length (run_answer g).memory ≡ length g.memory
unfolding run_answer
run_keeps_length g = long_if g (judge_run g)

-- the number of a run is its answer's
number_if : (g : Given RegisterFile) (j : Judged) → (run_if j g).number ≡ run_number (run_if j g).answer
number_if g (Err n) = refl
number_if g (Ok _) = refl

pub number_is : (g : Given RegisterFile) → (run_answer g).number ≡ run_number (run_answer g).answer
unfolding run_answer
number_is g = number_if g (judge_run g)

-- a run that is not refused: the registers, the cycles done, and how the last of them ended
pub record Accepted (g : Given RegisterFile) : Type 0 where
  pub registers : Registers
  pub done : ℕ
  pub ended : Ended
  pub answers : run_answer g ≡ ran_to g.registers g.budget (run_answer g).memory (ran_as g.registers.areas registers done ended)

pub accepted : (g : Given RegisterFile) → judge_run g ≡ passed → Accepted g
unfolding run_answer
accepted g q =
    let s : CycleState = begun g.memory g.registers.registers in
    let t : CycleState = end_of (machine_in g) g.budget s in
    record { registers = t.result.registers; done = done_of (machine_in g) g.budget s; ended = t.result.ended; answers = rw q }

pub cut_budget : CutBudget
unfolding run_answer
cut_budget g c e =
    let j : Judged = judge_run g in
    rw (long_if g j, areas_if g j) (cut_if g c j e)

pub larger_budget : LargerBudget
unfolding run_answer
larger_budget g b h w =
    let n : g.budget + (b - g.budget) ≡ b = omega (arith, w) in
    rw n at (more_if g (b - g.budget) (judge_run g) h)
