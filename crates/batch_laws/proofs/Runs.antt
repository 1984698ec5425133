-- The single runs of a batch: that each is accepted and ends in one way, what cycles they have, and what memory they leave.
-- Assumes nothing.
use Rattle.cell.specs.Refusals.{passed}
use mathlib.Core.Path.{◌≡◌, refl}
use mathlib.Core.Bool.{Bool, true, false, not, ◌||◌}
use mathlib.Core.List.{List, [], ◌∷◌, ◌++◌}
use Prim.Native.Nat.{ℕ, zero, suc, ◌+◌, ◌*◌, ◌≤◌, max}
use native.Mathlib.Nat.{suc-mul, mul-le-mul_left, le-max_right}
use native.Mathlib.Omega.{arith}
use borrow.Author.Tests.{eqb-true}
use lib.Dec.{eqb}
use lib.ListN.{length}
use Rattle.cell.specs.Choice.{if}
use Rattle.exceptions.specs.Fixed.{bad_stack, bad_handler}
use Rattle.throws.specs.Throws.{CycleState}
use Rattle.machine.specs.declared.Machine.{Machine}
use Rattle.machine.specs.declared.Registers.{Registers}
use Rattle.machine.specs.declared.Ended.{Ended}
use Rattle.machine.specs.declared.Ended.TheVariants.{Went, Threw, Stopped}
use Rattle.areas.specs.declared.Areas.{Areas}
use Rattle.areas.specs.declared.RegisterFile.{RegisterFile}
use Rattle.cycles.specs.Cycles.{advance, cycles_of}
use Rattle.cycles.specs.Counts.{begun, counted, done_of}
use Rattle.processor.specs.Answers.{Given, RunAnswer, run_number, run_count, ran_as, machine_in, judge_run, run_answer}
use Rattle.batch_reports.specs.Reports.{stopped_with, stopped_else, spent, sum_of, how_many, largest_of}
use Rattle.batches.specs.Batches.{last_memory}

-- no more cycles are done than the budget has
counted_most : (e : Ended) (n b : ℕ) → n ≤ b → counted e n ≤ suc b
counted_most Went n b h = omega arith
counted_most (Threw f) n b h = omega arith
counted_most (Stopped x) n b h = omega arith

pub done_most : (machine : Machine) (b : ℕ) (s : CycleState) → done_of machine b s ≤ b
unfolding done_of
done_most machine zero s = omega arith
done_most machine (suc b) s = counted_most (advance machine s).result.ended (done_of machine b (advance machine s)) b (done_most machine b (advance machine s))

-- a run that was judged good is spent or stopped, within its budget
pub record InTime (budget : ℕ) (r : RunAnswer) : Type 0 where
  pub ended : r.number ≤ 1
  pub cycles : r.count ≤ budget

ended_of : (areas : Areas) (r : Registers) (n : ℕ) (e : Ended) → run_number (ran_as areas r n e) ≤ 1
ended_of areas r n Went = omega arith
ended_of areas r n (Threw f) = omega arith
ended_of areas r n (Stopped x) = omega arith

count_of : (areas : Areas) (r : Registers) (budget n : ℕ) (e : Ended) → n ≤ budget → run_count budget (ran_as areas r n e) ≤ budget
count_of areas r budget n Went h = omega arith
count_of areas r budget n (Threw f) h = omega arith
count_of areas r budget n (Stopped x) h = h

pub run_in_time : (g : Given RegisterFile) → judge_run g ≡ passed → InTime g.budget (run_answer g)
unfolding run_answer
run_in_time g j =
    let s : CycleState = begun g.memory g.registers.registers in
    let n : ℕ = done_of (machine_in g) g.budget s in
    let t : CycleState = cycles_of (machine_in g) n s in
    rw j (
    record {
      ended = ended_of g.registers.areas t.result.registers n t.result.ended;
      cycles = count_of g.registers.areas t.result.registers g.budget n t.result.ended (done_most (machine_in g) g.budget s);
    }
    )

-- all runs of a list
pub data AllInTime (budget : ℕ) : List RunAnswer → Type 0 where
  no_run : AllInTime budget []
  one_more : {r : RunAnswer} {rs : List RunAnswer} → InTime budget r → AllInTime budget rs → AllInTime budget (r ∷ rs)

-- of the three reasons that are counted by themselves no two are the same
bit : Bool → ℕ
bit t = if t 1 0

reason_once : (x : ℕ) (z s h : Bool) → eqb x 0 ≡ z → eqb x bad_stack ≡ s → eqb x bad_handler ≡ h
    → bit z + (bit s + (bit h + bit (not (z || (s || h))))) ≡ 1
unfolding bit
reason_once x true true h e f g = absurd (omega (arith, eqb-true x 0 e, eqb-true x bad_stack f))
reason_once x true false true e f g = absurd (omega (arith, eqb-true x 0 e, eqb-true x bad_handler g))
reason_once x true false false e f g = refl
reason_once x false true true e f g = absurd (omega (arith, eqb-true x bad_stack f, eqb-true x bad_handler g))
reason_once x false true false e f g = refl
reason_once x false false true e f g = refl
reason_once x false false false e f g = refl

-- a run ends in one of the five ways
ways : RunAnswer → ℕ
ways r =
    bit (stopped_with 0 r) + (bit (stopped_with bad_stack r) + (bit (stopped_with bad_handler r) + (bit (stopped_else r) + bit (spent r))))

one_way : (r : RunAnswer) → r.number ≤ 1 → ways r ≡ 1
unfolding ways bit
one_way r h = go r.number refl h
  where
    go : (n : ℕ) → r.number ≡ n → n ≤ 1 → ways r ≡ 1
    go zero e l = rw e
    go (suc zero) e l = rw e (omega (arith, reason_once r.reason _ _ _ refl refl refl))
    go (suc (suc n)) e l = absurd (omega arith)

-- and so the figures of all five add up to the number of runs
pub ways_once : (budget : ℕ) (rs : List RunAnswer) → AllInTime budget rs
    → how_many (stopped_with 0) rs
    + (how_many (stopped_with bad_stack) rs + (how_many (stopped_with bad_handler) rs + (how_many stopped_else rs + how_many spent rs)))
    ≡ length rs
unfolding ways bit
ways_once budget [] no_run = refl
ways_once budget (r ∷ rs) (one_more p s) = omega (arith, one_way r p.ended, ways_once budget rs s)

-- one behind the other
pub last_append : (m : List ℕ) (xs ys : List RunAnswer) → last_memory m (xs ++ ys) ≡ last_memory (last_memory m xs) ys
last_append m [] ys = refl
last_append m (x ∷ xs) ys = last_append x.memory xs ys

-- no more cycles than so many times the largest
pub cycles_most : (rs : List RunAnswer) → sum_of (λ r. r.count) rs ≤ length rs * largest_of (λ r. r.count) rs
cycles_most [] = omega arith
cycles_most (r ∷ rs) =
    let l = largest_of (λ r. r.count) rs in
    let m = max r.count l in
    omega (arith, cycles_most rs, suc-mul (length rs) m, mul-le-mul_left {m = l} {n = m} (length rs) (le-max_right r.count l))

pub largest_most : (budget : ℕ) (rs : List RunAnswer) → AllInTime budget rs → largest_of (λ r. r.count) rs ≤ budget
largest_most budget [] no_run = omega arith
largest_most budget (r ∷ rs) (one_more p s) = omega (arith, p.cycles, largest_most budget rs s)
