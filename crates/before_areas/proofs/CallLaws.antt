-- The exported calls, where the four numbers of the areas and the two of the table are zeros, leave and answer what they did.
use Rattle.std.specs.Prelude.{Ok, Err}
use mathlib.Core.Path.{◌≡◌, refl}
use mathlib.Core.List.{List}
use Prim.Native.Nat.{ℕ, ◌≤◌}
use native.Mathlib.Omega.{arith}
use lib.ListN.{length}
use borrow.Author.Tests.{le-ltb}
use Rattle.machine.specs.Places.{no_table}
use Rattle.throws.specs.Throws.{CycleState}
use Rattle.machine.specs.declared.Registers.{Registers}
use Rattle.machine.specs.declared.Ended.{Ended}
use Rattle.machine.specs.declared.Ended.TheVariants.{Went, Threw, Stopped}
use Rattle.areas.specs.Areas.{no_areas}
use Rattle.cell.specs.Refusals.{judge_machine, Judged}
use Rattle.cycles.specs.Counts.{begun}
use Rattle.processor.specs.Answers.{given_of}
use Rattle.list_following.specs.Follow.{FollowResult}
use Rattle.list_following.specs.Follow.{Followed}
use Rattle.lent_arrays.specs.Lending.{areas_in}
use Rattle.processor_calls.specs.Machines.{judge_call, start_told, cycle_told, run_told, start_if, start_call, cycle_if, cycle_call, run_if, run_call}
use Rattle.list_telling.specs.Telling.{told_by, judge_lent}
use Rattle.list_calls.specs.Lists.{stand_given, resume_call}
use Rattle.before_areas.specs.Cycles.{start_before, cycle_before, cycles_before, done_before}
use Rattle.before_areas.specs.Answers.{started_before, start_if_before, start_answer_before, cycled_before, cycle_if_before, cycle_answer_before, ran_before, run_if_before, run_answer_before, resume_before}
use Rattle.before_areas.specs.Calls.{judge_call_before, registers_before, start_told_before, cycle_told_before, run_told_before, start_call_if, start_call_before, cycle_call_if, cycle_call_before, run_call_if, run_call_before, list_told_before, judge_lent_before, resume_call_before}
use Rattle.before_areas.specs.Claims.{eight, six, SameStartCall, SameCycleCall, SameRunCall, SameResumeCall}
use Rattle.before_areas.proofs.AnswerLaws.{no_areas_lem, same_start_answer, same_cycle_answer, same_run_answer, same_resume}

-- an array that has room for the areas had room before
judges : (len order size out needed : ℕ) → 8 ≤ size → judge_call len order no_areas no_table size out needed ≡ judge_call_before len order size out needed
unfolding judge_call judge_call_before
judges len order size out needed h = rw (no_areas_lem len order, le-ltb size 8 h, le-ltb size 4 (omega (arith, h)))

module _ (order : ℕ) (m out : List ℕ) (e a s r : ℕ) (rest : List ℕ) where
  room : 8 ≤ length (eight e a s r rest)
  room = omega arith

  none : areas_in 4 (eight e a s r rest) ≡ no_areas
  none = rw (le-ltb (length (eight e a s r rest)) 8 room)

  abbrev judgement : ℕ → Judged
  judgement needed = judge_call_before (length m) order (length (eight e a s r rest)) (length out) needed

  judged : (needed : ℕ) → judge_call (length m) order no_areas no_table (length (eight e a s r rest)) (length out) needed ≡ judgement needed
  judged needed = judges (length m) order (length (eight e a s r rest)) (length out) needed room

  -- start
  start_told_lem : (q : Registers) (d : Ended)
      → start_told (eight e a s r rest) out (started_before q d) ≡ start_told_before (eight e a s r rest) out (started_before q d)
  start_told_lem q Went = refl
  start_told_lem q (Threw x) = refl
  start_told_lem q (Stopped x) = refl

  start_tells : (ep handler : ℕ) (j : Judged)
      → start_told (eight e a s r rest) out (start_if_before j order m ep handler).answer
      ≡ start_told_before (eight e a s r rest) out (start_if_before j order m ep handler).answer
  start_tells ep handler (Err n) = refl
  start_tells ep handler (Ok _) =
      let t : CycleState = start_before order m ep handler in
      start_told_lem t.result.registers t.result.ended

  start_if_lem : (ep handler : ℕ) (j : Judged)
      → start_if j order no_areas no_table m ep handler (eight e a s r rest) out ≡ start_call_if order m (eight e a s r rest) out j ep handler
  unfolding start_answer_before
  start_if_lem ep handler (Err n) = refl
  start_if_lem ep handler (Ok _) =
      rw (same_start_answer order m ep handler, start_tells ep handler (judge_machine (length m) order))

  -- cycle
  cycle_told_lem : (q : Registers) (d : Ended)
      → cycle_told (eight e a s r rest) out (cycled_before q d) ≡ cycle_told_before (eight e a s r rest) out (cycled_before q d)
  cycle_told_lem q Went = refl
  cycle_told_lem q (Threw x) = refl
  cycle_told_lem q (Stopped x) = refl

  cycle_tells : (q : Registers) (j : Judged)
      → cycle_told (eight e a s r rest) out (cycle_if_before j order m q).answer
      ≡ cycle_told_before (eight e a s r rest) out (cycle_if_before j order m q).answer
  cycle_tells q (Err n) = refl
  cycle_tells q (Ok _) =
      let t : CycleState = cycle_before order m q in
      cycle_told_lem t.result.registers t.result.ended

  cycle_if_lem : (j : Judged) → cycle_if j order no_table m (eight e a s r rest) out ≡ cycle_call_if order m (eight e a s r rest) out j
  unfolding cycle_answer_before
  cycle_if_lem (Err n) = refl
  cycle_if_lem (Ok _) =
      let q : Registers = registers_before (eight e a s r rest) in
      rw (same_cycle_answer order m q, cycle_tells q (judge_machine (length m) order))

  -- run
  run_told_lem : (budget : ℕ) (q : Registers) (n : ℕ) (d : Ended)
      → run_told (eight e a s r rest) out budget (ran_before q n d) ≡ run_told_before (eight e a s r rest) out budget (ran_before q n d)
  run_told_lem budget q n Went = refl
  run_told_lem budget q n (Threw x) = refl
  run_told_lem budget q n (Stopped x) = refl

  run_tells : (q : Registers) (budget : ℕ) (j : Judged)
      → run_told (eight e a s r rest) out budget (run_if_before j order m q budget).answer
      ≡ run_told_before (eight e a s r rest) out budget (run_if_before j order m q budget).answer
  run_tells q budget (Err n) = refl
  run_tells q budget (Ok _) =
      let n : ℕ = done_before order budget (begun m q) in
      let t : CycleState = cycles_before order n (begun m q) in
      run_told_lem budget t.result.registers n t.result.ended

  run_if_lem : (budget : ℕ) (j : Judged)
      → run_if j (given_of order no_table m (eight e a s r rest) budget) out ≡ run_call_if order m (eight e a s r rest) out j budget
  unfolding run_answer_before
  run_if_lem budget (Err n) = refl
  run_if_lem budget (Ok _) =
      let q : Registers = registers_before (eight e a s r rest) in
      rw (same_run_answer order m q budget, run_tells q budget (judge_machine (length m) order))

pub same_start_call : SameStartCall
unfolding start_call start_call_before
same_start_call order m ep handler e a s r rest out =
    rw (judged order m out e a s r rest 1) (start_if_lem order m out e a s r rest ep handler (judgement order m out e a s r rest 1))

pub same_cycle_call : SameCycleCall
unfolding cycle_call cycle_call_before
same_cycle_call order m e a s r rest out =
    rw (none order m out e a s r rest, judged order m out e a s r rest 1) (cycle_if_lem order m out e a s r rest (judgement order m out e a s r rest 1))

pub same_run_call : SameRunCall
unfolding run_call run_call_before
same_run_call order m e a s r rest budget out =
    rw (none order m out e a s r rest, judged order m out e a s r rest 2) (run_if_lem order m out e a s r rest budget (judgement order m out e a s r rest 2))

-- the list machine
list_told_lem : (s r : ℕ) (rest out : List ℕ) (x : FollowResult) (a : Followed)
    → told_by a (six s r rest) out x ≡ list_told_before a (six s r rest) out x
list_told_lem s r rest out x (Err n) = refl
list_told_lem s r rest out x (Ok y) = refl

lends : (size out : ℕ) → 6 ≤ size → judge_lent size out ≡ judge_lent_before size out
unfolding judge_lent judge_lent_before
lends size out h = rw (le-ltb size 6 h, le-ltb size 2 (omega (arith, h)))

pub same_resume_call : SameResumeCall
unfolding resume_call resume_call_before
same_resume_call order kinds operands base m item ran s r rest items out =
    let pointers : List ℕ = six s r rest in
    let h : 6 ≤ length pointers = omega arith in
    let none : areas_in 2 pointers ≡ no_areas = rw (le-ltb (length pointers) 6 h) in
    let room : Judged = judge_lent_before (length pointers) (length out) in
    let x : FollowResult = resume_before room order kinds operands base m (stand_given item ran pointers) items in
    rw (
      none,
      lends (length pointers) (length out) h,
      same_resume room order kinds operands base m (stand_given item ran pointers) items,
      list_told_lem s r rest out x x.answer,
    )
