-- The exported calls, where the table is two zeros, leave and answer what they did.
use Rattle.std.specs.Prelude.{Ok, Err}
use Rattle.cell.specs.Refusals.{Judged}
use mathlib.Core.Path.{◌≡◌, refl}
use mathlib.Core.Bool.{false}
use mathlib.Core.List.{List}
use Prim.Native.Nat.{ℕ}
use lib.ListN.{length}
use Rattle.machine.specs.Places.{no_table}
use Rattle.areas.specs.declared.Areas.{Areas}
use Rattle.processor.specs.Answers.{given_of}
use Rattle.lent_arrays.specs.Lending.{areas_in, registers_of}
use Rattle.processor_calls.specs.Machines.{judge_call, start_if, start_call, cycle_if, cycle_call, run_if, run_call}
use Rattle.list_telling.specs.Telling.{judge_lent}
use Rattle.list_calls.specs.Lists.{stand_given, resume_call}
use Rattle.before_tables.specs.Calls.{judge_call_before, judge_with_before, start_call_if, start_call_before, cycle_call_if, cycle_call_before, run_call_if, run_call_before, resume_call_before}
use Rattle.before_tables.specs.Claims.{SameStartCall, SameCycleCall, SameRunCall, SameResumeCall, SameListCall}
use Rattle.before_tables.proofs.AnswerLaws.{no_table_lem, same_start_answer, same_cycle_answer, same_run_answer, same_resume_in}

judges : (len order : ℕ) (areas : Areas) (registers out needed : ℕ)
    → judge_call len order areas no_table registers out needed ≡ judge_call_before len order areas registers out needed
unfolding judge_call judge_call_before
judges len order areas registers out needed = rw (no_table_lem len order areas)

module _ (order : ℕ) (m registers out : List ℕ) where
  start_if_lem : (j : Judged) (areas : Areas) (ep handler : ℕ)
      → start_if j order areas no_table m ep handler registers out ≡ start_call_if order m registers out j areas ep handler
  start_if_lem (Err n) areas ep handler = refl
  start_if_lem (Ok _) areas ep handler = rw (same_start_answer order areas m ep handler)

  cycle_if_lem : (j : Judged) → cycle_if j order no_table m registers out ≡ cycle_call_if order m registers out j
  cycle_if_lem (Err n) = refl
  cycle_if_lem (Ok _) = rw (same_cycle_answer order m (registers_of registers))

  run_if_lem : (j : Judged) (budget : ℕ)
      → run_if j (given_of order no_table m registers budget) out ≡ run_call_if order m registers out j budget
  run_if_lem (Err n) budget = refl
  run_if_lem (Ok _) budget = rw (same_run_answer order m (registers_of registers) budget)

pub same_start_call : SameStartCall
unfolding start_call start_call_before
same_start_call order areas m ep handler registers out =
    rw (judges (length m) order areas (length registers) (length out) 1)
    (start_if_lem order m registers out (judge_call_before (length m) order areas (length registers) (length out) 1) areas ep handler)

pub same_cycle_call : SameCycleCall
unfolding cycle_call cycle_call_before
same_cycle_call order m registers out =
    rw (judges (length m) order (areas_in 4 registers) (length registers) (length out) 1)
    (cycle_if_lem order m registers out (judge_with_before (length m) order registers (length out) 1))

pub same_run_call : SameRunCall
unfolding run_call run_call_before
same_run_call order m registers budget out =
    rw (judges (length m) order (areas_in 4 registers) (length registers) (length out) 2)
    (run_if_lem order m registers out (judge_with_before (length m) order registers (length out) 2) budget)

-- the list machine
pub same_resume_call : SameResumeCall
unfolding resume_call resume_call_before
same_resume_call order kinds operands base m item ran pointers items out =
    let room : Judged = judge_lent (length pointers) (length out) in
    rw (same_resume_in room order (areas_in 2 pointers) kinds operands base m (stand_given item ran pointers) items)

pub same_list_call : SameListCall
same_list_call order kinds operands base m pointers items out = same_resume_call order kinds operands base m 0 false pointers items out
