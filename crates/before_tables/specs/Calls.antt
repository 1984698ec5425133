-- What the exported calls of the machine left and answered before tables. Document 01, and document 02, (a).
use Rattle.std.specs.Prelude.{Bool, false, List, ℕ, length, Ok, Err}
use Rattle.cell.specs.Refusals.{refusal_number, Judged}
use Rattle.areas.specs.declared.Areas.{Areas}
use Rattle.lent_arrays.specs.Lending.{areas_in, registers_of, with_room}
use Rattle.processor_calls.specs.Machines.{start_told, cycle_told, run_told, Called, called}
use Rattle.list_telling.specs.Telling.{list_told, judge_lent}
use Rattle.list_calls.specs.Lists.{stand_given}
use Rattle.before_tables.specs.Answers.{judge_bounded_before, start_answer_before, cycle_answer_before, run_answer_before, resume_in_before}

-- -4101, -4102, -4111 and -4105 in this order
unfoldable pub judge_call_before : ℕ → ℕ → Areas → ℕ → ℕ → ℕ → Judged
judge_call_before len order areas registers out needed = with_room (with_room (judge_bounded_before len order areas) registers 8) out needed

-- where the areas come with the registers
abbrev pub judge_with_before : ℕ → ℕ → List ℕ → ℕ → ℕ → Judged
judge_with_before len order registers out needed = judge_call_before len order (areas_in 4 registers) (length registers) out needed

module _ (order : ℕ) (m registers out : List ℕ) where
  -- start
  abbrev pub start_call_if : Judged → Areas → ℕ → ℕ → Called
  start_call_if (Err n) areas ep handler = called m registers out (refusal_number n)
  start_call_if (Ok _) areas ep handler =
      let s = start_answer_before order areas m ep handler in
      record { memory = s.memory; told = start_told registers out s.answer }

  unfoldable pub start_call_before : Areas → ℕ → ℕ → Called
  start_call_before areas ep handler =
      start_call_if (judge_call_before (length m) order areas (length registers) (length out) 1) areas ep handler

  -- cycle
  abbrev pub cycle_call_if : Judged → Called
  cycle_call_if (Err n) = called m registers out (refusal_number n)
  cycle_call_if (Ok _) =
      let s = cycle_answer_before order m (registers_of registers) in
      record { memory = s.memory; told = cycle_told registers out s.answer }

  unfoldable pub cycle_call_before : Called
  cycle_call_before = cycle_call_if (judge_with_before (length m) order registers (length out) 1)

  -- run
  abbrev pub run_call_if : Judged → ℕ → Called
  run_call_if (Err n) budget = called m registers out (refusal_number n)
  run_call_if (Ok _) budget =
      let s = run_answer_before order m (registers_of registers) budget in
      record { memory = s.memory; told = run_told registers out budget s.answer }

  unfoldable pub run_call_before : ℕ → Called
  run_call_before budget = run_call_if (judge_with_before (length m) order registers (length out) 2) budget

-- the list machine
unfoldable pub resume_call_before : ℕ → List ℕ → List ℕ → ℕ → List ℕ → ℕ → Bool → List ℕ → ℕ → List ℕ → Called
resume_call_before order kinds operands base m item ran pointers items out =
    let room = judge_lent (length pointers) (length out) in
    let s = resume_in_before room order (areas_in 2 pointers) kinds operands base m (stand_given item ran pointers) items in
    record { memory = s.memory; told = list_told pointers out s }

abbrev pub list_call_before : ℕ → List ℕ → List ℕ → ℕ → List ℕ → List ℕ → ℕ → List ℕ → Called
list_call_before order kinds operands base m pointers items out = resume_call_before order kinds operands base m 0 false pointers items out
