-- What the exported calls of the machine left and answered before areas: four places of `registers` and two of `pointers` were read and written. Document 01.
use Rattle.processor_start.specs.Answers.{StartAnswered}
use Rattle.processor.specs.Answers.{CycleAnswered, RunAnswered}
use Rattle.std.specs.Prelude.{Bool, List, [], ◌∷◌, ℕ, ◌/◌, ◌%◌, ◌^◌, length, get_or, Ok, Err}
use Rattle.cell.specs.Refusals.{judge_machine, refusal_number, Judged, passed}
use Rattle.machine.specs.declared.Registers.{Registers}
use Rattle.processor_start.specs.declared.Started.TheVariants as started
use Rattle.processor.specs.declared.Cycled.TheVariants as cycled
use Rattle.processor.specs.declared.Ran.TheVariants as ran
use Rattle.list_following.specs.Follow.{FollowResult}
use Rattle.list_following.specs.Follow.{Followed}
use Rattle.lent_arrays.specs.Lending.{written, with_room}
use Rattle.processor_calls.specs.Machines.{Told, told, Called, called}
use Rattle.list_calls.specs.Lists.{stand_given}
use Rattle.before_areas.specs.Answers.{start_answer_before, cycle_answer_before, run_answer_before, resume_before}

-- -4101, -4102 and -4105 in this order
unfoldable pub judge_call_before : ℕ → ℕ → ℕ → ℕ → ℕ → Judged
judge_call_before len order registers out needed = with_room (with_room (judge_machine len order) registers 4) out needed

abbrev pub registers_before : List ℕ → Registers
registers_before lent = record { ep = get_or lent 0 0; a = get_or lent 1 0; sp = get_or lent 2 0; rp = get_or lent 3 0 }

-- what is told of an answer; a refusal leaves `registers` and `out` as they were
module _ (registers out : List ℕ) where
  abbrev pub success_before : Registers → List ℕ → ℕ → Told
  success_before r xs n = told (written (r.ep ∷ r.a ∷ r.sp ∷ r.rp ∷ []) registers) (written xs out) n

  abbrev pub start_told_before : StartAnswered → Told
  start_told_before (Err n) = told registers out (refusal_number n)
  start_told_before (Ok (started.Ready f)) = success_before f.registers (0 ∷ []) 0
  start_told_before (Ok (started.Stopped f x)) = success_before f.registers (x ∷ []) 1

  abbrev pub cycle_told_before : CycleAnswered → Told
  cycle_told_before (Err n) = told registers out (refusal_number n)
  cycle_told_before (Ok (cycled.Went f)) = success_before f.registers (0 ∷ []) 0
  cycle_told_before (Ok (cycled.Threw f e)) = success_before f.registers (0 ∷ []) 0
  cycle_told_before (Ok (cycled.Stopped f x)) = success_before f.registers (x ∷ []) 1

  abbrev pub run_told_before : ℕ → RunAnswered → Told
  run_told_before budget (Err n) = told registers out (refusal_number n)
  run_told_before budget (Ok (ran.Spent f)) = success_before f.registers (0 ∷ budget ∷ []) 0
  run_told_before budget (Ok (ran.Stopped f x n)) = success_before f.registers (x ∷ n ∷ []) 1

module _ (order : ℕ) (m registers out : List ℕ) where
  -- start
  abbrev pub start_call_if : Judged → ℕ → ℕ → Called
  start_call_if (Err n) ep handler = called m registers out (refusal_number n)
  start_call_if (Ok _) ep handler =
      let s = start_answer_before order m ep handler in
      record { memory = s.memory; told = start_told_before registers out s.answer }

  unfoldable pub start_call_before : ℕ → ℕ → Called
  start_call_before ep handler = start_call_if (judge_call_before (length m) order (length registers) (length out) 1) ep handler

  -- cycle
  abbrev pub cycle_call_if : Judged → Called
  cycle_call_if (Err n) = called m registers out (refusal_number n)
  cycle_call_if (Ok _) =
      let s = cycle_answer_before order m (registers_before registers) in
      record { memory = s.memory; told = cycle_told_before registers out s.answer }

  unfoldable pub cycle_call_before : Called
  cycle_call_before = cycle_call_if (judge_call_before (length m) order (length registers) (length out) 1)

  -- run
  abbrev pub run_call_if : Judged → ℕ → Called
  run_call_if (Err n) budget = called m registers out (refusal_number n)
  run_call_if (Ok _) budget =
      let s = run_answer_before order m (registers_before registers) budget in
      record { memory = s.memory; told = run_told_before registers out budget s.answer }

  unfoldable pub run_call_before : ℕ → Called
  run_call_before budget = run_call_if (judge_call_before (length m) order (length registers) (length out) 2) budget

-- the list machine: SP and RP in `pointers`
abbrev pub list_told_before : Followed → List ℕ → List ℕ → FollowResult → Told
list_told_before (Err r) pointers out s = told pointers out s.number
list_told_before (Ok x) pointers out s =
    told (written (s.stand.sp ∷ s.stand.rp ∷ []) pointers)
    (written (s.reason ∷ s.stand.item.0 ∷ s.items ∷ s.cycles % 2 ^ 32 ∷ s.cycles / 2 ^ 32 ∷ []) out)
    s.number

unfoldable pub judge_lent_before : ℕ → ℕ → Judged
judge_lent_before pointers out = with_room (with_room passed pointers 2) out 5

unfoldable pub resume_call_before : ℕ → List ℕ → List ℕ → ℕ → List ℕ → ℕ → Bool → List ℕ → ℕ → List ℕ → Called
resume_call_before order kinds operands base m item ran pointers items out =
    let s = resume_before (judge_lent_before (length pointers) (length out)) order kinds operands base m (stand_given item ran pointers) items in
    record { memory = s.memory; told = list_told_before s.answer pointers out s }
