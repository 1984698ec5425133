-- What `beetle_start`, `beetle_cycle` and `beetle_run` leave and answer. Document 01, Turned back for the
-- state: a refused call leaves whatever was lent as it was, and one that succeeds changes only what it says
use Rattle.std.specs.Prelude.{List, [], ◌∷◌, ℕ, length, Ok, Err}
use Rattle.cell.specs.Refusals.{refusal_number, Judged}
use Rattle.machine.specs.declared.Table.{Table}
use Rattle.bounds.specs.Bounds.{judge_bounded}
use Rattle.areas.specs.declared.Areas.{Areas}
use Rattle.areas.specs.declared.RegisterFile.{RegisterFile}
use Rattle.processor_start.specs.Answers.{start_number, start_reason, start_registers, start_answer, StartAnswered}
use Rattle.processor.specs.Answers.{cycle_number, cycle_reason, cycle_registers, cycle_answer, run_number, run_reason, run_registers, run_count, Given, run_answer, CycleAnswered, RunAnswered}
use Rattle.processor_start.specs.declared.Started.TheVariants as started
use Rattle.processor.specs.declared.Cycled.TheVariants as cycled
use Rattle.processor.specs.declared.Ran.TheVariants as ran
use Rattle.lent_arrays.specs.Lending.{written, areas_in, registers_of, register_list, with_room}

-- what is left in `registers` and `out`, and the number answered
pub record Told : Type 0 where
  pub registers : List ℕ
  pub out : List ℕ
  pub number : ℕ

abbrev pub told : List ℕ → List ℕ → ℕ → Told
told registers out n = record { registers = registers; out = out; number = n }

-- the same, with the memory
pub record Called : Type 0 where
  pub memory : List ℕ
  pub told : Told

abbrev pub called : List ℕ → List ℕ → List ℕ → ℕ → Called
called m registers out n = record { memory = m; told = told registers out n }

-- -4101, -4102, -4111, -4112 and -4105 in this order, the last for `registers` and `out`
unfoldable pub judge_call : ℕ → ℕ → Areas → Table → ℕ → ℕ → ℕ → Judged
judge_call len order areas table registers out needed = with_room (with_room (judge_bounded len order areas table) registers 8) out needed

-- where the areas come with the registers
abbrev pub judge_with : ℕ → ℕ → Table → List ℕ → ℕ → ℕ → Judged
judge_with len order table registers out needed = judge_call len order (areas_in 4 registers) table (length registers) out needed

-- what is told of an answer: its registers, its values and its number. A refusal tells its number alone, and leaves `registers` and `out` as they were
module _ (registers out : List ℕ) where
  abbrev pub success : RegisterFile → List ℕ → ℕ → Told
  success r xs n = told (written (register_list r) registers) (written xs out) n

  abbrev pub start_writes : StartAnswered → Told
  start_writes a = success (start_registers a) (start_reason a ∷ []) (start_number a)

  abbrev pub start_told : StartAnswered → Told
  start_told (Err n) = told registers out (start_number (Err n))
  start_told (Ok (started.Ready r)) = start_writes (Ok (started.Ready r))
  start_told (Ok (started.Stopped r x)) = start_writes (Ok (started.Stopped r x))

  abbrev pub cycle_writes : CycleAnswered → Told
  cycle_writes a = success (cycle_registers (registers_of registers) a) (cycle_reason a ∷ []) (cycle_number a)

  abbrev pub cycle_told : CycleAnswered → Told
  cycle_told (Err n) = told registers out (cycle_number (Err n))
  cycle_told (Ok (cycled.Went r)) = cycle_writes (Ok (cycled.Went r))
  cycle_told (Ok (cycled.Threw r f)) = cycle_writes (Ok (cycled.Threw r f))
  cycle_told (Ok (cycled.Stopped r x)) = cycle_writes (Ok (cycled.Stopped r x))

  abbrev pub run_writes : ℕ → RunAnswered → Told
  run_writes budget a = success (run_registers (registers_of registers) a) (run_reason a ∷ run_count budget a ∷ []) (run_number a)

  abbrev pub run_told : ℕ → RunAnswered → Told
  run_told budget (Err n) = told registers out (run_number (Err n))
  run_told budget (Ok (ran.Spent r)) = run_writes budget (Ok (ran.Spent r))
  run_told budget (Ok (ran.Stopped r x n)) = run_writes budget (Ok (ran.Stopped r x n))

abbrev pub start_if : Judged → ℕ → Areas → Table → List ℕ → ℕ → ℕ → List ℕ → List ℕ → Called
start_if (Err n) order areas table m ep handler registers out = called m registers out (refusal_number n)
start_if (Ok _) order areas table m ep handler registers out =
    let s = start_answer order areas table m ep handler in
    record { memory = s.memory; told = start_told registers out s.answer }

unfoldable pub start_call : ℕ → Areas → Table → List ℕ → ℕ → ℕ → List ℕ → List ℕ → Called
start_call order areas table m ep handler registers out =
    start_if (judge_call (length m) order areas table (length registers) (length out) 1) order areas table m ep handler registers out

abbrev pub cycle_if : Judged → ℕ → Table → List ℕ → List ℕ → List ℕ → Called
cycle_if (Err n) order table m registers out = called m registers out (refusal_number n)
cycle_if (Ok _) order table m registers out =
    let s = cycle_answer order table m (registers_of registers) in
    record { memory = s.memory; told = cycle_told registers out s.answer }

unfoldable pub cycle_call : ℕ → Table → List ℕ → List ℕ → List ℕ → Called
cycle_call order table m registers out =
    cycle_if (judge_with (length m) order table registers (length out) 1) order table m registers out

-- what a run is given, once its registers are read from the lent array
abbrev pub as_read : Given (List ℕ) → Given RegisterFile
as_read g = record { setting = g.setting; memory = g.memory; registers = registers_of g.registers; budget = g.budget }

abbrev pub run_if : Judged → Given (List ℕ) → List ℕ → Called
run_if (Err n) g out = called g.memory g.registers out (refusal_number n)
run_if (Ok _) g out =
    let s = run_answer (as_read g) in
    record { memory = s.memory; told = run_told g.registers out g.budget s.answer }

unfoldable pub run_call : Given (List ℕ) → List ℕ → Called
run_call g out =
    run_if (judge_with (length g.memory) g.setting.order g.setting.table g.registers (length out) 2) g out
