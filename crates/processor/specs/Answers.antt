-- What cycle and run leave and answer. Document 02, (a): the areas join the registers, which are eight so. Document 02, (b): a table goes with each.
use Rattle.std.specs.Prelude.{List, ℕ, length, Result, Ok, Err}
use Rattle.cell.specs.declared.Refusal.{Refusal}
use Rattle.cell.specs.Refusals.{refusal_number, Judged}
use Rattle.exceptions.specs.Exceptions.{exception_code}
use Rattle.throws.specs.Throws.{CycleState}
use Rattle.machine.specs.declared.Table.{Table}
use Rattle.machine.specs.declared.Machine.{Machine}
use Rattle.machine.specs.declared.Registers.{Registers}
use Rattle.machine.specs.declared.Exception.{Exception}
use Rattle.machine.specs.declared.Exception.TheVariants.{Range, Alignment, DataOverflow, DataUnderflow, ReturnOverflow, ReturnUnderflow, ReadOnly, Divisor, Illegal, Library}
use Rattle.machine.specs.declared.Ended.{Ended}
use Rattle.machine.specs.declared.Ended.TheVariants.{Went, Threw, Stopped}
use Rattle.areas.specs.Areas.{filed}
use Rattle.bounds.specs.Bounds.{judge_bounded, machine_of}
use Rattle.areas.specs.declared.Areas.{Areas}
use Rattle.areas.specs.declared.RegisterFile.{RegisterFile}
use Rattle.cycles.specs.Cycles.{cycle_of, cycles_of}
use Rattle.cycles.specs.Counts.{begun, done_of}
use Rattle.processor.specs.declared.Cycled.{Cycled}
use Rattle.processor.specs.declared.Cycled.TheVariants as cycled
use Rattle.processor.specs.declared.Ran.{Ran}
use Rattle.processor.specs.declared.Ran.TheVariants as ran

-- the address that an exception names: -9 and -23 alone have one
abbrev pub exception_address : Exception → ℕ
exception_address (Range a) = a.0
exception_address (Alignment a) = a.0
exception_address DataOverflow = 0
exception_address DataUnderflow = 0
exception_address ReturnOverflow = 0
exception_address ReturnUnderflow = 0
exception_address ReadOnly = 0
exception_address Divisor = 0
exception_address Illegal = 0
exception_address Library = 0

-- what a cycle and a run answer, or their refusal
abbrev pub CycleAnswered : Type 0
CycleAnswered = Result Cycled Refusal

abbrev pub RunAnswered : Type 0
RunAnswered = Result Ran Refusal

-- cycle: the number (0 went on or threw, 1 stopped, or the refusal's), the reason of a stop, the registers (those given, r, on a refusal), and the
-- code and the address of the exception that was thrown
abbrev pub cycle_number : CycleAnswered → ℕ
cycle_number (Err n) = refusal_number n
cycle_number (Ok (cycled.Went r)) = 0
cycle_number (Ok (cycled.Threw r e)) = 0
cycle_number (Ok (cycled.Stopped r x)) = 1

abbrev pub cycle_reason : CycleAnswered → ℕ
cycle_reason (Err n) = 0
cycle_reason (Ok (cycled.Went r)) = 0
cycle_reason (Ok (cycled.Threw r e)) = 0
cycle_reason (Ok (cycled.Stopped r x)) = x

abbrev pub cycle_registers : RegisterFile → CycleAnswered → RegisterFile
cycle_registers given (Err n) = given
cycle_registers given (Ok (cycled.Went r)) = r
cycle_registers given (Ok (cycled.Threw r e)) = r
cycle_registers given (Ok (cycled.Stopped r x)) = r

abbrev pub cycle_code : CycleAnswered → ℕ
cycle_code (Err n) = 0
cycle_code (Ok (cycled.Went r)) = 0
cycle_code (Ok (cycled.Threw r e)) = exception_code e
cycle_code (Ok (cycled.Stopped r x)) = 0

abbrev pub cycle_address : CycleAnswered → ℕ
cycle_address (Err n) = 0
cycle_address (Ok (cycled.Went r)) = 0
cycle_address (Ok (cycled.Threw r e)) = exception_address e
cycle_address (Ok (cycled.Stopped r x)) = 0

pub record CycleAnswer : Type 0 where
  pub memory : List ℕ
  pub answer : CycleAnswered
  pub number : ℕ
  pub reason : ℕ
  pub registers : RegisterFile
  pub code : ℕ
  pub address : ℕ

abbrev pub cycled_to : RegisterFile → List ℕ → CycleAnswered → CycleAnswer
cycled_to given m a =
    record {
      memory = m;
      answer = a;
      number = cycle_number a;
      reason = cycle_reason a;
      registers = cycle_registers given a;
      code = cycle_code a;
      address = cycle_address a;
    }

abbrev pub cycled_as : Areas → Registers → Ended → CycleAnswered
cycled_as areas r Went = Ok (cycled.Went (filed areas r))
cycled_as areas r (Threw e) = Ok (cycled.Threw (filed areas r) e)
cycled_as areas r (Stopped x) = Ok (cycled.Stopped (filed areas r) x)

abbrev pub cycle_if : Judged → ℕ → Table → List ℕ → RegisterFile → CycleAnswer
cycle_if (Err n) order table m r = cycled_to r m (Err n)
cycle_if (Ok _) order table m r =
    let t = cycle_of (machine_of order r.areas table (length m)) m r.registers in
    cycled_to r t.memory (cycled_as r.areas t.result.registers t.result.ended)

unfoldable pub cycle_answer : ℕ → Table → List ℕ → RegisterFile → CycleAnswer
cycle_answer order table m r = cycle_if (judge_bounded (length m) order r.areas table) order table m r

-- run: the number (0 spent, 1 stopped, or the refusal's), the reason of a stop, the registers (those given on a refusal), and the cycles: none on a
-- refusal, the budget where it is spent, those done where it stopped. Document 01, The processor, on run: the budget is spent exactly if so many
-- cycles passed without a stop
abbrev pub run_number : RunAnswered → ℕ
run_number (Err n) = refusal_number n
run_number (Ok (ran.Spent r)) = 0
run_number (Ok (ran.Stopped r x n)) = 1

abbrev pub run_reason : RunAnswered → ℕ
run_reason (Err n) = 0
run_reason (Ok (ran.Spent r)) = 0
run_reason (Ok (ran.Stopped r x n)) = x

abbrev pub run_registers : RegisterFile → RunAnswered → RegisterFile
run_registers given (Err n) = given
run_registers given (Ok (ran.Spent r)) = r
run_registers given (Ok (ran.Stopped r x n)) = r

abbrev pub run_count : ℕ → RunAnswered → ℕ
run_count budget (Err n) = 0
run_count budget (Ok (ran.Spent r)) = budget
run_count budget (Ok (ran.Stopped r x n)) = n

pub record RunAnswer : Type 0 where
  pub memory : List ℕ
  pub answer : RunAnswered
  pub number : ℕ
  pub reason : ℕ
  pub registers : RegisterFile
  pub count : ℕ

-- of a run that was given registers and a budget
abbrev pub ran_to : RegisterFile → ℕ → List ℕ → RunAnswered → RunAnswer
ran_to given budget m a =
    record {
      memory = m;
      answer = a;
      number = run_number a;
      reason = run_reason a;
      registers = run_registers given a;
      count = run_count budget a;
    }

abbrev pub ran_as : Areas → Registers → ℕ → Ended → RunAnswered
ran_as areas r n Went = Ok (ran.Spent (filed areas r))
ran_as areas r n (Threw e) = Ok (ran.Spent (filed areas r))
ran_as areas r n (Stopped x) = Ok (ran.Stopped (filed areas r) x n)

-- n cycles were done, and left t; the areas come back as they were given
abbrev pub run_for : RegisterFile → ℕ → ℕ → CycleState → RunAnswer
run_for given budget n t = ran_to given budget t.memory (ran_as given.areas t.result.registers n t.result.ended)

-- what holds through a whole run, whatever its cycles do, and is no register: the machine's byte order, and the table
pub record Setting : Type 0 where
  pub order : ℕ
  pub table : Table

-- all that a run is given: the setting, memory, registers and budget. R is the form in which the registers come: as read, or in a lent array. What is
-- claimed over this record is claimed of whatever stands in the setting
pub record Given (R : Type 0) : Type 0 where
  pub setting : Setting
  pub memory : List ℕ
  pub registers : R
  pub budget : ℕ

abbrev pub given_of : {R : Type 0} → ℕ → Table → List ℕ → R → ℕ → Given R
given_of order table m r budget =
    record { setting = record { order = order; table = table }; memory = m; registers = r; budget = budget }

abbrev pub machine_in : Given RegisterFile → Machine
machine_in g = machine_of g.setting.order g.registers.areas g.setting.table (length g.memory)

-- what it is judged by: -4101, -4102, -4111 and -4112
abbrev pub judge_run : Given RegisterFile → Judged
judge_run g = judge_bounded (length g.memory) g.setting.order g.registers.areas g.setting.table

abbrev pub run_if : Judged → Given RegisterFile → RunAnswer
run_if (Err n) g = ran_to g.registers g.budget g.memory (Err n)
run_if (Ok _) g =
    let s = begun g.memory g.registers.registers in
    let n = done_of (machine_in g) g.budget s in
    run_for g.registers g.budget n (cycles_of (machine_in g) n s)

unfoldable pub run_answer : Given RegisterFile → RunAnswer
run_answer g = run_if (judge_run g) g
