-- What start leaves and answers. Document 02, (a): the areas join the registers, which are eight so. Document 02, (b): a table goes with it.
use Rattle.std.specs.Prelude.{List, ℕ, length, Result, Ok, Err}
use Rattle.cell.specs.declared.Refusal.{Refusal}
use Rattle.cell.specs.Refusals.{refusal_number, Judged}
use Rattle.machine.specs.declared.Table.{Table}
use Rattle.machine.specs.declared.Registers.{Registers}
use Rattle.machine.specs.declared.Ended.{Ended}
use Rattle.machine.specs.declared.Ended.TheVariants.{Went, Threw, Stopped}
use Rattle.areas.specs.Areas.{no_areas, filed}
use Rattle.areas.specs.declared.Areas.{Areas}
use Rattle.areas.specs.declared.RegisterFile.{RegisterFile}
use Rattle.bounds.specs.Bounds.{judge_bounded, machine_of, first_sp, first_rp}
use Rattle.processor_start.specs.Starting.{start_of}
use Rattle.processor_start.specs.declared.Started.{Started}
use Rattle.processor_start.specs.declared.Started.TheVariants as started

-- what start answers, or its refusal
abbrev pub StartAnswered : Type 0
StartAnswered = Result Started Refusal

-- start: the number of each answer (0 ready, 1 stopped, or the refusal's), the reason of a stop, and the registers, which are zeros on a refusal.
-- Document 01, Turned back for the state, and Code places and their forms, its last paragraph
abbrev pub start_number : StartAnswered → ℕ
start_number (Err n) = refusal_number n
start_number (Ok (started.Ready r)) = 0
start_number (Ok (started.Stopped r x)) = 1

abbrev pub start_reason : StartAnswered → ℕ
start_reason (Err n) = 0
start_reason (Ok (started.Ready r)) = 0
start_reason (Ok (started.Stopped r x)) = x

abbrev pub start_registers : StartAnswered → RegisterFile
start_registers (Err n) = filed no_areas (record { ep = 0; a = 0; sp = 0; rp = 0 })
start_registers (Ok (started.Ready r)) = r
start_registers (Ok (started.Stopped r x)) = r

-- memory after the call, its answer, and the answer's number and values
pub record StartAnswer : Type 0 where
  pub memory : List ℕ
  pub answer : StartAnswered
  pub number : ℕ
  pub reason : ℕ
  pub registers : RegisterFile

abbrev pub started_to : List ℕ → StartAnswered → StartAnswer
started_to m a =
    record { memory = m; answer = a; number = start_number a; reason = start_reason a; registers = start_registers a }

-- a NEXT that threw is ready in its handler; one whose throw finds no handler has stopped
abbrev pub started_as : Areas → Registers → Ended → StartAnswered
started_as areas r Went = Ok (started.Ready (filed areas r))
started_as areas r (Threw e) = Ok (started.Ready (filed areas r))
started_as areas r (Stopped x) = Ok (started.Stopped (filed areas r) x)

-- the stacks begin at the tops of their areas, and the areas go into the registers
abbrev pub start_if : Judged → ℕ → Areas → Table → List ℕ → ℕ → ℕ → StartAnswer
start_if (Err n) order areas table m ep handler = started_to m (Err n)
start_if (Ok _) order areas table m ep handler =
    let t = start_of (machine_of order areas table (length m)) m ep handler (first_sp (length m) areas) (first_rp (length m) areas) in
    started_to t.memory (started_as areas t.result.registers t.result.ended)

unfoldable pub start_answer : ℕ → Areas → Table → List ℕ → ℕ → ℕ → StartAnswer
start_answer order areas table m ep handler = start_if (judge_bounded (length m) order areas table) order areas table m ep handler
