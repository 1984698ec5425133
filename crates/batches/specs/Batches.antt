-- What a batch leaves and answers. Document 02, (k): every form finds the start memory as it was, with its own bytes in it, and is run from the same
-- registers with the same budget.
use Rattle.std.specs.Prelude.{List, [], ◌∷◌, map, ℕ, length, Result, Ok, Err}
use Rattle.cell.specs.Refusals.{refusal_number, Judged}
use Rattle.cell.specs.declared.Refusal.{Refusal}
use Rattle.machine.specs.declared.Table.{Table}
use Rattle.areas.specs.declared.RegisterFile.{RegisterFile}
use Rattle.processor.specs.Answers.{Setting, Given, RunAnswer, run_answer}
use Rattle.batch_forms.specs.Forms.{forms_of, formed}
use Rattle.batch_reports.specs.declared.Report.{Report}
use Rattle.batch_reports.specs.Reports.{report_of}
use Rattle.batch_judging.specs.Grounds.{judge_batch}

-- what all forms of a batch are given: byte order and table, the start memory, the address that a form goes to, registers and budget
pub record Common : Type 0 where
  pub setting : Setting
  pub start : List ℕ
  pub address : ℕ
  pub registers : RegisterFile
  pub budget : ℕ

-- the same of a call's own numbers
abbrev pub common_of : ℕ → List ℕ → ℕ → RegisterFile → Table → ℕ → Common
common_of order start a r table budget =
    record { setting = record { order = order; table = table }; start = start; address = a; registers = r; budget = budget }

-- what a form's run is given
abbrev pub given_to : Common → List ℕ → Given RegisterFile
given_to b form =
    record { setting = b.setting; memory = formed b.start b.address form; registers = b.registers; budget = b.budget }

-- the single run of a form: `run` on its own, by what `run` promises
abbrev pub single : Common → List ℕ → RunAnswer
single b form = run_answer (given_to b form)

-- the single runs of some forms
abbrev pub runs_of : Common → List (List ℕ) → List RunAnswer
runs_of b forms = map (single b) forms

-- the memory that runs one after another in the same place leave: that of the last, and of none the memory that was lent
abbrev pub last_memory : List ℕ → List RunAnswer → List ℕ
last_memory m [] = m
last_memory m (r ∷ rs) = last_memory r.memory rs

-- what a batch answers. A refusal stands for a report of zeros
abbrev pub Batched : Type 0
Batched = Result Report Refusal

-- the number (0, or the refusal's) and the report (all zeros on a refusal)
abbrev pub batch_number : Batched → ℕ
batch_number (Err n) = refusal_number n
batch_number (Ok t) = 0

abbrev pub batch_report : Batched → Report
batch_report (Err n) = report_of []
batch_report (Ok t) = t

pub record BatchAnswer : Type 0 where
  pub memory : List ℕ
  pub answer : Batched
  pub number : ℕ
  pub report : Report

abbrev pub batched_to : List ℕ → Batched → BatchAnswer
batched_to m a = record { memory = m; answer = a; number = batch_number a; report = batch_report a }

-- the forms of a batch: a buffer, how many there are in it, and the bytes of each
pub record Forms : Type 0 where
  pub buffer : List ℕ
  pub count : ℕ
  pub size : ℕ

abbrev pub forms_given : List ℕ → ℕ → ℕ → Forms
forms_given buffer count size = record { buffer = buffer; count = count; size = size }

abbrev pub forms_in : Forms → List (List ℕ)
forms_in f = forms_of f.count f.size f.buffer

-- the single runs of all forms of a call
abbrev pub runs_in : ℕ → List ℕ → List ℕ → ℕ → ℕ → ℕ → RegisterFile → Table → ℕ → List RunAnswer
runs_in order start buffer count size a r table budget = runs_of (common_of order start a r table budget) (forms_of count size buffer)

abbrev pub judge_common : Common → ℕ → Forms → Judged
judge_common b lent f =
    judge_batch b.setting.order (length b.start) lent b.registers.areas b.setting.table b.address f.size
    (length f.buffer) f.count

-- where the judgement is no refusal, every form is run
abbrev pub batch_if : Judged → Common → List ℕ → Forms → BatchAnswer
batch_if (Err n) b m f = batched_to m (Err n)
batch_if (Ok _) b m f =
    let runs = runs_of b (forms_in f) in
    batched_to (last_memory m runs) (Ok (report_of runs))

-- the batch, with the memory that it was lent to run in
unfoldable pub batch_answer : Common → List ℕ → Forms → BatchAnswer
batch_answer b m f = batch_if (judge_common b (length m) f) b m f
