-- What `beetle_batch` leaves and answers. Document 02, (k); -4105 is judged last, for the forms and for `out`.
use Rattle.std.specs.Prelude.{List, [], ◌∷◌, ℕ, ◌/◌, ◌%◌, ◌^◌, length, Ok, Err}
use Rattle.cell.specs.Refusals.{refusal_number, Judged}
use Rattle.lent_arrays.specs.Lending.{written, with_room}
use Rattle.calls.specs.Modules.{Noted, noted, Moved, moved}
use Rattle.batch_reports.specs.declared.Report.{Report}
use Rattle.batches.specs.Batches.{Batched, Common, Forms, BatchAnswer, judge_common, batch_answer}

-- the numbers that are told: the forms; of these the stops by reason 0, by -258, by -259 and by any other, and the spent budgets; the cycles in two halves,
-- the low one first; the largest; and the mean's quotient and remainder
abbrev pub report_list : Report → List ℕ
report_list r =
    r.tally.forms
    ∷ r.tally.zeros
    ∷ r.tally.stacks
    ∷ r.tally.handlers
    ∷ r.tally.others
    ∷ r.tally.spent
    ∷ r.tally.cycles % 2 ^ 32
    ∷ r.tally.cycles / 2 ^ 32
    ∷ r.tally.largest
    ∷ r.mean.quotient
    ∷ r.mean.remainder
    ∷ []

-- 0 and the report, or a refusal's number with nothing written
abbrev pub batch_noted : List ℕ → Batched → Noted
batch_noted out (Err r) = noted out (refusal_number r)
batch_noted out (Ok t) = noted (written (report_list t) out) 0

-- a batch's answer with its report in `out`
abbrev pub told : BatchAnswer → List ℕ → Moved
told s out = record { bytes = s.memory; noted = batch_noted out s.answer }

-- where the judgement of all that was lent is no refusal
abbrev pub call_if : Judged → BatchAnswer → List ℕ → List ℕ → Moved
call_if (Err n) s m out = moved m out (refusal_number n)
call_if (Ok _) s m out = told s out

unfoldable pub batch_call : Common → List ℕ → Forms → List ℕ → Moved
batch_call b m f out = call_if (with_room (judge_common b (length m) f) (length out) 11) (batch_answer b m f) m out
