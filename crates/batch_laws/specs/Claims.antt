-- What is proved of batches. Document 02, (k). The proofs stand in proofs/: Reports and Batches.
use Rattle.std.specs.Prelude.{◌≡◌, List, [], ◌∷◌, ◌++◌, map, ℕ, suc, ◌+◌, ◌*◌, ◌≤◌, ◌<◌, length, take, drop}
use Rattle.permutations.specs.Permutations.{Permuted}
use Rattle.processor.specs.Answers.{RunAnswer}
use Rattle.batch_reports.specs.declared.Report.{Report}
use Rattle.batch_reports.specs.Reports.{report_of, together}
use Rattle.batches.specs.Batches.{Common, Forms, forms_given, forms_in, single, BatchAnswer, batch_answer}

-- the report of some runs, and of the same in any order
abbrev pub ReportsInAnyOrder : Type 0
ReportsInAnyOrder = (runs others : List RunAnswer) → Permuted runs others → report_of others ≡ report_of runs

-- the same forms in any order, in a buffer as long: the same number answered, and the same report
pub record SameReport (a b : BatchAnswer) : Type 0 where
  pub number : a.number ≡ b.number
  pub report : a.report ≡ b.report

abbrev pub InAnyOrder : Type 0
InAnyOrder =
    (b : Common) (m : List ℕ) (f : Forms) (other : List ℕ) → length other ≡ length f.buffer
    → Permuted (forms_in f) (forms_in (forms_given other f.count f.size))
    → SameReport (batch_answer b m (forms_given other f.count f.size)) (batch_answer b m f)

-- reports of runs in any number of parts, put together one after another
abbrev pub all_together : List Report → Report
all_together [] = report_of []
all_together (r ∷ rs) = together r (all_together rs)

abbrev pub joined : List (List RunAnswer) → List RunAnswer
joined [] = []
joined (p ∷ ps) = p ++ joined ps

abbrev pub ReportsAddUp : Type 0
ReportsAddUp = (parts : List (List RunAnswer)) → report_of (joined parts) ≡ all_together (map report_of parts)

-- the first k forms of a batch, and those behind them
abbrev pub front : ℕ → Forms → Forms
front k f = forms_given f.buffer k f.size

abbrev pub behind : ℕ → ℕ → Forms → Forms
behind k n f = forms_given (drop (k * f.size) f.buffer) n f.size

-- a batch cut in two: both parts are accepted, their reports put together are its report, and the second part, in the memory that the first one left,
-- leaves its memory
pub record Cut (b : Common) (m : List ℕ) (f : Forms) (k n : ℕ) : Type 0 where
  pub first : (batch_answer b m (front k f)).number ≡ 0
  pub second : (batch_answer b (batch_answer b m (front k f)).memory (behind k n f)).number ≡ 0
  pub report : (batch_answer b m f).report
      ≡ together (batch_answer b m (front k f)).report (batch_answer b (batch_answer b m (front k f)).memory (behind k n f)).report
  pub memory : (batch_answer b m f).memory ≡ (batch_answer b (batch_answer b m (front k f)).memory (behind k n f)).memory

abbrev pub PartsAddUp : Type 0
PartsAddUp =
    (b : Common) (m : List ℕ) (f : Forms) (k n : ℕ) → k + n ≡ f.count → (batch_answer b m f).number ≡ 0 → Cut b m f k n

-- two parts that are accepted make a batch that is
abbrev pub PartsMake : Type 0
PartsMake =
    (b : Common) (m : List ℕ) (f : Forms) (k n : ℕ) → k + n ≡ f.count → (batch_answer b m (front k f)).number ≡ 0
    → (batch_answer b (batch_answer b m (front k f)).memory (behind k n f)).number ≡ 0 → (batch_answer b m f).number ≡ 0

-- a batch of no form that is accepted: zeros, and memory as it was lent
abbrev pub EmptyBatch : Type 0
EmptyBatch =
    (b : Common) (m : List ℕ) (f : Forms) → f.count ≡ 0
    → ((batch_answer b m f).report ≡ report_of []) × ((batch_answer b m f).memory ≡ m)

-- a batch that is refused: zeros, and memory as it was lent
abbrev pub RefusedBatch : Type 0
RefusedBatch =
    (b : Common) (m : List ℕ) (f : Forms) → ((batch_answer b m f).number ≡ 0 → ⊥)
    → ((batch_answer b m f).report ≡ report_of []) × ((batch_answer b m f).memory ≡ m)

-- the mean: quotient and remainder give the cycles back, and the remainder is below the forms
pub record IsMean (r : Report) : Type 0 where
  pub whole : r.mean.quotient * r.tally.forms + r.mean.remainder ≡ r.tally.cycles
  pub below : 0 < r.tally.forms → r.mean.remainder < r.tally.forms
  pub none : r.tally.forms ≡ 0 → (r.mean.quotient ≡ 0) × (r.mean.remainder ≡ 0)

abbrev pub MeanIsExact : Type 0
MeanIsExact = (runs : List RunAnswer) → IsMean (report_of runs)

-- an accepted batch counts every form once: its forms are those given, and the five ways to end add up to them; they have no more
-- cycles than so many times the largest, and that is no more than the budget
pub record AddsUp (b : Common) (f : Forms) (r : Report) : Type 0 where
  pub forms : r.tally.forms ≡ f.count
  pub ways : r.tally.zeros + (r.tally.stacks + (r.tally.handlers + (r.tally.others + r.tally.spent))) ≡ f.count
  pub cycles : r.tally.cycles ≤ f.count * r.tally.largest
  pub largest : r.tally.largest ≤ b.budget

abbrev pub EachCountedOnce : Type 0
EachCountedOnce =
    (b : Common) (m : List ℕ) (f : Forms) → (batch_answer b m f).number ≡ 0 → AddsUp b f (batch_answer b m f).report

-- the form with a number, counted from 0
abbrev pub form_at : Forms → ℕ → List ℕ
form_at f k = take f.size (drop (k * f.size) f.buffer)

-- an accepted batch leaves the memory that the single run of its last form leaves, whatever the others did and whatever memory was lent
abbrev pub AsTheLastLeft : Type 0
AsTheLastLeft =
    (b : Common) (m : List ℕ) (f : Forms) (k : ℕ) → f.count ≡ suc k → (batch_answer b m f).number ≡ 0
    → (batch_answer b m f).memory ≡ (single b (form_at f k)).memory

-- every form's run is accepted in an accepted batch
abbrev pub EachIsRun : Type 0
EachIsRun =
    (b : Common) (m : List ℕ) (f : Forms) → (batch_answer b m f).number ≡ 0
    → (k : ℕ) → k < f.count → (single b (form_at f k)).number ≤ 1
