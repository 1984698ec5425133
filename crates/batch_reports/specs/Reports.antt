-- The report of a batch, from the single runs of its forms. Document 02, (k).
use Rattle.std.specs.Prelude.{Bool, not, ◌&&◌, ◌||◌, List, [], ◌∷◌, ℕ, ◌+◌, ◌/◌, ◌%◌, max, eqb, length}
use Rattle.cell.specs.Choice.{if}
use Rattle.exceptions.specs.Fixed.{bad_stack, bad_handler}
use Rattle.processor.specs.Answers.{RunAnswer}
use Rattle.batch_reports.specs.declared.Tally.{Tally}
use Rattle.batch_reports.specs.declared.Mean.{Mean}
use Rattle.batch_reports.specs.declared.Report.{Report}

-- how a run ended: by a stop with some reason, whoever gave it; by a stop with none of the three that are counted by themselves; or with its budget spent
abbrev pub stopped : RunAnswer → Bool
stopped r = eqb r.number 1

abbrev pub stopped_with : ℕ → RunAnswer → Bool
stopped_with x r = stopped r && eqb r.reason x

abbrev pub stopped_else : RunAnswer → Bool
stopped_else r = stopped r && not (eqb r.reason 0 || (eqb r.reason bad_stack || eqb r.reason bad_handler))

abbrev pub spent : RunAnswer → Bool
spent r = eqb r.number 0

-- of some runs: the sum of a figure, how many pass a test, and the largest of a figure
abbrev pub sum_of : (RunAnswer → ℕ) → List RunAnswer → ℕ
sum_of f [] = 0
sum_of f (r ∷ rs) = f r + sum_of f rs

abbrev pub how_many : (RunAnswer → Bool) → List RunAnswer → ℕ
how_many p rs = sum_of (λ r. if (p r) 1 0) rs

abbrev pub largest_of : (RunAnswer → ℕ) → List RunAnswer → ℕ
largest_of f [] = 0
largest_of f (r ∷ rs) = max (f r) (largest_of f rs)

-- the figures of some runs. The cycles of a run are its count: those done where it stopped, the budget where it is spent
abbrev pub tally_of : List RunAnswer → Tally
tally_of rs =
    record {
      forms = length rs;
      zeros = how_many (stopped_with 0) rs;
      stacks = how_many (stopped_with bad_stack) rs;
      handlers = how_many (stopped_with bad_handler) rs;
      others = how_many stopped_else rs;
      spent = how_many spent rs;
      cycles = sum_of (λ r. r.count) rs;
      largest = largest_of (λ r. r.count) rs;
    }

-- no runs
abbrev pub no_runs : Tally
no_runs = tally_of []

-- the figures of runs of two sorts together
abbrev pub added : Tally → Tally → Tally
added s t =
    record {
      forms = s.forms + t.forms;
      zeros = s.zeros + t.zeros;
      stacks = s.stacks + t.stacks;
      handlers = s.handlers + t.handlers;
      others = s.others + t.others;
      spent = s.spent + t.spent;
      cycles = s.cycles + t.cycles;
      largest = max s.largest t.largest;
    }

-- the mean of the cycles, in whole numbers: quotient and remainder by the forms, both 0 where there is no form
abbrev pub mean_of : Tally → Mean
mean_of t =
    record {
      quotient = if (eqb t.forms 0) 0 (t.cycles / t.forms);
      remainder = if (eqb t.forms 0) 0 (t.cycles % t.forms);
    }

abbrev pub reported : Tally → Report
reported t = record { tally = t; mean = mean_of t }

abbrev pub report_of : List RunAnswer → Report
report_of rs = reported (tally_of rs)

-- two reports put together: the figures added, and the mean from the sums
abbrev pub together : Report → Report → Report
together a b = reported (added a.tally b.tally)
