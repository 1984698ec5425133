-- Budgets that can be cut. Document 02, (m). A run's answer is read by its memory, number, reason, registers and count (processor, Answers), and what is
-- claimed is claimed over all that a run is given. That b + c is below 2^32 is no part of the claims: a call's budget is a cell, and they hold for any numbers.
use Rattle.std.specs.Prelude.{◌≡◌, ◌≢◌, List, ℕ, ◌+◌, ◌≤◌, Ok, Err}
use Rattle.areas.specs.declared.RegisterFile.{RegisterFile}
use Rattle.processor.specs.Answers.{Given, RunAnswer, run_answer, RunAnswered}
use Rattle.processor.specs.declared.Ran.TheVariants as ran

-- the same with another budget
abbrev pub with_budget : {R : Type 0} → ℕ → Given R → Given R
with_budget b g = record { setting = g.setting; memory = g.memory; registers = g.registers; budget = b }

-- carried on from the memory and registers that were left, for c cycles more, all else alike
abbrev pub carried_on : {R : Type 0} → Given R → List ℕ → R → ℕ → Given R
carried_on g m r c = record { setting = g.setting; memory = m; registers = r; budget = c }

-- an answer, with the b cycles that were done before added to its count
abbrev pub later_stop : ℕ → RunAnswered → RunAnswered
later_stop b (Err n) = Err n
later_stop b (Ok (ran.Spent r)) = Ok (ran.Spent r)
later_stop b (Ok (ran.Stopped r x n)) = Ok (ran.Stopped r x (b + n))

abbrev pub with_cycles : ℕ → RunAnswer → RunAnswer
with_cycles b s =
    record {
      memory = s.memory;
      answer = later_stop b s.answer;
      number = s.number;
      reason = s.reason;
      registers = s.registers;
      count = b + s.count;
    }

-- a run that is spent, carried on for c cycles more, is the run of both budgets in one
abbrev pub CutBudget : Type 0
CutBudget =
    (g : Given RegisterFile) (c : ℕ) → (run_answer g).number ≡ 0
    → run_answer (with_budget (g.budget + c) g)
    ≡ with_cycles g.budget (run_answer (carried_on g (run_answer g).memory (run_answer g).registers c))

-- a run that is not spent, one that stopped above all, is answered alike under every larger budget
abbrev pub LargerBudget : Type 0
LargerBudget =
    (g : Given RegisterFile) (b : ℕ) → (run_answer g).number ≢ 0 → g.budget ≤ b
    → run_answer (with_budget b g) ≡ run_answer g
