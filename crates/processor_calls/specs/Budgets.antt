-- Budgets that can be cut, for `beetle_run`: the arrays that one call leaves are lent to the next. Document 02, (m).
use Rattle.std.specs.Prelude.{◌≡◌, ◌≢◌, List, [], ◌∷◌, ℕ, ◌+◌, ◌≤◌, get_or}
use Rattle.processor.specs.Answers.{Given}
use Rattle.processor_laws.specs.Budgets.{with_budget, carried_on}
use Rattle.lent_arrays.specs.Lending.{written}
use Rattle.processor_calls.specs.Machines.{Called, called, run_call}

-- what a call left and answered, with the b cycles that were done before added to its count, the second number of `out`
abbrev pub with_cycles : ℕ → Called → Called
with_cycles b s =
    let out = s.told.out in
    called s.memory s.told.registers (written (get_or out 0 0 ∷ (b + get_or out 1 0) ∷ []) out) s.told.number

-- a call that is spent, followed by one of c cycles with all else as it was left or given, is the call of both budgets in one
abbrev pub CutCall : Type 0
CutCall =
    (g : Given (List ℕ)) (out : List ℕ) (c : ℕ) → (run_call g out).told.number ≡ 0
    → run_call (with_budget (g.budget + c) g) out
    ≡ with_cycles g.budget (run_call (carried_on g (run_call g out).memory (run_call g out).told.registers c) (run_call g out).told.out)

-- a call that is not spent, one that stopped above all, does and answers the same under every larger budget
abbrev pub LargerCall : Type 0
LargerCall =
    (g : Given (List ℕ)) (out : List ℕ) (b : ℕ) → (run_call g out).told.number ≢ 0 → g.budget ≤ b
    → run_call (with_budget b g) out ≡ run_call g out
