-- `beetle_run` with a budget cut in two, or with budget to spare.
use Rattle.cell.specs.Refusals.{Judged, passed}
use Rattle.std.specs.Prelude.{Ok, Err}
use mathlib.Core.Path.{◌≡◌, refl, sym, ap, ◌∙◌}
use mathlib.Core.Logic.{◌≢◌}
use mathlib.Core.List.{List, [], ◌∷◌}
use Prim.Native.Nat.{ℕ, ◌+◌, ◌≤◌}
use native.Mathlib.Omega.{arith}
use lib.ListN.{length}
use Rattle.cell.proofs.JudgementLaws.{refusal_some}
use Rattle.machine.specs.declared.Registers.{Registers}
use Rattle.machine.specs.declared.Ended.{Ended}
use Rattle.machine.specs.declared.Ended.TheVariants.{Went, Threw, Stopped}
use Rattle.areas.specs.Areas.{filed}
use Rattle.areas.specs.declared.Areas.{Areas}
use Rattle.areas.specs.declared.RegisterFile.{RegisterFile}
use Rattle.processor.specs.Answers.{Given, ran_as, RunAnswer, run_number, judge_run, run_answer, RunAnswered}
use Rattle.processor.specs.declared.Ran.TheVariants as ran
use Rattle.processor_laws.specs.Budgets.{with_budget, carried_on, later_stop}
use Rattle.processor_laws.proofs.BudgetLaws.{its_registers, run_keeps_length, number_is, Accepted, accepted, cut_budget, larger_budget}
use Rattle.lent_arrays.specs.Lending.{written, registers_of, register_list}
use Rattle.processor_calls.specs.Machines.{Told, told, judge_with, run_told, as_read, run_if, run_call}
use Rattle.processor_calls.specs.Budgets.{with_cycles, CutCall, LargerCall}
use Rattle.lent_arrays.proofs.LendingLaws.{written_length}
use Rattle.processor_calls.proofs.CallLaws.{call_roomy, with_passed}

-- what is told of a run in two calls is what is told of the one
told_cut : (m registers out : List ℕ) (first : RegisterFile) (areas : Areas) (r : Registers) (b c n : ℕ) (e : Ended)
    → record { memory = m; told = run_told registers out (b + c) (later_stop b (ran_as areas r n e)) }
    ≡ with_cycles b (record { memory = m; told = run_told (written (register_list first) registers) (written (0 ∷ b ∷ []) out) c (ran_as areas r n e) })
told_cut m registers out first areas r b c n Went = refl
told_cut m registers out first areas r b c n (Threw f) = refl
told_cut m registers out first areas r b c n (Stopped x) = refl

-- what is told of a spent run
told_spent : (registers out : List ℕ) (areas : Areas) (r : Registers) (b n : ℕ) (e : Ended) → (run_told registers out b (ran_as areas r n e)).number ≡ 0
    → run_told registers out b (ran_as areas r n e) ≡ told (written (register_list (filed areas r)) registers) (written (0 ∷ b ∷ []) out) 0
told_spent registers out areas r b n Went q = refl
told_spent registers out areas r b n (Threw f) q = refl
told_spent registers out areas r b n (Stopped x) q = absurd (omega (arith, q))

-- the number that is told is the answer's
number_told : (registers out : List ℕ) (b : ℕ) (a : RunAnswered) → run_number a ≡ (run_told registers out b a).number
number_told registers out b (Err n) = refl
number_told registers out b (Ok (ran.Spent r)) = refl
number_told registers out b (Ok (ran.Stopped r x n)) = refl

told_number : (g : Given (List ℕ)) (out : List ℕ)
    → (run_answer (as_read g)).number ≡ (run_told g.registers out g.budget (run_answer (as_read g)).answer).number
told_number g out = number_is (as_read g) ∙ number_told g.registers out g.budget (run_answer (as_read g)).answer

-- what is told of a run that is not spent names no budget
told_alike : (registers out : List ℕ) (b c : ℕ) (a : RunAnswered) → run_number a ≢ 0 → run_told registers out b a ≡ run_told registers out c a
told_alike registers out b c (Err n) h = refl
told_alike registers out b c (Ok (ran.Spent r)) h = absurd (h refl)
told_alike registers out b c (Ok (ran.Stopped r x n)) h = refl

module _ (g : Given (List ℕ)) (out : List ℕ) (j : judge_with (length g.memory) g.setting.order g.setting.table g.registers (length out) 2 ≡ passed) where
  abbrev first : RunAnswer
  first = run_answer (as_read g)

  -- all eight registers, with the areas as given
  abbrev whole : Registers → RegisterFile
  whole r = filed (registers_of g.registers).areas r

  abbrev carried : Registers → ℕ → RunAnswer
  carried r c = run_answer (carried_on (as_read g) first.memory (whole r) c)

  -- the arrays that a spent call leaves are as long as before, with the same areas, and the next call passes
  next_call : (r : Registers) (c : ℕ)
      → run_call (carried_on g first.memory (written (register_list (whole r)) g.registers) c) (written (0 ∷ g.budget ∷ []) out)
      ≡ record {
        memory = (carried r c).memory;
        told = run_told (written (register_list (whole r)) g.registers) (written (0 ∷ g.budget ∷ []) out) c (carried r c).answer;
      }
  unfolding run_call
  next_call r c = rw (
    run_keeps_length (as_read g),
    written_length (register_list (whole r)) g.registers (call_roomy _ _ _ _ _ _ _ j).0,
    written_length (0 ∷ g.budget ∷ []) out (call_roomy _ _ _ _ _ _ _ j).1,
    j,
  )

  run_passes : judge_run (as_read g) ≡ passed
  run_passes = with_passed (length g.memory) g.setting.order g.setting.table g.registers (length out) 2 j

  one : Accepted (as_read g)
  one = accepted (as_read g) run_passes

  -- the first call's answer is spent, and leaves the arrays so
  spent_told : (run_told g.registers out g.budget first.answer).number ≡ 0
      → run_told g.registers out g.budget first.answer
      ≡ told (written (register_list (whole one.registers)) g.registers) (written (0 ∷ g.budget ∷ []) out) 0
  spent_told q =
      let areas : Areas = (registers_of g.registers).areas in
      let a : first.answer ≡ ran_as areas one.registers one.done one.ended = ap (λ (s : RunAnswer). s.answer) one.answers in
      rw a (told_spent g.registers out areas one.registers g.budget one.done one.ended (rw a at q))

  spent_registers : first.registers ≡ whole one.registers
  spent_registers =
      ap (λ (s : RunAnswer). s.registers) one.answers
      ∙ its_registers (registers_of g.registers) (registers_of g.registers).areas one.registers one.done one.ended

  two : (c : ℕ) → Accepted (carried_on (as_read g) first.memory (whole one.registers) c)
  two c = accepted (carried_on (as_read g) first.memory (whole one.registers) c) (rw (run_keeps_length (as_read g)) run_passes)

  cut_passed : (c : ℕ) → (run_told g.registers out g.budget first.answer).number ≡ 0
      → run_if passed (with_budget (g.budget + c) g) out
      ≡ with_cycles g.budget (run_call (carried_on g first.memory (run_if passed g out).told.registers c) (run_if passed g out).told.out)
  cut_passed c q =
      let r : Registers = one.registers in
      let areas : Areas = (registers_of g.registers).areas in
      let t : Accepted (carried_on (as_read g) first.memory (whole r) c) = two c in
      let a : (carried r c).answer ≡ ran_as areas t.registers t.done t.ended = ap (λ (s : RunAnswer). s.answer) t.answers in
      rw (spent_told q, next_call r c, cut_budget (as_read g) c (told_number g out ∙ q), spent_registers, a)
      (told_cut (carried r c).memory g.registers out (whole r) areas t.registers g.budget c t.done t.ended)

-- by the judgement, which the calls share
cut_by : (g : Given (List ℕ)) (out : List ℕ) (c : ℕ) (j : Judged)
    → judge_with (length g.memory) g.setting.order g.setting.table g.registers (length out) 2 ≡ j
    → (run_if j g out).told.number ≡ 0
    → run_if j (with_budget (g.budget + c) g) out
    ≡ with_cycles g.budget (run_call (carried_on g (run_if j g out).memory (run_if j g out).told.registers c) (run_if j g out).told.out)
cut_by g out c (Err n) q e = absurd (refusal_some n e)
cut_by g out c (Ok _) q e = cut_passed g out q c e

larger_by : (g : Given (List ℕ)) (out : List ℕ) (b : ℕ) (j : Judged) → (run_if j g out).told.number ≢ 0 → g.budget ≤ b
    → run_if j (with_budget b g) out ≡ run_if j g out
larger_by g out b (Err n) h w = refl
larger_by g out b (Ok _) h w =
    let s : RunAnswer = run_answer (as_read g) in
    rw (larger_budget (as_read g) b (λ q. h (sym (told_number g out) ∙ q)) w)
    (ap (λ (t : Told). record { memory = s.memory; told = t })
    (told_alike g.registers out b g.budget s.answer (λ q. h (sym (number_told g.registers out g.budget s.answer) ∙ q))))

pub cut_call : CutCall
unfolding run_call
cut_call g out c e = cut_by g out c (judge_with (length g.memory) g.setting.order g.setting.table g.registers (length out) 2) refl e

pub larger_call : LargerCall
unfolding run_call
larger_call g out b h w = larger_by g out b (judge_with (length g.memory) g.setting.order g.setting.table g.registers (length out) 2) h w
