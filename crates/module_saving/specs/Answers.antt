-- What save_object leaves and answers. Document 01, Turned back for the state: a refusal has a number and a count of
-- 0 and leaves everything lent; a success changes its own bytes alone. The number of a success is 0, document 001, section 4.3.
use Rattle.std.specs.Prelude.{List, ◌++◌, ℕ, ◌+◌, ◌*◌, length, drop, Result, Ok, Err}
use Rattle.cell.specs.Refusals.{Judged, answer_number}
use Rattle.cell.specs.declared.Refusal.{Refusal}
use Rattle.module_judging.specs.Format.{module_of}
use Rattle.module_judging.specs.Grounds.{judge_save}

-- what a save answers: the number of bytes written, or why there are none
abbrev pub Saved : Type 0
Saved = Result ℕ Refusal

-- the count of each answer of a save: the bytes written, or 0; its number is 0, or the refusal's
abbrev pub save_count : Saved → ℕ
save_count (Err r) = 0
save_count (Ok n) = n

-- the output after a save, and its answer
pub record SaveResult : Type 0 where
  pub output : List ℕ
  pub answer : Saved
  pub number : ℕ
  pub count : ℕ

abbrev pub saved_to : List ℕ → Saved → SaveResult
saved_to out a = record { output = out; answer = a; number = answer_number a; count = save_count a }

abbrev pub save_if : Judged → ℕ → List ℕ → ℕ → ℕ → List ℕ → SaveResult
save_if (Err r) order m a l out = saved_to out (Err r)
save_if (Ok _) order m a l out =
    saved_to (module_of order m a l ++ drop (12 + 4 * l) out) (Ok (12 + 4 * l))

-- save_object on a machine of a byte order, with its memory, a byte address, a number of cells and an output
unfoldable pub save_of : ℕ → List ℕ → ℕ → ℕ → List ℕ → SaveResult
save_of order m a l out = save_if (judge_save (length m) order a l (length out)) order m a l out
