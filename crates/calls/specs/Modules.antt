-- What `beetle_load`, `beetle_load_first` and `beetle_save` leave and answer.
use Rattle.std.specs.Prelude.{List, [], ◌∷◌, ℕ, length, Ok, Err}
use Rattle.cell.specs.Refusals.{Judged, refusal_number}
use Rattle.module_judging.specs.Grounds.{judge_load, judge_save}
use Rattle.module_loading.specs.Answers.{Loaded, LoadResult, load_of, load_first_of}
use Rattle.module_saving.specs.Answers.{Saved, save_of}
use Rattle.lent_arrays.specs.Lending.{written, with_room}

-- what is left in `out`, and the number answered
pub record Noted : Type 0 where
  pub out : List ℕ
  pub number : ℕ

abbrev pub noted : List ℕ → ℕ → Noted
noted out n = record { out = out; number = n }

-- the same, with the bytes that were lent to be written: the memory of a load, the output of a save
pub record Moved : Type 0 where
  pub bytes : List ℕ
  pub noted : Noted

abbrev pub moved : List ℕ → List ℕ → ℕ → Moved
moved bytes out n = record { bytes = bytes; noted = noted out n }

-- 0 and the cells or bytes, or a refusal's number with nothing written
abbrev pub load_noted : List ℕ → Loaded → Noted
load_noted out (Err r) = noted out (refusal_number r)
load_noted out (Ok l) = noted (written (l.0 ∷ []) out) 0

abbrev pub save_noted : List ℕ → Saved → Noted
save_noted out (Err r) = noted out (refusal_number r)
save_noted out (Ok n) = noted (written (n ∷ []) out) 0

-- a load where the judgement is no refusal
abbrev pub load_if : Judged → LoadResult → List ℕ → List ℕ → Moved
load_if (Err n) s m out = moved m out (refusal_number n)
load_if (Ok _) s m out = record { bytes = s.memory; noted = load_noted out s.answer }

unfoldable pub load_call : ℕ → List ℕ → List ℕ → ℕ → List ℕ → Moved
load_call order m file a out =
    load_if (with_room (judge_load (length m) order file a) (length out) 1) (load_of order m file a) m out

unfoldable pub load_first_call : ℕ → List ℕ → List ℕ → ℕ → ℕ → List ℕ → Moved
load_first_call order m file a k out =
    load_if (with_room (judge_load (length m) order file a) (length out) 1) (load_first_of order m file a k) m out

abbrev pub save_if : Judged → ℕ → List ℕ → ℕ → ℕ → List ℕ → List ℕ → Moved
save_if (Err n) order m a l output out = moved output out (refusal_number n)
save_if (Ok _) order m a l output out =
    let s = save_of order m a l output in
    record { bytes = s.output; noted = save_noted out s.answer }

unfoldable pub save_call : ℕ → List ℕ → ℕ → ℕ → List ℕ → List ℕ → Moved
save_call order m a l output out =
    save_if (with_room (judge_save (length m) order a l (length output)) (length out) 1) order m a l output out
