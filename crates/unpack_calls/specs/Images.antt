-- What `beetle_unpack` leaves and answers. Document 02, (h); -4105 is judged last, for both arrays and for `out`.
use Rattle.std.specs.Prelude.{List, [], ◌∷◌, ℕ, length, Err, Ok}
use Rattle.cell.specs.Refusals.{refusal_number, Judged}
use Rattle.lent_arrays.specs.Lending.{written, with_room}
use Rattle.calls.specs.Modules.{Noted, noted}
use Rattle.unpacker.specs.Judgement.{judge_unpack}
use Rattle.unpacker.specs.Unpack.{UnpackResult, unpack_of, Unpacked}

-- 0 and the items, or a refusal's number with nothing written
abbrev pub unpack_noted : List ℕ → Unpacked → Noted
unpack_noted out (Err r) = noted out (refusal_number r)
unpack_noted out (Ok n) = noted (written (n ∷ []) out) 0

-- both arrays, what is left in `out`, and the number answered
pub record Listed : Type 0 where
  pub kinds : List ℕ
  pub operands : List ℕ
  pub noted : Noted

abbrev pub listed : List ℕ → List ℕ → List ℕ → ℕ → Listed
listed kinds operands out n = record { kinds = kinds; operands = operands; noted = noted out n }

-- a result with its count in `out`
abbrev pub told : UnpackResult → List ℕ → Listed
told result out = record { kinds = result.kinds; operands = result.operands; noted = unpack_noted out result.answer }

-- where the judgement of all that was lent is no refusal
abbrev pub unpack_if : Judged → UnpackResult → List ℕ → List ℕ → List ℕ → Listed
unpack_if (Err r) result kinds operands out = listed kinds operands out (refusal_number r)
unpack_if (Ok _) result kinds operands out = told result out

unfoldable pub unpack_call : ℕ → List ℕ → ℕ → List ℕ → List ℕ → List ℕ → Listed
unpack_call order s base kinds operands out =
    unpack_if (with_room (judge_unpack order base s (length kinds) (length operands)) (length out) 1) (unpack_of order s base kinds operands)
    kinds operands out
