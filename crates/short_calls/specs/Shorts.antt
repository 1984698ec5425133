-- What `beetle_shorten`, `beetle_lengthen` and `beetle_pack_short` leave and answer. Document 02, (l); -4105 is judged last, for `output` and for `out`.
use Rattle.std.specs.Prelude.{List, [], ◌∷◌, ℕ, length, Err, Ok}
use Rattle.cell.specs.Refusals.{refusal_number, Judged}
use Rattle.lent_arrays.specs.Lending.{written, with_room}
use Rattle.calls.specs.Listings.{pack_if}
use Rattle.calls.specs.Modules.{Noted, noted, Moved, moved}
use Rattle.short_files.specs.Converted.{ConvertResult, judge_shorten, judge_lengthen, shorten_of, lengthen_of, Converted}
use Rattle.short_packing.specs.Packing.{judge_pack_short, pack_short_of}

-- 0 and the bytes written, or a refusal's number with nothing written
abbrev pub convert_noted : List ℕ → Converted → Noted
convert_noted out (Err r) = noted out (refusal_number r)
convert_noted out (Ok n) = noted (written (n ∷ []) out) 0

-- a result with its count in `out`
abbrev pub told : ConvertResult → List ℕ → Moved
told result out = record { bytes = result.output; noted = convert_noted out result.answer }

-- where the judgement of all that was lent is no refusal
abbrev pub convert_if : Judged → ConvertResult → List ℕ → List ℕ → Moved
convert_if (Err r) result output out = moved output out (refusal_number r)
convert_if (Ok _) result output out = told result out

unfoldable pub shorten_call : List ℕ → List ℕ → List ℕ → Moved
shorten_call file output out =
    convert_if (with_room (judge_shorten file (length output)) (length out) 1) (shorten_of file output) output out

unfoldable pub lengthen_call : List ℕ → List ℕ → List ℕ → Moved
lengthen_call file output out =
    convert_if (with_room (judge_lengthen file (length output)) (length out) 1) (lengthen_of file output) output out

unfoldable pub pack_short_call : ℕ → List ℕ → List ℕ → List ℕ → Moved
pack_short_call order file output out =
    pack_if (with_room (judge_pack_short order file (length output)) (length out) 1) (pack_short_of order file output) output out
