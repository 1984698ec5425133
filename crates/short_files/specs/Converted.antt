-- What shorten and lengthen leave and answer. Document 02, (l): a file is judged by its input list and by the room that the other one needs; neither base
-- nor byte order is judged. Document 01, Turned back for the state: a refusal has a number and a count of 0 and leaves the output; a success
-- changes its own bytes alone.
use Rattle.std.specs.Prelude.{List, [], ◌∷◌, ◌++◌, ℕ, ltb, length, drop, Result, Err, Ok}
use Rattle.cell.specs.Refusals.{Ground, judge, after, answer_number, Judged}
use Rattle.cell.specs.declared.Refusal.{Refusal}
use Rattle.cell.specs.declared.Refusal.TheVariants.{ShortOutput}
use Rattle.pack_layout.specs.File.{file_base, filed, judged_file}
use Rattle.short_judging.specs.ShortFile.{short_base, short_listing}
use Rattle.short_judging.specs.Judging.{judged_short}
use Rattle.short_files.specs.Files.{long_file, short_file}

-- what shorten and lengthen answer: the number of bytes written
abbrev pub Converted : Type 0
Converted = Result ℕ Refusal

-- the count of each answer: the bytes written, or 0 on a refusal
abbrev pub convert_count : Converted → ℕ
convert_count (Err r) = 0
convert_count (Ok n) = n

-- the output afterwards, and the answer
pub record ConvertResult : Type 0 where
  pub output : List ℕ
  pub answer : Converted
  pub number : ℕ
  pub count : ℕ

abbrev pub converted_to : List ℕ → Converted → ConvertResult
converted_to out a = record { output = out; answer = a; number = answer_number a; count = convert_count a }

-- -4105: an output of this size has no room for so many bytes
abbrev pub no_room : ℕ → ℕ → Ground
no_room bytes size = record { applies = ltb size bytes; refusal = ShortOutput }

-- the input list of a file, then the room for the file that it becomes
abbrev pub judge_room : Judged → List ℕ → ℕ → Judged
judge_room input file size = after input (judge (no_room (length file) size ∷ []))

-- that file goes into the output's first bytes
abbrev pub convert_if : Judged → List ℕ → List ℕ → ConvertResult
convert_if (Err r) file out = converted_to out (Err r)
convert_if (Ok _) file out = converted_to (file ++ drop (length file) out) (Ok (length file))

-- the short file of a listing file, and the listing file of a short one
abbrev pub shortened : List ℕ → List ℕ
shortened s = short_file (filed s) (file_base s)

abbrev pub lengthened : List ℕ → List ℕ
lengthened s = long_file (short_listing s) (short_base s)

unfoldable pub judge_shorten : List ℕ → ℕ → Judged
judge_shorten s size = judge_room (judged_file s) (shortened s) size

unfoldable pub judge_lengthen : List ℕ → ℕ → Judged
judge_lengthen s size = judge_room (judged_short s) (lengthened s) size

unfoldable pub shorten_of : List ℕ → List ℕ → ConvertResult
shorten_of s out = convert_if (judge_shorten s (length out)) (shortened s) out

unfoldable pub lengthen_of : List ℕ → List ℕ → ConvertResult
lengthen_of s out = convert_if (judge_lengthen s (length out)) (lengthened s) out
