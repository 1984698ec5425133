-- Judgements and answers.
-- Assumes nothing.
use mathlib.Core.Path.{◌≡◌, ◌∙◌}
use mathlib.Core.List.{List, [], ◌∷◌, ◌++◌}
use Prim.Native.Nat.{ℕ, ◌+◌, ◌*◌, ◌≤◌, ◌<◌}
use native.Mathlib.Omega.{arith}
use borrow.Author.Tests.{lt-ltb, le-ltb, ltb-false}
use lib.Dec.{ltb}
use lib.ListN.{length, drop}
use Rattle.std.specs.Prelude.{Err, Ok}
use Rattle.cell.specs.declared.Refusal.{Refusal}
use Rattle.cell.specs.declared.Refusal.TheVariants.{ShortOutput}
use Rattle.cell.specs.Refusals.{judge, Judged, passed}
use Rattle.cell.proofs.JudgementLaws.{both_pass, one_clear}
use Rattle.pack_layout.specs.File.{file_count, filed, file_base, judged_file}
use Rattle.short_judging.specs.ShortFile.{short_count, short_base, short_listing}
use Rattle.short_judging.specs.Judging.{kept_count, judged_short}
use Rattle.short_judging.proofs.Parts.{file_count_lem, short_count_lem}
use Rattle.short_judging.proofs.Passing.{file_good, short_good}
use Rattle.short_files.specs.Converted.{converted_to, convert_if, no_room, judge_room, shortened, lengthened}
use Rattle.short_files.proofs.Lengths.{long_length, short_length}

-- a file that its input list refuses
pub room_refused : (input : Judged) (file : List ℕ) (size : ℕ) (r : Refusal) → input ≡ Err r → judge_room input file size ≡ Err r
room_refused input file size r e = rw e

-- one that it passes, where the other file has k bytes
module _ (input : Judged) (file : List ℕ) (k size : ℕ) (e : input ≡ passed) (l : length file ≡ k) where
  pub room_short : size < k → judge_room input file size ≡ Err ShortOutput
  room_short h = rw (e, lt-ltb size (length file) (omega arith))

  pub room_good : k ≤ size → judge_room input file size ≡ passed
  room_good h = rw (e, le-ltb size (length file) (omega arith))

-- what passing says
pub room_passed : (input : Judged) (file : List ℕ) (size : ℕ) → judge_room input file size ≡ passed → (input ≡ passed) × (length file ≤ size)
room_passed input file size e =
    let p = both_pass input (judge (no_room (length file) size ∷ [])) e in
    (p.0, ltb-false size (length file) (one_clear (ltb size (length file)) ShortOutput passed p.1).0)

-- the bytes of the other file
pub shortened_length : (s : List ℕ) → judged_file s ≡ passed → length (shortened s) ≡ 12 + file_count s + 4 * kept_count s
shortened_length s e =
    let k = file_count_lem s (omega (arith, (file_good s e).whole)) in
    short_length (filed s) (file_base s) ∙ rw k

pub lengthened_length : (s : List ℕ) → judged_short s ≡ passed → length (lengthened s) ≡ 8 + 5 * short_count s
lengthened_length s e =
    let k = short_count_lem s (omega (arith, (short_good s e).whole)) in
    long_length (short_listing s) (short_base s) ∙ rw k

-- an answer from a judgement
pub convert_refused : (j : Judged) (file out : List ℕ) (r : Refusal) → j ≡ Err r → converted_to out (Err r) ≡ convert_if j file out
convert_refused j file out r e = rw e

pub convert_passed : (j : Judged) (file out now : List ℕ) (k : ℕ) → j ≡ passed → now ≡ file ++ drop (length file) out → k ≡ length file
    → converted_to now (Ok k) ≡ convert_if j file out
convert_passed j file out now k e p q = rw (e, p, q)
