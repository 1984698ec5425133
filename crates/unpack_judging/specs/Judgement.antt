-- What refuses an unpacking by its numbers alone. Document 02, (h), and document 01, Turned back for the state: -4102, -4104 and -4110 first, the room of
-- outputs last. The image's bytes are counted as they are.
use Rattle.std.specs.Prelude.{◌||◌, [], ◌∷◌, ℕ, ◌+◌, ltb}
use Rattle.cell.specs.Refusals.{Ground, judge, after, unaligned, Judged}
use Rattle.cell.specs.declared.Refusal.TheVariants.{Base, ShortOutput}
use Rattle.pack_refusals.specs.Judgement.{judge_order}

-- -4110: an image of size bytes begins among the first four cells, or ends past 16,777,216
abbrev pub bytes_out_of_place : ℕ → ℕ → Ground
bytes_out_of_place base size = record { applies = ltb base 0x10 || ltb 16777216 (base + size); refusal = Base }

-- -4102, -4104, -4110
unfoldable pub judge_place : ℕ → ℕ → ℕ → Judged
judge_place order base size = after (judge_order order) (judge (unaligned base ∷ bytes_out_of_place base size ∷ []))

-- -4105: one of two arrays, of lengths k and x, is too short for n items
abbrev pub short_arrays : ℕ → ℕ → ℕ → Ground
short_arrays n k x = record { applies = ltb k n || ltb x n; refusal = ShortOutput }

unfoldable pub judge_arrays : ℕ → ℕ → ℕ → Judged
judge_arrays n k x = judge (short_arrays n k x ∷ [])
