-- The judgement of a list of grounds: of two lists in a row.
use mathlib.Core.Path.{◌≡◌, refl, ap, ◌∙◌}
use mathlib.Core.Bool.{Bool, true, false}
use mathlib.Core.List.{List, [], ◌∷◌, ◌++◌}
use Prim.Native.Nat.{ℕ}
use Rattle.cell.specs.Choice.{if}
use Rattle.cell.specs.Refusals.{Judged, Ground, judge, after, judge_machine, memory_length, byte_order, unaligned}
use Rattle.cell.specs.declared.Refusal.{Refusal}
use Rattle.std.specs.Prelude.{Err}
use Rattle.module_judging.specs.Format.{count_of}
use Rattle.module_judging.specs.Grounds.{header, file_length, outside, short_output, judge_file, judge_place, judge_load, judge_save}

if_after : (t : Bool) (r : Refusal) (i j k : Judged) → k ≡ after i j → if t (Err r) k ≡ after (if t (Err r) i) j
if_after true r i j k e = refl
if_after false r i j k e = e

judge_append : (xs ys : List Ground) → judge (xs ++ ys) ≡ after (judge xs) (judge ys)
judge_append [] ys = refl
judge_append (x ∷ xs) ys = if_after x.applies x.refusal (judge xs) (judge ys) (judge (xs ++ ys)) (judge_append xs ys)

-- a load is judged by the machine, then the file, then the place
pub load_parts : (len order : ℕ) (file : List ℕ) (a : ℕ)
    → judge_load len order file a ≡ after (judge_machine len order) (after (judge_file file) (judge_place len a (count_of file)))
unfolding judge_load judge_machine judge_file judge_place
load_parts len order file a =
    judge_append
    (memory_length len ∷ byte_order order ∷ [])
    (header file ∷ file_length file ∷ unaligned a ∷ outside len a (count_of file) ∷ [])
    ∙ ap (after (judge (memory_length len ∷ byte_order order ∷ [])))
    (judge_append (header file ∷ file_length file ∷ []) (unaligned a ∷ outside len a (count_of file) ∷ []))

-- a save is judged by the machine, then the place, then the output
pub save_parts : (len order a l size : ℕ)
    → judge_save len order a l size
    ≡ after (judge_machine len order) (after (judge_place len a l) (judge (short_output size l ∷ [])))
unfolding judge_save judge_machine judge_place
save_parts len order a l size =
    judge_append
    (memory_length len ∷ byte_order order ∷ [])
    (unaligned a ∷ outside len a l ∷ short_output size l ∷ [])
    ∙ ap (after (judge (memory_length len ∷ byte_order order ∷ [])))
    (judge_append (unaligned a ∷ outside len a l ∷ []) (short_output size l ∷ []))
