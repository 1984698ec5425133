-- One step of each pass, over plain numbers.
-- Assumes nothing.
use mathlib.Core.Path.{◌≡◌, refl, sym, ap, ◌∙◌}
use mathlib.Core.Bool.{Bool, true, false, not, ◌||◌}
use mathlib.Core.List.{List, [], ◌∷◌}
use Prim.Native.Nat.{ℕ, ◌+◌, ◌-◌, ◌*◌, ◌≤◌, ◌<◌}
use native.Mathlib.Omega.{arith}
use borrow.Author.Tests.{eq-eqb, ne_eqb, le-ltb}
use lib.Dec.{eqb}
use lib.ListN.{length, get_or}
use Rattle.std.specs.Prelude.{Ok, Err}
use Rattle.std.specs.Result.{result_and}
use Rattle.cell.specs.Choice.{if}
use Rattle.cell.specs.Refusals.{judge, after, Judged, passed}
use Rattle.cell.specs.declared.Refusal.TheVariants.{OperandCount}
use Rattle.cell.proofs.JudgementLaws.{after_after}
use Rattle.pack_layout.specs.declared.Class.{Class}
use Rattle.pack_layout.specs.File.{least_first, file_count, file_kinds, file_operands, filed, judged_length, judged_file}
use Rattle.pack_layout.specs.Grounds.{item_count}
use Rattle.pack_layout.specs.Kinds.{class_of}
use Rattle.pack_layout.specs.Listing.{Listing, judged, judged_from, judged_arrays, judged_listing}
use Rattle.pack_judging.proofs.Reading.{length_of}
use Rattle.pack_judging.proofs.Steps.{judged_step}
use Rattle.short_judging.specs.Operands.{has_operand, operands_before}
use Rattle.short_judging.specs.ShortFile.{short_count, operand_count, short_kind, short_operand, short_listing}
use Rattle.short_judging.specs.Judging.{other_count, judged_short}
use Rattle.short_judging.proofs.Parts.{file_kind, file_count_lem, file_operand, file_operands_lem, short_kind_lem, short_count_lem, short_operand_lem}

abbrev judged_at : Listing → ℕ → Judged
judged_at l i = judged (class_of (l.kind i)) l.count (l.operand i)

-- item i of a listing file, as the pass judges it
pub file_item : (s : List ℕ) (n i x : ℕ) (c : Class) (j : Judged) → n ≡ file_count s → 8 + n ≤ length s → i < n
    → c ≡ class_of (get_or s (8 + i) 0) → x ≡ least_first s (8 + n + 4 * i) → j ≡ judged c n x → j ≡ judged_at (filed s) i
file_item s n i x c j e h l p q r =
    r ∙ rw (p, q, e) (sym (rw (file_kind s i (omega arith), file_count_lem s (omega arith), file_operand s i (omega arith)) refl))

-- item i of a short file
pub short_item : (s : List ℕ) (n i k x : ℕ) (c : Class) (j : Judged) → n ≡ short_count s → 12 + n ≤ length s → i < n
    → c ≡ class_of (get_or s (12 + i) 0) → k ≡ operands_before (short_kind s) i
    → x ≡ if (has_operand c) (least_first s (12 + n + 4 * k)) 0 → j ≡ judged c n x → j ≡ judged_at (short_listing s) i
unfolding short_operand
short_item s n i k x c j e h l p o q r =
    r
    ∙ rw (q, p, o, e)
    (sym (rw (short_operand_lem s i (omega (arith, short_count_lem s (omega arith))), short_kind_lem s i (omega arith), short_count_lem s (omega arith)) refl))

-- the first refusal of two
pub and_after : (i j : Judged) → result_and i j ≡ after i j
and_after (Ok _) j = refl
and_after (Err r) j = refl

-- the first refusal of the items so far, and of one more
pub first_more : (l : Listing) (n i : ℕ) (first here : Judged) → i < n → here ≡ judged_at l i
    → after (after first here) (judged_from l (n - (i + 1)) (i + 1)) ≡ after first (judged_from l (n - i) i)
first_more l n i first here h e =
    after_after first here (judged_from l (n - (i + 1)) (i + 1))
    ∙ ap (after first) (ap (λ (j : Judged). after j (judged_from l (n - (i + 1)) (i + 1))) e ∙ sym (judged_step l n i h))

-- m against the operands that the kinds have, where the size is right
pub other_refused : (size n m k : ℕ) (j : Judged) → (m ≡ k → ⊥) → Err OperandCount ≡ after (judge (other_count size n m k ∷ [])) j
other_refused size n m k j h = rw (ne_eqb m k h) refl

pub same_passed : (size n m k : ℕ) (j : Judged) → m ≡ k → size ≡ 12 + n + 4 * m → after (judge (other_count size n m k ∷ [])) j ≡ j
same_passed size n m k j e l = rw (eq-eqb m k e, eq-eqb size (12 + n + 4 * m) l) refl

pub other_size : (size n m k : ℕ) (j : Judged) → (size ≡ 12 + n + 4 * m → ⊥) → Err OperandCount ≡ after (judge (other_count size n m k ∷ [])) j
other_size size n m k j h = go (eqb m k)
  where
    go : (b : Bool) → Err OperandCount ≡ after (if (not b || not (eqb size (12 + n + 4 * m))) (Err OperandCount) passed) j
    go true = rw (ne_eqb size (12 + n + 4 * m) h)
    go false = refl

-- a header that is whole, with a count that is taken
pub counts_reached : (s : List ℕ) → 12 ≤ length s → (short_count s ≡ 0 → ⊥) → short_count s ≤ 4096
    → judged_short s
    ≡ after (judge (other_count (length s) (short_count s) (operand_count s) (operands_before (short_kind s) (short_count s)) ∷ []))
    (judged_from (short_listing s) (short_count s) 0)
unfolding judged_short
counts_reached s a b c = rw (le-ltb (length s) 12 a, ne_eqb (short_count s) 0 b, le-ltb 4096 (short_count s) c)

-- a listing file of the right length: its count, then its items
pub file_counted : (s : List ℕ) → judged_length s ≡ passed
    → judged_file s ≡ after (judge (item_count (file_count s) ∷ [])) (judged_from (filed s) (file_count s) 0)
unfolding judged_file judged_arrays judged_listing
file_counted s e =
    let w = length_of s e in
    let k = file_count_lem s (omega arith) in
    rw (e, eq-eqb (length (file_kinds s)) (length (file_operands s)) (k ∙ sym (file_operands_lem s)), k)
