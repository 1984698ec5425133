-- What passing says of a file.
-- Assumes nothing.
use mathlib.Core.Path.{◌≡◌, refl, sym, ap, ◌∙◌}
use mathlib.Core.Bool.{not}
use mathlib.Core.List.{List, [], ◌∷◌}
use Prim.Native.Nat.{ℕ, ◌+◌, ◌*◌, ◌≤◌}
use native.Mathlib.Omega.{arith}
use borrow.Author.Tests.{eqb-true, eqb-false, eq-eqb, ne_eqb, ltb-false, le-ltb, not-false}
use lib.Dec.{ltb, eqb}
use lib.ListN.{length}
use Rattle.std.specs.Prelude.{Err, Ok}
use Rattle.cell.specs.Refusals.{judge, after, Judged, passed}
use Rattle.cell.specs.declared.Refusal.{Refusal}
use Rattle.cell.specs.declared.Refusal.TheVariants.{ItemCount, OperandCount}
use Rattle.cell.proofs.BooleanLaws.{neither}
use Rattle.cell.proofs.JudgementLaws.{both_pass, one_clear}
use Rattle.pack_layout.specs.File.{file_count, file_kinds, file_operands, filed, judged_length, judged_file}
use Rattle.pack_layout.specs.Grounds.{item_count}
use Rattle.pack_layout.specs.Listing.{judged_from, judged_arrays}
use Rattle.pack_judging.proofs.Reading.{length_of}
use Rattle.short_judging.specs.Operands.{operands_before}
use Rattle.short_judging.specs.ShortFile.{short_count, operand_count, short_kind, short_listing}
use Rattle.short_judging.specs.Judging.{judged_short, keeping, kept_count, counted_file, other_count, Counted}
use Rattle.short_judging.proofs.Passes.{file_counted, counts_reached, same_passed}

-- what the count of operands says of the judgement, and of the number
abbrev to_judged : Counted → Judged
to_judged (Err r) = Err r
to_judged (Ok m) = passed

abbrev count_or : ℕ → Counted → ℕ
count_or d (Err r) = d
count_or d (Ok m) = m

keeping_judged : (j : Judged) (m : ℕ) (c : Counted) → keeping j m ≡ c → j ≡ to_judged c
keeping_judged (Err r) m c e = ap to_judged e
keeping_judged (Ok _) m c e = ap to_judged e

keeping_count : (j : Judged) (m k : ℕ) → keeping j m ≡ Ok k → m ≡ k
keeping_count (Err r) m k e = ap (count_or m) e
keeping_count (Ok _) m k e = ap (count_or m) e

module _ (s : List ℕ) (c : Counted) (e : c ≡ counted_file s) where
  pub counted_refused : (r : Refusal) → c ≡ Err r → judged_file s ≡ Err r
  unfolding counted_file
  counted_refused r q = keeping_judged (judged_file s) (kept_count s) (Err r) (sym e ∙ q)

  pub counted_passed : (m : ℕ) → c ≡ Ok m → (judged_file s ≡ passed) × (kept_count s ≡ m)
  unfolding counted_file
  counted_passed m q =
      (keeping_judged (judged_file s) (kept_count s) (Ok m) (sym e ∙ q), keeping_count (judged_file s) (kept_count s) m (sym e ∙ q))

-- a count of items that is taken
count_good : (n : ℕ) (j : Judged) → after (judge (item_count n ∷ [])) j ≡ passed → (n ≡ 0 → ⊥) × (n ≤ 4096) × (j ≡ passed)
count_good n j e =
    let p = both_pass (judge (item_count n ∷ [])) j e in
    let q = neither (eqb n 0) (ltb 4096 n) (one_clear (item_count n).applies ItemCount passed p.0).0 in
    (eqb-false n 0 q.0, ltb-false 4096 n q.1, p.1)

-- a listing file that its input list does not refuse
pub record GoodFile (s : List ℕ) : Type 0 where
  pub whole : length s ≡ 8 + 5 * file_count s
  pub some : file_count s ≡ 0 → ⊥
  pub most : file_count s ≤ 4096
  pub items : judged_from (filed s) (file_count s) 0 ≡ passed

pub file_good : (s : List ℕ) → judged_file s ≡ passed → GoodFile s
unfolding judged_file
file_good s e =
    let l = (both_pass (judged_length s) (judged_arrays (file_kinds s) (file_operands s)) e).0 in
    let p = count_good (file_count s) _ (sym (file_counted s l) ∙ e) in
    record { whole = length_of s l; some = p.0; most = p.1; items = p.2 }

pub good_file : (s : List ℕ) → GoodFile s → judged_file s ≡ passed
good_file s g =
    let n = file_count s in
    let l : judged_length s ≡ passed = rw (le-ltb (length s) 8 (omega (arith, g.whole)), eq-eqb (length s) (8 + 5 * n) g.whole) refl in
    file_counted s l ∙ rw (ne_eqb n 0 g.some, le-ltb 4096 n g.most) g.items

-- and a short file
pub record GoodShort (s : List ℕ) : Type 0 where
  pub whole : length s ≡ 12 + short_count s + 4 * operand_count s
  pub operands : operand_count s ≡ operands_before (short_kind s) (short_count s)
  pub some : short_count s ≡ 0 → ⊥
  pub most : short_count s ≤ 4096
  pub items : judged_from (short_listing s) (short_count s) 0 ≡ passed

pub short_good : (s : List ℕ) → judged_short s ≡ passed → GoodShort s
unfolding judged_short
short_good s e =
    let n = short_count s in
    let m = operand_count s in
    let k = operands_before (short_kind s) n in
    let p = both_pass _ (judged_from (short_listing s) n 0) e in
    let q = one_clear (ltb (length s) 12) OperandCount _ p.0 in
    let r = one_clear (item_count n).applies ItemCount _ q.1 in
    let t = neither (eqb n 0) (ltb 4096 n) r.0 in
    let u = neither (not (eqb m k)) (not (eqb (length s) (12 + n + 4 * m)))
    (one_clear (other_count (length s) n m k).applies OperandCount passed r.1).0 in
    record {
      whole = eqb-true (length s) (12 + n + 4 * m) (not-false (eqb (length s) (12 + n + 4 * m)) u.1);
      operands = eqb-true m k (not-false (eqb m k) u.0);
      some = eqb-false n 0 t.0;
      most = ltb-false 4096 n t.1;
      items = p.1;
    }

pub good_short : (s : List ℕ) → GoodShort s → judged_short s ≡ passed
good_short s g =
    let n = short_count s in
    let m = operand_count s in
    let k = operands_before (short_kind s) n in
    counts_reached s (omega (arith, g.whole)) g.some g.most ∙ same_passed (length s) n m k _ g.operands g.whole ∙ g.items
