-- A short file that its input list passes is packed as the two arrays that it carries.
-- Assumes nothing.
use mathlib.Core.Path.{◌≡◌, refl, sym, ap, ◌∙◌}
use mathlib.Core.List.{List, [], ◌∷◌}
use Prim.Native.Nat.{ℕ, ◌+◌, ◌-◌, ◌*◌, ◌<◌}
use native.Mathlib.Numerals.{add-one}
use native.Mathlib.Omega.{arith}
use borrow.Author.Tests.{eq-eqb, ne_eqb, le-ltb}
use lib.ListN.{length, get_or, take, drop, set}
use lib.Seq.{take-suc-set}
use Rattle.std.specs.Prelude.{Err, Ok}
use Rattle.cell.specs.Choice.{if}
use Rattle.cell.specs.Refusals.{after, in_order, Judged, passed}
use Rattle.cell.specs.declared.Refusal.{Refusal}
use Rattle.cell.proofs.JudgementLaws.{both_pass}
use Rattle.pack_layout.specs.declared.Class.{Class}
use Rattle.pack_layout.specs.File.{least_first}
use Rattle.pack_layout.specs.Kinds.{class_of}
use Rattle.pack_layout.specs.Listing.{judged_from, judged_arrays, judged_listing}
use Rattle.pack_layout.specs.Packing.{image_cells, judged_place}
use Rattle.pack_refusals.specs.Judgement.{judge_order, judge_room, judge_pack}
use Rattle.packer.proofs.Answering.{handed_judged, handed_packed}
use Rattle.packer.specs.Pack.{PackResult, packed_to, pack_of}
use Rattle.short_judging.specs.Operands.{has_operand, operands_before, in_turn}
use Rattle.short_judging.specs.ShortFile.{short_count, short_base, short_kinds, short_kind, short_operand, short_operands, short_listing}
use Rattle.short_judging.specs.Judging.{judged_short}
use Rattle.short_judging.proofs.Parts.{short_kind_lem, short_count_lem, short_operands_lem}
use Rattle.short_judging.proofs.Passing.{short_good}
use Rattle.short_packing.specs.Packing.{judge_input, judge_pack_short, pack_short_of}

-- one operand more in front of an array
pub read_more : (s xs : List ℕ) (n i at x : ℕ) (c : Class) → n ≡ short_count s → i < n → i < length xs → c ≡ class_of (get_or s (12 + i) 0)
    → at ≡ 12 + n + 4 * operands_before (short_kind s) i → x ≡ if (has_operand c) (least_first s at) 0
    → take i xs ≡ in_turn (λ j. short_operand s j ∷ []) i → take (i + 1) (set xs i x) ≡ in_turn (λ j. short_operand s j ∷ []) (i + 1)
unfolding in_turn short_operand
read_more s xs n i at x c e h l q p r t =
    let b : x ≡ short_operand s i = r ∙ rw (q, p, e, short_kind_lem s i (omega arith)) refl in
    rw (add-one i) (take-suc-set xs i x l ∙ rw (t, b) refl)

-- the two arrays pass too
pub arrays_passed : (s : List ℕ) → judged_short s ≡ passed → judged_arrays (short_kinds s) (short_operands s) ≡ passed
unfolding judged_arrays judged_listing
arrays_passed s e =
    let g = short_good s e in
    let k = short_count_lem s (omega (arith, g.whole)) in
    let n = length (short_kinds s) in
    rw (eq-eqb n (length (short_operands s)) (sym (short_operands_lem s)), ne_eqb n 0 (λ z. g.some (sym k ∙ z)), le-ltb 4096 n (omega (arith, g.most)))
    (ap (λ (i : ℕ). judged_from (short_listing s) i 0) k ∙ g.items)

module _ (order : ℕ) (s : List ℕ) where
  pub input_refused : (r : Refusal) → judge_input order s ≡ Err r → (size : ℕ) → judge_pack_short order s size ≡ Err r
  unfolding judge_input judge_pack_short
  input_refused r e size = go (judge_order order) (judged_short s) e
    where
      rest : Judged
      rest = in_order (judged_place (short_base s) (image_cells (short_listing s)) ∷ judge_room (image_cells (short_listing s)) size ∷ [])

      go : (a b : Judged) → after a b ≡ Err r → after a (after b rest) ≡ Err r
      go (Err x) b q = q
      go (Ok _) (Err x) q = q
      go (Ok _) (Ok _) q = absurd (let z : ◌≡◌ {A = ℕ} 0 1 = cc in omega arith)

  pub input_good : judge_input order s ≡ passed → judged_short s ≡ passed
  unfolding judge_input
  input_good e = (both_pass (judge_order order) (judged_short s) e).1

  judged_same : judged_short s ≡ passed → (size : ℕ)
      → judge_pack order (short_kinds s) (short_operands s) (short_base s) size ≡ judge_pack_short order s size
  unfolding judge_pack_short judge_pack
  judged_same e size = rw (e, arrays_passed s e) refl

  packed_same : judged_short s ≡ passed → (out : List ℕ)
      → pack_of order (short_kinds s) (short_operands s) (short_base s) out ≡ pack_short_of order s out
  unfolding pack_of pack_short_of
  packed_same e out = rw (judged_same e (length out)) refl

  pub pack_refused : (out : List ℕ) (r : Refusal) → judge_input order s ≡ Err r → packed_to out (Err r) ≡ pack_short_of order s out
  unfolding pack_short_of
  pack_refused out r e = rw (input_refused r e (length out))

  -- the parts of the file that are handed on
  module _ (p : judged_short s ≡ passed) (n base : ℕ) (operands : List ℕ) (e : n ≡ short_count s) (b : base ≡ short_base s)
      (o : take (short_count s) operands ≡ short_operands s) where
    pub parts_judged : (size : ℕ) (j : Judged) → j ≡ judge_pack order (take (12 + n - 12) (drop 12 s)) (take (n - 0) operands) base size
        → j ≡ judge_pack_short order s size
    parts_judged size j q =
        q ∙ handed_judged order s 12 n (short_count s) base (short_base s) operands (short_operands s) e b o size ∙ judged_same p size

    pub parts_packed : (out : List ℕ) (a : PackResult)
        → a ≡ pack_of order (take (12 + n - 12) (drop 12 s)) (take (n - 0) operands) base out → a ≡ pack_short_of order s out
    parts_packed out a q =
        q ∙ handed_packed order s 12 n (short_count s) base (short_base s) operands (short_operands s) e b o out ∙ packed_same p out
