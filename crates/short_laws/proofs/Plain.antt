-- -4108 has no place in the input list of a short file.
-- Assumes nothing.
use mathlib.Core.Path.{◌≡◌, refl, ap, ◌∙◌}
use mathlib.Core.Bool.{Bool, true, false}
use mathlib.Core.List.{List}
use Prim.Native.Nat.{ℕ, zero, suc, ◌<◌}
use native.Mathlib.Decide.{dec_lt}
use native.Mathlib.Omega.{arith}
use lib.Dec.{leb}
use lib.ListN.{length, get_or-eq_default}
use Rattle.std.specs.Prelude.{Err, Ok}
use Rattle.cell.specs.Choice.{if}
use Rattle.cell.specs.Refusals.{refusal_number, after, Judged, passed}
use Rattle.cell.specs.declared.Refusal.TheVariants as refusal
use Rattle.pack_layout.specs.declared.Class.{Class}
use Rattle.pack_layout.specs.declared.Class.TheVariants as class
use Rattle.pack_layout.specs.Grounds.{item_count}
use Rattle.pack_layout.specs.Kinds.{class_of}
use Rattle.pack_layout.specs.Listing.{judged, judged_from}
use Rattle.short_judging.specs.Operands.{has_operand, operands_before}
use Rattle.short_judging.specs.ShortFile.{short_count, operand_count, short_kinds, short_kind, short_operand, short_operands, short_listing}
use Rattle.short_judging.specs.Judging.{cut_header, other_count, judged_counts, judged_short}
use Rattle.short_judging.proofs.Parts.{short_operand_lem, short_operands_lem}
use Rattle.short_laws.specs.Claims.{NoPlainOperand}

-- the refusal's number, or 0
abbrev number_of : Judged → ℕ
number_of (Ok _) = 0
number_of (Err r) = refusal_number r

-- a judgement is not -4108
abbrev Other : Judged → Type 0
Other j = j ≡ Err refusal.PlainOperand → ⊥

other_number : (j : Judged) → (number_of j ≡ refusal_number refusal.PlainOperand → ⊥) → Other j
other_number j h e = h (ap number_of e)

after_other : (a b : Judged) → Other a → Other b → Other (after a b)
after_other (Ok _) b p q = q
after_other (Err r) b p q = p

-- an item whose operand is 0 where the short file has none for it
item_other : (c : Class) (n x : ℕ) → (has_operand c ≡ false → x ≡ 0) → Other (judged c n x)
item_other class.Plain n x h = rw (h refl) (other_number passed (λ e. omega arith))
item_other class.Literal n x h = other_number passed (λ e. omega arith)
item_other class.Branch n x h = go (leb n x)
  where
    go : (b : Bool) → Other (if b (Err refusal.Target) passed)
    go true = other_number (Err refusal.Target) (λ e. omega arith)
    go false = other_number passed (λ e. omega arith)
item_other class.NoKind n x h = other_number (Err refusal.Kind) (λ e. omega arith)

module _ (s : List ℕ) where
  no_operand : (i : ℕ) → has_operand (class_of (short_kind s i)) ≡ false → (short_listing s).operand i ≡ 0
  unfolding short_operand
  no_operand i e = go (dec_lt i (length (short_kinds s)))
    where
      go : Dec (i < length (short_kinds s)) → (short_listing s).operand i ≡ 0
      go (yes h) = short_operand_lem s i h ∙ rw e refl
      go (no h) = get_or-eq_default (short_operands s) 0 (omega (arith, short_operands_lem s))

  items_other : (k i : ℕ) → Other (judged_from (short_listing s) k i)
  unfolding judged_from
  items_other zero i = other_number passed (λ e. omega arith)
  items_other (suc k) i =
      after_other (judged (class_of (short_kind s i)) (length (short_kinds s)) ((short_listing s).operand i)) (judged_from (short_listing s) k (suc i))
      (item_other (class_of (short_kind s i)) (length (short_kinds s)) ((short_listing s).operand i) (no_operand i))
      (items_other k (suc i))

  counts_other : Other (judged_counts s)
  counts_other = go (cut_header (length s)).applies (item_count (short_count s)).applies (other_count (length s) (short_count s) (operand_count s) (operands_before (short_kind s) (short_count s))).applies
    where
      go : (a b c : Bool) → Other (if a (Err refusal.OperandCount) (if b (Err refusal.ItemCount) (if c (Err refusal.OperandCount) passed)))
      go true b c = other_number (Err refusal.OperandCount) (λ e. omega arith)
      go false true c = other_number (Err refusal.ItemCount) (λ e. omega arith)
      go false false true = other_number (Err refusal.OperandCount) (λ e. omega arith)
      go false false false = other_number passed (λ e. omega arith)

pub no_plain_operand : NoPlainOperand
unfolding judged_short
no_plain_operand s = after_other (judged_counts s) (judged_from (short_listing s) (short_count s) 0) (counts_other s) (items_other s (short_count s) 0)
