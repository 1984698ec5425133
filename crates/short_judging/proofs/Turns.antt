-- Items in turn: one element each, and the operands that they have.
-- Assumes nothing.
use mathlib.Core.Path.{◌≡◌, refl, ◌∙◌}
use mathlib.Core.Bool.{Bool, true, false}
use mathlib.Core.List.{List, [], ◌∷◌}
use mathlib.Core.Logic.{⊎_elim}
use Prim.Native.Nat.{ℕ, zero, suc, ◌+◌, ◌-◌, ◌≤◌, ◌<◌}
use native.Mathlib.Nat.{eq-or-lt_of_le, le_of_suc-le-suc}
use native.Mathlib.Numerals.{add-one}
use native.Mathlib.Omega.{arith}
use lib.ListN.{length, get_or, length-append, get_or-append}
use lib.Seq.{get_or_at}
use Rattle.pack_layout.specs.declared.Class.{Class}
use Rattle.pack_layout.specs.Flags.{bit}
use Rattle.pack_layout.specs.Kinds.{class_of}
use Rattle.short_judging.specs.Operands.{has_operand, operands_before, in_turn}

module _ (f : ℕ → ℕ) where
  abbrev singles : ℕ → List ℕ
  singles n = in_turn (λ i. f i ∷ []) n

  pub singles_length : (n : ℕ) → length (singles n) ≡ n
  unfolding in_turn
  singles_length zero = refl
  singles_length (suc n) = length-append (singles n) (f n ∷ []) ∙ omega (arith, singles_length n)

  pub singles_at : (n i : ℕ) → i < n → get_or (singles n) i 0 ≡ f i
  unfolding in_turn
  singles_at zero i h = absurd (omega arith)
  singles_at (suc n) i h =
      ⊎_elim
      (λ (e : i ≡ n). rw e (get_or_at (singles n) (f n) [] 0 n (singles_length n)))
      (λ (l : i < n). get_or-append (singles n) (f n ∷ []) 0 i (omega (arith, singles_length n)) ∙ singles_at n i l)
      (eq-or-lt_of_le (le_of_suc-le-suc h))

pub bit_most : (b : Bool) → bit b ≤ 1
bit_most true = omega arith
bit_most false = omega arith

module _ (kind : ℕ → ℕ) where
  -- one item more, of class c
  pub operands_more : (i k b : ℕ) (c : Class) → c ≡ class_of (kind i) → k ≡ operands_before kind i → b ≡ bit (has_operand c)
      → k + b ≡ operands_before kind (i + 1)
  unfolding operands_before
  operands_more i k b c e p q = rw (p, q, e, add-one i)

  pub operands_most : (i : ℕ) → operands_before kind i ≤ i
  unfolding operands_before
  operands_most zero = omega arith
  operands_most (suc i) = omega (arith, operands_most i, bit_most (has_operand (class_of (kind i))))

  operands_add : (i k : ℕ) → operands_before kind i ≤ operands_before kind (k + i)
  unfolding operands_before
  operands_add i zero = let e : 0 + i ≡ i = omega arith in rw e (omega arith)
  operands_add i (suc k) =
      let e : suc k + i ≡ suc (k + i) = omega arith in
      rw e (omega (arith, operands_add i k))

  pub operands_grow : (i n : ℕ) → i ≤ n → operands_before kind i ≤ operands_before kind n
  operands_grow i n h =
      let e : n - i + i ≡ n = omega arith in
      rw e at (operands_add i (n - i))

  -- an item's operand is among those of the first n items
  pub operands_room : (i n : ℕ) (c : Class) → i < n → c ≡ class_of (kind i) → operands_before kind i + bit (has_operand c) ≤ operands_before kind n
  operands_room i n c h e =
      omega (arith, operands_more i (operands_before kind i) (bit (has_operand c)) c e refl refl, operands_grow (i + 1) n (omega arith))
