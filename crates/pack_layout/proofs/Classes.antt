-- The class of a byte that is one of a list of numbers, or none of them.
-- Assumes nothing.
use mathlib.Core.Path.{◌≡◌, sym, ap, ◌∙◌}
use mathlib.Core.Bool.{false}
use mathlib.Core.Logic.{◌⊎◌, inl, inr}
use mathlib.Core.List.{List, [], ◌∷◌}
use Prim.Native.Nat.{ℕ, ◌≤◌, ◌<◌}
use native.Mathlib.Decide.{dec_lt}
use native.Mathlib.Omega.{arith}
use borrow.Author.Tests.{ne_eqb, le-leb, lt-leb}
use Rattle.pack_layout.specs.declared.Class.{Class}
use Rattle.pack_layout.specs.Kinds.{class_of, among, branches, immediates, plain, no_kind}

-- x is the number k or one of ks
abbrev pub OneOf : ℕ → ℕ → List ℕ → Type 0
OneOf x k [] = x ≡ k
OneOf x k (j ∷ js) = (x ≡ k) ⊎ OneOf x j js

abbrev pub Each : Class → ℕ → List ℕ → Type 0
Each c k [] = c ≡ class_of k
Each c k (j ∷ js) = (c ≡ class_of k) × Each c j js

pub one_of : (c : Class) (x k : ℕ) (ks : List ℕ) → Each c k ks → OneOf x k ks → c ≡ class_of x
one_of c x k [] h e = h ∙ ap class_of (sym e)
one_of c x k (j ∷ js) h (inl e) = h.0 ∙ ap class_of (sym e)
one_of c x k (j ∷ js) h (inr e) = one_of c x j js h.1 e

pub none_of : (x k : ℕ) (ks : List ℕ) → (OneOf x k ks → ⊥) → among x (k ∷ ks) ≡ false
none_of x k [] h = rw (ne_eqb x k h)
none_of x k (j ∷ js) h = rw (ne_eqb x k (λ e. h (inl e))) (none_of x j js (λ e. h (inr e)))

past_table : (k : ℕ) → 0x5C ≤ k → class_of k ≡ no_kind
unfolding class_of
past_table k h =
    simp (
      ne_eqb k 0x52 (λ (e : k ≡ 0x52). omega arith),
      ne_eqb k 0x42 (λ (e : k ≡ 0x42). omega arith),
      ne_eqb k 0x44 (λ (e : k ≡ 0x44). omega arith),
      ne_eqb k 0x48 (λ (e : k ≡ 0x48). omega arith),
      ne_eqb k 0x4C (λ (e : k ≡ 0x4C). omega arith),
      ne_eqb k 0x4E (λ (e : k ≡ 0x4E). omega arith),
      ne_eqb k 0 (λ (e : k ≡ 0). omega arith),
      le-leb 0x5C k h,
    )

-- 58h and above are no kinds
pub high_is_none : (k : ℕ) → 0x58 ≤ k → no_kind ≡ class_of k
unfolding class_of
high_is_none k h = go (dec_lt k 0x59) (dec_lt k 0x5A) (dec_lt k 0x5B) (dec_lt k 0x5C)
  where
    go : Dec (k < 0x59) → Dec (k < 0x5A) → Dec (k < 0x5B) → Dec (k < 0x5C) → no_kind ≡ class_of k
    go (yes a) b c d = ap class_of (let e : 0x58 ≡ k = omega arith in e)
    go (no a) (yes b) c d = ap class_of (let e : 0x59 ≡ k = omega arith in e)
    go (no a) (no b) (yes c) d = ap class_of (let e : 0x5A ≡ k = omega arith in e)
    go (no a) (no b) (no c) (yes d) = ap class_of (let e : 0x5B ≡ k = omega arith in e)
    go (no a) (no b) (no c) (no d) = sym (past_table k (omega arith))

-- every other number is a plain kind
pub else_plain : (k : ℕ) → k < 0x58 → (k ≡ 0x52 → ⊥) → among k branches ≡ false → among k immediates ≡ false
    → ((k ≡ 0) ⊎ (k ≡ 0x56) → ⊥) → plain ≡ class_of k
unfolding class_of
else_plain k h a b c d =
    simp (
      ne_eqb k 0x52 a,
      b,
      c,
      ne_eqb k 0 (λ e. d (inl e)),
      ne_eqb k 0x56 (λ e. d (inr e)),
      lt-leb 0x5C k (omega arith),
      ne_eqb k 0x58 (λ (e : k ≡ 0x58). omega arith),
      ne_eqb k 0x59 (λ (e : k ≡ 0x59). omega arith),
      ne_eqb k 0x5A (λ (e : k ≡ 0x5A). omega arith),
      ne_eqb k 0x5B (λ (e : k ≡ 0x5B). omega arith),
    )
