-- What its class tells of a kind: a literal is 52h, a branch one of the five.
-- Assumes nothing.
use mathlib.Core.Path.{◌≡◌, refl}
use mathlib.Core.Bool.{Bool, true, false, ◌||◌, false≢true}
use mathlib.Core.Logic.{◌⊎◌, inl, inr}
use mathlib.Core.List.{List, [], ◌∷◌}
use Prim.{Unit}
use Prim.Native.Nat.{ℕ}
use borrow.Author.Tests.{eqb-true}
use lib.Dec.{eqb}
use Rattle.cell.specs.Choice.{if}
use Rattle.cell.proofs.BooleanLaws.{either_true}
use Rattle.pack_layout.specs.Kinds.{class_of, among, branches, outside, immediates, raising, plain, literal, branch, no_kind}

picked_literal : (a b c : Bool) → if a literal (if b branch (if c no_kind plain)) ≡ literal → a ≡ true
picked_literal true b c e = refl
picked_literal false true c e = cc
picked_literal false false true e = cc
picked_literal false false false e = cc

picked_branch : (a b c : Bool) → if a literal (if b branch (if c no_kind plain)) ≡ branch → b ≡ true
picked_branch true b c e = cc
picked_branch false true c e = refl
picked_branch false false true e = cc
picked_branch false false false e = cc

pub literal_is : (k : ℕ) → class_of k ≡ literal → k ≡ 0x52
unfolding class_of
literal_is k e =
    eqb-true k 0x52 (picked_literal (eqb k 0x52) (among k branches) (outside k || among k immediates || among k raising) e)

pub branch_among : (k : ℕ) → class_of k ≡ branch → among k branches ≡ true
unfolding class_of
branch_among k e = picked_branch (eqb k 0x52) (among k branches) (outside k || among k immediates || among k raising) e

-- what holds of each number of a list holds of one among them
abbrev pub AllOf : (ℕ → Type 0) → List ℕ → Type 0
AllOf P [] = Unit {0}
AllOf P (k ∷ ks) = P k × AllOf P ks

pub one_among : (P : ℕ → Type 0) (ks : List ℕ) → AllOf P ks → (k : ℕ) → among k ks ≡ true → P k
one_among P [] h k e = absurd (false≢true e)
one_among P (j ∷ js) h k e = go (either_true (eqb k j) (among k js) e) (λ q. one_among P js h.1 k q)
  where
    go : (eqb k j ≡ true) ⊎ (among k js ≡ true) → (among k js ≡ true → P k) → P k
    go (inl q) f = rw (eqb-true k j q) h.0
    go (inr q) f = f q
