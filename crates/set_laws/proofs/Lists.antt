-- Facts about each module of a list and about each two, in another order and by number.
-- Assumes nothing.
use mathlib.Core.Path.{subst}
use mathlib.Core.List.{List, [], ◌∷◌, ◌++◌}
use Prim.Native.Nat.{ℕ, zero, suc, ◌+◌, ◌*◌, ◌≤◌, ◌<◌}
use native.Mathlib.Omega.{arith}
use lib.ListN.{length}
use Rattle.set_judging.specs.declared.Member.{Member}
use Rattle.set_judging.specs.Members.{members_of, member_at}
use Rattle.set_judging.proofs.MemberLaws.{Each, none, more, at_next, each_at}
use Rattle.permutations.specs.Permutations.{Permuted}
use Rattle.permutations.specs.Permutations as permutations

-- each two of a list, the earlier one first
pub data Pairwise (R : Member → Member → Type 0) : List Member → Type 0 where
  no_pair : Pairwise R []
  pairs : {x : Member} {xs : List Member} → Each (R x) xs → Pairwise R xs → Pairwise R (x ∷ xs)

pub each_map : (P Q : Member → Type 0) → ((x : Member) → P x → Q x) → (xs : List Member) → Each P xs → Each Q xs
each_map P Q f [] none = none
each_map P Q f (x ∷ xs) (more p s) = more (f x p) (each_map P Q f xs s)

pub pairwise_map : (R S : Member → Member → Type 0) → ((x y : Member) → R x y → S x y) → (xs : List Member) → Pairwise R xs → Pairwise S xs
pairwise_map R S f [] no_pair = no_pair
pairwise_map R S f (x ∷ xs) (pairs p s) = pairs (each_map (R x) (S x) (f x) xs p) (pairwise_map R S f xs s)

module _ (P : Member → Type 0) (x : Member) where
  -- one more, anywhere
  each_insert : (before behind : List Member) → P x → Each P (before ++ behind) → Each P (before ++ x ∷ behind)
  each_insert [] behind p s = more p s
  each_insert (u ∷ before) behind p (more q s) = more q (each_insert before behind p s)

pub each_first : (P : Member → Type 0) (before behind : List Member) → Each P (before ++ behind) → Each P before
each_first P [] behind s = none
each_first P (u ∷ before) behind (more q s) = more q (each_first P before behind s)

pub each_permuted : (P : Member → Type 0) (xs ys : List Member) → Permuted xs ys → Each P xs → Each P ys
each_permuted P xs ys permutations.none s = none
each_permuted P xs ys (permutations.taken x rest before behind q) (more p s) =
    each_insert P x before behind p (each_permuted P rest (before ++ behind) q s)

module _ (R : Member → Member → Type 0) (turned : (x y : Member) → R x y → R y x) where
  pairwise_insert : (x : Member) (before behind : List Member) → Each (R x) (before ++ behind) → Pairwise R (before ++ behind)
      → Pairwise R (before ++ x ∷ behind)
  pairwise_insert x [] behind r s = pairs r s
  pairwise_insert x (u ∷ before) behind (more r rs) (pairs q s) =
      pairs (each_insert (R u) x before behind (turned x u r) q) (pairwise_insert x before behind rs s)

  pub pairwise_permuted : (xs ys : List Member) → Permuted xs ys → Pairwise R xs → Pairwise R ys
  pairwise_permuted xs ys permutations.none s = no_pair
  pairwise_permuted xs ys (permutations.taken x rest before behind q) (pairs p s) =
      pairwise_insert x before behind (each_permuted (R x) rest (before ++ behind) q p) (pairwise_permuted rest (before ++ behind) q s)

-- by number
pub each_of : (P : Member → Type 0) (numbers : List ℕ) → ((k : ℕ) → 3 * k + 3 ≤ length numbers → P (member_at numbers k))
    → Each P (members_of numbers)
each_of P [] f = none
each_of P (a ∷ []) f = none
each_of P (a ∷ place ∷ []) f = none
each_of P (a ∷ place ∷ size ∷ rest) f =
    more (f 0 (omega arith))
    (each_of P rest (λ (k : ℕ) (h : 3 * k + 3 ≤ length rest). subst P (at_next a place size rest k) (f (suc k) (omega (arith, h)))))

module _ (R : Member → Member → Type 0) where
  pub pairwise_at : (numbers : List ℕ) → Pairwise R (members_of numbers) → (i j : ℕ) → i < j → 3 * j + 3 ≤ length numbers
      → R (member_at numbers i) (member_at numbers j)
  pairwise_at [] s i j h l = absurd (omega arith)
  pairwise_at (a ∷ []) s i j h l = absurd (omega arith)
  pairwise_at (a ∷ place ∷ []) s i j h l = absurd (omega arith)
  pairwise_at (a ∷ place ∷ size ∷ rest) s i zero h l = absurd (omega arith)
  pairwise_at (a ∷ place ∷ size ∷ rest) (pairs p s) zero (suc j) h l =
      rw (at_next a place size rest j) (each_at (R _) rest p j (omega arith))
  pairwise_at (a ∷ place ∷ size ∷ rest) (pairs p s) (suc i) (suc j) h l =
      rw (at_next a place size rest i, at_next a place size rest j) (pairwise_at rest s i j (omega arith) (omega arith))

  pub pairwise_of : (numbers : List ℕ)
      → ((i j : ℕ) → i < j → 3 * j + 3 ≤ length numbers → R (member_at numbers i) (member_at numbers j)) → Pairwise R (members_of numbers)
  pairwise_of [] f = no_pair
  pairwise_of (a ∷ []) f = no_pair
  pairwise_of (a ∷ place ∷ []) f = no_pair
  pairwise_of (a ∷ place ∷ size ∷ rest) f =
      pairs
      (each_of (R (member_at (a ∷ place ∷ size ∷ rest) 0)) rest
      (λ (k : ℕ) (h : 3 * k + 3 ≤ length rest).
      subst (R (member_at (a ∷ place ∷ size ∷ rest) 0)) (at_next a place size rest k) (f 0 (suc k) (omega arith) (omega (arith, h)))))
      (pairwise_of rest
      (λ (i j : ℕ) (h : i < j) (l : 3 * j + 3 ≤ length rest).
      rw (← at_next a place size rest i, ← at_next a place size rest j) (f (suc i) (suc j) (omega (arith, h)) (omega (arith, l)))))
