-- The copy of a set, and its cells, in another order.
-- Assumes nothing.
use mathlib.Core.Path.{◌≡◌, refl, sym, ap, ◌∙◌}
use mathlib.Core.List.{List, [], ◌∷◌, ◌++◌}
use Prim.Native.Nat.{ℕ, ◌+◌, ◌≤◌}
use native.Mathlib.Omega.{arith}
use lib.ListN.{length}
use Rattle.set_judging.specs.declared.Member.{Member}
use Rattle.set_judging.specs.Members.{cells_of}
use Rattle.set_judging.specs.Sharing.{end_of}
use Rattle.set_judging.proofs.MemberLaws.{Each, more}
use Rattle.set_loading.specs.Sets.{copied_one, copied_set, cells_in}
use Rattle.set_loading.proofs.SetLaws.{one_length}
use Rattle.permutations.specs.Permutations.{Permuted}
use Rattle.permutations.specs.Permutations as permutations
use Rattle.set_laws.specs.Claims.{SharedByte}
use Rattle.set_laws.proofs.Lists.{Pairwise, pairs, each_first, each_permuted}
use Rattle.set_laws.proofs.Bytes.{copies_exchanged}

-- two modules that hold no byte in common
abbrev pub Apart : List ℕ → Member → Member → Type 0
Apart buffer x y = SharedByte buffer x y → ⊥

-- a module that ends inside a memory of len bytes
abbrev pub Room : ℕ → List ℕ → Member → Type 0
Room len buffer x = end_of buffer x ≤ len

module _ (order len : ℕ) (buffer : List ℕ) where
  -- a module may go in before others that hold none of its bytes
  copied_first : (x : Member) (before behind : List Member) (m : List ℕ) → length m ≡ len → Room len buffer x
      → Each (Room len buffer) before → Each (Apart buffer x) before
      → copied_set order buffer (before ++ x ∷ behind) m ≡ copied_set order buffer (before ++ behind) (copied_one order buffer x m)
  copied_first x [] behind m l r rs s = refl
  copied_first x (u ∷ before) behind m l r (more q rs) (more p s) =
      copied_first x before behind (copied_one order buffer u m) (one_length order buffer u m ∙ l) r rs s
      ∙ ap (copied_set order buffer (before ++ behind))
      (sym (copies_exchanged order buffer x u m p (rw l r) (rw l q)))

  pub copied_permuted : (xs ys : List Member) (m : List ℕ) → Permuted xs ys → length m ≡ len → Each (Room len buffer) xs
      → Pairwise (Apart buffer) xs → copied_set order buffer ys m ≡ copied_set order buffer xs m
  copied_permuted xs ys m permutations.none l rs s = refl
  copied_permuted xs ys m (permutations.taken x rest before behind q) l (more r rs) (pairs p s) =
      copied_first x before behind m l r
      (each_first (Room len buffer) before behind (each_permuted (Room len buffer) rest (before ++ behind) q rs))
      (each_first (Apart buffer x) before behind (each_permuted (Apart buffer x) rest (before ++ behind) q p))
      ∙ copied_permuted rest (before ++ behind) (copied_one order buffer x m) q (one_length order buffer x m ∙ l) rs s

cells_first : (buffer : List ℕ) (x : Member) (before behind : List Member)
    → cells_in buffer (before ++ x ∷ behind) ≡ cells_of buffer x + cells_in buffer (before ++ behind)
cells_first buffer x [] behind = refl
cells_first buffer x (u ∷ before) behind = let e = cells_first buffer x before behind in omega (arith, e)

pub cells_permuted : (buffer : List ℕ) (xs ys : List Member) → Permuted xs ys → cells_in buffer ys ≡ cells_in buffer xs
cells_permuted buffer xs ys permutations.none = refl
cells_permuted buffer xs ys (permutations.taken x rest before behind q) =
    cells_first buffer x before behind ∙ ap (λ (n : ℕ). cells_of buffer x + n) (cells_permuted buffer rest (before ++ behind) q)
