-- A list in another order: as long, and as before in the order that it has.
-- Assumes nothing.
use mathlib.Core.Path.{◌≡◌, refl, ap}
use mathlib.Core.List.{List, [], ◌∷◌, ◌++◌, map}
use native.Mathlib.Omega.{arith}
use lib.ListN.{length, length-append}
use Rattle.permutations.specs.Permutations.{Permuted, none, taken}

-- as many in one order as in another
pub length_permuted : {A : Type 0} (xs ys : List A) → Permuted xs ys → length ys ≡ length xs
length_permuted xs ys none = refl
length_permuted xs ys (taken x rest before behind q) =
    let e = length_permuted rest (before ++ behind) q in
    let f = length-append before behind in
    let g = length-append before (x ∷ behind) in
    omega (arith, e, f, g)

-- a list is one of its orders
pub permuted_refl : {A : Type 0} (xs : List A) → Permuted xs xs
permuted_refl [] = none
permuted_refl (x ∷ xs) = taken x xs [] xs (permuted_refl xs)

-- what is made of each, in the same order as the elements
pub map_append : {A B : Type 0} (f : A → B) (xs ys : List A) → map f (xs ++ ys) ≡ map f xs ++ map f ys
map_append f [] ys = refl
map_append f (x ∷ xs) ys = ap (λ rest. f x ∷ rest) (map_append f xs ys)

pub permuted_map : {A B : Type 0} (f : A → B) (xs ys : List A) → Permuted xs ys → Permuted (map f xs) (map f ys)
permuted_map f xs ys none = none
permuted_map f xs ys (taken x rest before behind q) =
    rw (map_append f before (x ∷ behind))
    (taken (f x) (map f rest) (map f before) (map f behind) (rw (map_append f before behind) at (permuted_map f rest (before ++ behind) q)))
