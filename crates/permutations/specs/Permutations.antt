-- A list in another order.
use Rattle.std.specs.Prelude.{List, [], ◌∷◌, ◌++◌}

-- the elements of the first list, one after another, are found in the second and taken out of it, each wherever it stands; nothing is left over
pub data Permuted {A : Type 0} : List A → List A → Type 0 where
  none : Permuted [] []
  taken : (x : A) (xs before behind : List A) → Permuted xs (before ++ behind) → Permuted (x ∷ xs) (before ++ x ∷ behind)
