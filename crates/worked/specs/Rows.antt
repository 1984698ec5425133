-- A row is a list of claims, each a test that computes.
use Rattle.std.specs.Prelude.{Bool, true, false, ◌&&◌, List, [], ◌∷◌, ℕ, eqb}

-- two numbers, or two lists, are the same
pub data Claim : Type 0 where
  numbers : ℕ → ℕ → Claim
  lists : List ℕ → List ℕ → Claim

abbrev pub Row : Type 0
Row = List Claim

abbrev pub same : List ℕ → List ℕ → Bool
same [] [] = true
same [] (y ∷ ys) = false
same (x ∷ xs) [] = false
same (x ∷ xs) (y ∷ ys) = eqb x y && same xs ys

abbrev pub holds : Claim → Bool
holds (numbers x y) = eqb x y
holds (lists xs ys) = same xs ys

abbrev pub row_holds : Row → Bool
row_holds [] = true
row_holds (c ∷ cs) = holds c && row_holds cs

unfoldable pub table_holds : List Row → Bool
table_holds [] = true
table_holds (r ∷ rs) = row_holds r && table_holds rs
