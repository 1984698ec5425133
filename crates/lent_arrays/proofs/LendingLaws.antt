-- Room in lent arrays.
use mathlib.Core.Path.{◌≡◌}
use mathlib.Core.List.{List, [], ◌∷◌}
use Prim.Native.Nat.{ℕ, ◌+◌, ◌≤◌}
use borrow.Author.Tests.{ltb-false, le-ltb}
use native.Mathlib.Omega.{arith}
use lib.Dec.{ltb}
use lib.ListN.{length, length-append, length-drop}
use Rattle.cell.specs.Refusals.{Judged, passed, judge}
use Rattle.cell.specs.declared.Refusal.TheVariants.{ShortOutput}
use Rattle.cell.proofs.JudgementLaws.{both_pass, one_clear}
use Rattle.lent_arrays.specs.Lending.{written, areas_at, areas_in, short_array, with_room}

pub record Roomy (j : Judged) (size needed : ℕ) : Type 0 where
  pub passed : j ≡ passed
  pub room : needed ≤ size

pub roomy : (j : Judged) (size needed : ℕ) → with_room j size needed ≡ passed → Roomy j size needed
roomy j size needed e =
    let p = both_pass j (judge (short_array size needed ∷ [])) e in
    record { passed = p.0; room = ltb-false size needed (one_clear (ltb size needed) ShortOutput passed p.1).0 }

-- an array keeps its length where there is room for what is written
pub written_length : (xs lent : List ℕ) → length xs ≤ length lent → length (written xs lent) ≡ length lent
written_length xs lent h = simp (length-append, length-drop) (omega (arith, h))

-- an array that is long enough gives its areas to be judged
pub areas_there : (i : ℕ) (lent : List ℕ) → i + 4 ≤ length lent → areas_in i lent ≡ areas_at i lent
areas_there i lent h = rw (le-ltb (length lent) (i + 4) h)
