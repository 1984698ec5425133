-- Bytes among numbers, and cells among bytes.
-- Assumes nothing.
use mathlib.Core.Path.{◌≡◌, refl, ap, ◌∙◌}
use mathlib.Core.Bool.{Bool, true, false, ◌||◌}
use mathlib.Core.Logic.{inl, inr}
use mathlib.Core.List.{List, [], ◌∷◌}
use Prim.Native.Nat.{ℕ, ◌+◌, ◌*◌, ◌/◌, ◌≤◌, ◌<◌}
use native.Mathlib.Nat.{zero-add}
use native.Mathlib.Omega.{arith}
use borrow.Author.Tests.{eq-eqb}
use lib.Dec.{eqb}
use lib.ListN.{length, get_or, get_or-eq_default}
use Rattle.cell.specs.Memory.{cell_at}
use Rattle.pack_layout.specs.Kinds.{among}
use Rattle.pack_layout.specs.Reading.{cells_of}
use Rattle.pack_layout.proofs.Classes.{OneOf}
use Rattle.pack_layout.proofs.Reading.{each_length, each_at}

or_true : (b : Bool) → (b || true) ≡ true
or_true true = refl
or_true false = refl

pub some_of : (x k : ℕ) (ks : List ℕ) → OneOf x k ks → among x (k ∷ ks) ≡ true
some_of x k [] e = rw (eq-eqb x k e)
some_of x k (j ∷ js) (inl e) = rw (eq-eqb x k e)
some_of x k (j ∷ js) (inr e) = rw (some_of x j js e) (or_true (eqb x k))

pub cells_size : (order : ℕ) (s : List ℕ) → length (cells_of order s) ≡ length s / 4
unfolding cells_of
cells_size order s = each_length (λ j. cell_at order s (4 * j)) (length s / 4) 0

-- a whole cell of the bytes
pub cell_inside : (order : ℕ) (s : List ℕ) (j : ℕ) → 4 * j + 4 ≤ length s → get_or (cells_of order s) j 0 ≡ cell_at order s (4 * j)
unfolding cells_of
cell_inside order s j h =
    each_at (λ j. cell_at order s (4 * j)) (length s / 4) 0 j (omega arith) ∙ ap (λ (i : ℕ). cell_at order s (4 * i)) (zero-add j)

pub cell_behind : (order : ℕ) (s : List ℕ) (j : ℕ) → length s < 4 * j + 4 → get_or (cells_of order s) j 0 ≡ 0
cell_behind order s j h = get_or-eq_default (cells_of order s) 0 (omega (arith, cells_size order s))
