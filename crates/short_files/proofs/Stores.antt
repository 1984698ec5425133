-- Stores in a row.
-- Assumes nothing.
use mathlib.Core.Path.{◌≡◌, refl, ap, ◌∙◌}
use mathlib.Core.Bool.{Bool, true, false}
use mathlib.Core.List.{List, [], ◌∷◌, ◌++◌}
use Prim.Native.Nat.{ℕ, suc, ◌+◌, ◌<◌}
use native.Mathlib.Omega.{arith}
use lib.ListN.{length, set}
use lib.Seq.{sets, set_comm}
use Rattle.cell.specs.Choice.{if}
use Rattle.cell.specs.Memory.{cell_bytes, store_cell}
use Rattle.cell.proofs.StoreLaws.{store_sets}

-- one row behind another is one row
pub sets_append : (l : List ℕ) (i : ℕ) (vs ws : List ℕ) → sets l i (vs ++ ws) ≡ sets (sets l i vs) (i + length vs) ws
sets_append l i [] ws = ap (λ (k : ℕ). sets l k ws) (let e : i ≡ i + 0 = omega arith in e)
sets_append l i (v ∷ vs) ws =
    sets_append (set l i v) (suc i) vs ws
    ∙ ap (λ (k : ℕ). sets (sets (set l i v) (suc i) vs) k ws) (let e : suc i + length vs ≡ i + suc (length vs) = omega arith in e)

-- a store in front of a row may come before it
pub set_before : (l : List ℕ) (i : ℕ) (vs : List ℕ) (j a : ℕ) → j < i → set (sets l i vs) j a ≡ sets (set l j a) i vs
set_before l i [] j a h = refl
set_before l i (v ∷ vs) j a h =
    set_before (set l i v) (suc i) vs j a (omega arith)
    ∙ ap (λ (m : List ℕ). sets m (suc i) vs) (set_comm l i j v a (λ (e : i ≡ j). omega arith))

-- a number that is stored or left out
pub kept_sets : (b : Bool) (l : List ℕ) (i x : ℕ) → if b (store_cell 0 l i x) l ≡ sets l i (if b (cell_bytes 0 x) [])
kept_sets true l i x = store_sets 0 l i x
kept_sets false l i x = refl
