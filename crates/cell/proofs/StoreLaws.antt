-- A store as the bytes of its cell, set in a row.
use Rattle.std.proofs.Common.{◌≡◌, ℕ, zero, suc, List, [], ◌∷◌, length, refl, add-one}
use native.Mathlib.Numerals.{add-two, add-three}
use lib.Seq.{sets}
use Rattle.cell.specs.Memory.{byte0, byte1, byte2, byte3, cell_bytes, put, store_cell}

four_sets : (l : List ℕ) (i a b c d : ℕ) → put l i a b c d ≡ sets l i (a ∷ b ∷ c ∷ d ∷ [])
four_sets l i a b c d = simp (add-one, add-two, add-three)

pub store_sets : (order : ℕ) (l : List ℕ) (i x : ℕ) → store_cell order l i x ≡ sets l i (cell_bytes order x)
unfolding store_cell
store_sets zero l i x = four_sets l i (byte0 x) (byte1 x) (byte2 x) (byte3 x)
store_sets (suc order) l i x = four_sets l i (byte3 x) (byte2 x) (byte1 x) (byte0 x)

pub cell_length : (order x : ℕ) → length (cell_bytes order x) ≡ 4
cell_length zero x = refl
cell_length (suc order) x = refl
