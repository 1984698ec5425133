-- An image as bytes: its length, and its cells among them.
-- Assumes nothing.
use mathlib.Core.Path.{◌≡◌, refl, sym, ap, ◌∙◌}
use mathlib.Core.List.{List, [], ◌∷◌}
use Prim.Native.Nat.{ℕ, zero, suc, ◌+◌, ◌*◌, ◌/◌, ◌^◌, ◌<◌}
use native.Mathlib.Omega.{arith}
use lib.ListN.{length, get_or}
use Rattle.cell.specs.Memory.{cell_at, byte0, byte1, byte2, byte3}
use Rattle.cell.proofs.BytesLaws.{join_bytes}
use Rattle.pack_layout.specs.Output.{bytes_of}
use Rattle.pack_layout.specs.Reading.{each, cells_of}
use Rattle.pack_layout.proofs.Reading.{each_is}

pub bytes_length : (order : ℕ) (xs : List ℕ) → length (bytes_of order xs) ≡ 4 * length xs
unfolding bytes_of
bytes_length order [] = refl
bytes_length zero (x ∷ xs) = omega (arith, bytes_length zero xs)
bytes_length (suc order) (x ∷ xs) = omega (arith, bytes_length (suc order) xs)

-- a cell behind the first one
past_first : (order a b c d : ℕ) (rest : List ℕ) (j : ℕ) → cell_at order (a ∷ b ∷ c ∷ d ∷ rest) (4 * suc j) ≡ cell_at order rest (4 * j)
unfolding cell_at
past_first order a b c d rest j =
    let e0 : 4 * suc j ≡ suc (suc (suc (suc (4 * j)))) = omega arith in
    let e1 : 4 * suc j + 1 ≡ suc (suc (suc (suc (4 * j + 1)))) = omega arith in
    let e2 : 4 * suc j + 2 ≡ suc (suc (suc (suc (4 * j + 2)))) = omega arith in
    let e3 : 4 * suc j + 3 ≡ suc (suc (suc (suc (4 * j + 3)))) = omega arith in
    rw (e1, e2, e3, e0)

-- a cell among the bytes of a list of cells
pub cell_there : (order : ℕ) (xs : List ℕ) (j : ℕ) → j < length xs → ((k : ℕ) → get_or xs k 0 < 2 ^ 32) → cell_at order (bytes_of order xs) (4 * j) ≡ get_or xs j 0
unfolding bytes_of cell_at
cell_there order [] j h low = absurd (omega arith)
cell_there zero (x ∷ xs) zero h low = join_bytes x (low 0)
cell_there (suc order) (x ∷ xs) zero h low = join_bytes x (low 0)
cell_there zero (x ∷ xs) (suc j) h low =
    past_first zero (byte0 x) (byte1 x) (byte2 x) (byte3 x) (bytes_of zero xs) j ∙ cell_there zero xs j (omega arith) (λ k. low (suc k))
cell_there (suc order) (x ∷ xs) (suc j) h low =
    past_first (suc order) (byte3 x) (byte2 x) (byte1 x) (byte0 x) (bytes_of (suc order) xs) j
    ∙ cell_there (suc order) xs j (omega arith) (λ k. low (suc k))

-- the cells of an image's bytes are the image
pub cells_back : (order : ℕ) (xs : List ℕ) → ((k : ℕ) → get_or xs k 0 < 2 ^ 32) → cells_of order (bytes_of order xs) ≡ xs
unfolding cells_of
cells_back order xs low =
    ap (λ (n : ℕ). each (λ j. cell_at order (bytes_of order xs) (4 * j)) n 0)
    (let e : length (bytes_of order xs) / 4 ≡ length xs = omega (arith, bytes_length order xs) in e)
    ∙ sym (each_is (λ j. cell_at order (bytes_of order xs) (4 * j)) (length xs) xs refl (λ j h. sym (cell_there order xs j h low)))
