-- The four bytes of a cell, taken apart and joined, in either order.
use Rattle.std.proofs.Common.{◌≡◌, ℕ, zero, suc, ◌+◌, ◌*◌, ◌/◌, ◌%◌, ◌^◌, ◌<◌, List, get_or, refl, mod-eq_of_lt, arith}
use native.Mathlib.Nat.{div-div-eq-div-mul}
use Rattle.cell.specs.Memory.{byte0, byte1, byte2, byte3, joined, cell_at, store_cell}

-- the top byte of a cell
pub top : (x : ℕ) → x < 2 ^ 32 → byte3 x ≡ x / 16777216
top x h = mod-eq_of_lt (let l : x / 16777216 < 256 = omega arith in l)

-- a cell is joined of its bytes
pub join_bytes : (x : ℕ) → x < 2 ^ 32 → joined 0 (byte0 x) (byte1 x) (byte2 x) (byte3 x) ≡ x
join_bytes x h = omega (arith, top x h, div-div-eq-div-mul x 256 256, div-div-eq-div-mul x 65536 256)

-- the bytes of four that were joined are those four
pub record Bytes (x a b c d : ℕ) : Type 0 where
  pub zeroth : byte0 x ≡ a
  pub first : byte1 x ≡ b
  pub second : byte2 x ≡ c
  pub third : byte3 x ≡ d

pub bytes_joined : (a b c d : ℕ) → a < 256 → b < 256 → c < 256 → d < 256 → Bytes (joined 0 a b c d) a b c d
bytes_joined a b c d ha hb hc hd =
    record { zeroth = omega arith; first = omega arith; second = omega arith; third = omega arith }

-- a cell loaded least byte first and reversed is the cell in the machine's order
pub reverse_loaded : (order : ℕ) (m : List ℕ) (a y : ℕ) → ((i : ℕ) → get_or m i 0 < 256) → y ≡ cell_at 0 m a
    → joined order (byte0 y) (byte1 y) (byte2 y) (byte3 y) ≡ cell_at order m a
unfolding cell_at
reverse_loaded order m a y low e =
    let s : Bytes y (get_or m a 0) (get_or m (a + 1) 0) (get_or m (a + 2) 0) (get_or m (a + 3) 0) =
    rw e (bytes_joined (get_or m a 0) (get_or m (a + 1) 0) (get_or m (a + 2) 0) (get_or m (a + 3) 0) (low a) (low (a + 1)) (low (a + 2)) (low (a + 3)))
    in
    rw (s.zeroth, s.first, s.second, s.third)

-- a cell reversed and stored least byte first is stored in the machine's order
pub reverse_stored : (order : ℕ) (m : List ℕ) (a x : ℕ) → x < 2 ^ 32
    → store_cell 0 m a (joined order (byte0 x) (byte1 x) (byte2 x) (byte3 x)) ≡ store_cell order m a x
unfolding store_cell
reverse_stored zero m a x h = rw (join_bytes x h)
reverse_stored (suc order) m a x h =
    let s = bytes_joined (byte3 x) (byte2 x) (byte1 x) (byte0 x) (omega arith) (omega arith) (omega arith) (omega arith) in
    rw (s.zeroth, s.first, s.second, s.third)

-- the bytes of x the other way round
pub reverse_other : (order x : ℕ) → (order ≡ 0 → ⊥) → x < 2 ^ 32
    → x % 256 * 16777216 + x / 256 % 256 * 65536 + x / 65536 % 256 * 256 + x / 16777216
    ≡ joined order (byte0 x) (byte1 x) (byte2 x) (byte3 x)
reverse_other zero x n h = absurd (n refl)
reverse_other (suc order) x n h = omega (arith, top x h)
