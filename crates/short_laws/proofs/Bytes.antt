-- Numbers in a list of bytes.
-- Assumes nothing.
use mathlib.Core.Path.{◌≡◌, refl, sym, ap, ◌∙◌}
use mathlib.Core.List.{List, ◌∷◌, ◌++◌}
use Prim.Native.Nat.{ℕ, ◌+◌, ◌^◌, ◌≤◌, ◌<◌}
use native.Mathlib.Numerals.{add-one}
use native.Mathlib.Omega.{arith}
use lib.ListN.{length, get_or, take, drop}
use lib.Seq.{get_or-append_seam, get_or-append-add, drop-cons}
use Rattle.cell.specs.Memory.{byte0, byte1, byte2, byte3, cell_bytes, cell_at, Bytewise}
use Rattle.cell.proofs.BytesLaws.{join_bytes, bytes_joined}
use Rattle.pack_layout.specs.File.{least_first}

-- a number that stands behind p
pub number_in : (p r : List ℕ) (x : ℕ) → x < 2 ^ 32 → least_first (p ++ (cell_bytes 0 x ++ r)) (length p) ≡ x
unfolding cell_at
number_in p r x h =
    let y = cell_bytes 0 x ++ r in
    rw (get_or-append_seam p (byte0 x) (byte1 x ∷ byte2 x ∷ byte3 x ∷ r) 0, get_or-append-add p y 1 0, get_or-append-add p y 2 0, get_or-append-add p y 3 0)
    (join_bytes x h)

drop_next : (s : List ℕ) (a b : ℕ) → a < length s → b ≡ a + 1 → drop a s ≡ get_or s a 0 ∷ drop b s
drop_next s a b h e = drop-cons s a 0 h ∙ ap (λ (k : ℕ). get_or s a 0 ∷ drop k s) (sym (e ∙ add-one a))

-- the four bytes of the number at a
pub bytes_at : (s : List ℕ) (a : ℕ) → Bytewise s → a + 4 ≤ length s → cell_bytes 0 (least_first s a) ≡ take 4 (drop a s)
unfolding cell_at Bytewise
bytes_at s a low h =
    let q = bytes_joined (get_or s a 0) (get_or s (a + 1) 0) (get_or s (a + 2) 0) (get_or s (a + 3) 0) (low a) (low (a + 1)) (low (a + 2)) (low (a + 3)) in
    rw (
      drop_next s a (a + 1) (omega arith) refl,
      drop_next s (a + 1) (a + 2) (omega arith) (omega arith),
      drop_next s (a + 2) (a + 3) (omega arith) (omega arith),
      drop_next s (a + 3) (a + 4) (omega arith) (omega arith),
      q.zeroth,
      q.first,
      q.second,
      q.third,
    )
