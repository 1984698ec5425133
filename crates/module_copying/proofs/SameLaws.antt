-- A copy between equal byte orders: the bytes as they stand.
use mathlib.Core.Path.{◌≡◌, refl, sym, ◌∙◌}
use mathlib.Core.List.{List, [], ◌∷◌}
use Prim.Native.Nat.{ℕ, zero, suc, ◌+◌, ◌*◌, ◌≤◌}
use native.Mathlib.Omega.{arith}
use lib.ListN.{length, get_or, take, drop}
use lib.Seq.{get_or-drop, drop-cons, take-add, paste}
use Rattle.cell.specs.Memory.{cell_bytes, cell_at, Bytewise}
use Rattle.cell.proofs.BytesLaws.{bytes_joined}
use Rattle.module_copying.specs.Copies.{copied}
use Rattle.module_copying.proofs.PlaceLaws.{turned, copied_placed}

-- a part of bytes is bytes
pub drop_bytewise : (n : ℕ) (m : List ℕ) → Bytewise m → Bytewise (drop n m)
unfolding Bytewise
drop_bytewise n m low i = rw (get_or-drop n m i 0) (low (n + i))

pub take_bytewise : (n : ℕ) (m : List ℕ) → Bytewise m → Bytewise (take n m)
unfolding Bytewise
take_bytewise zero m low i = omega arith
take_bytewise (suc n) [] low i = omega arith
take_bytewise (suc n) (x ∷ m) low zero = low zero
take_bytewise (suc n) (x ∷ m) low (suc i) = take_bytewise n m (λ k. low (suc k)) i

-- the bytes of a cell that was read are those that stand there
bytes_back : (order : ℕ) (code : List ℕ) (c : ℕ) → Bytewise code
    → cell_bytes order (cell_at order code c)
    ≡ get_or code c 0 ∷ get_or code (c + 1) 0 ∷ get_or code (c + 2) 0 ∷ get_or code (c + 3) 0 ∷ []
unfolding cell_at Bytewise
bytes_back zero code c low =
    let s =
    bytes_joined (get_or code c 0) (get_or code (c + 1) 0) (get_or code (c + 2) 0) (get_or code (c + 3) 0) (low c) (low (c + 1)) (low (c + 2)) (low (c + 3))
    in
    rw (s.zeroth, s.first, s.second, s.third)
bytes_back (suc order) code c low =
    let s =
    bytes_joined (get_or code (c + 3) 0) (get_or code (c + 2) 0) (get_or code (c + 1) 0) (get_or code c 0) (low (c + 3)) (low (c + 2)) (low (c + 1)) (low c)
    in
    rw (s.zeroth, s.first, s.second, s.third)

four_bytes : (code : List ℕ) (c : ℕ) → c + 4 ≤ length code
    → take 4 (drop c code) ≡ get_or code c 0 ∷ get_or code (c + 1) 0 ∷ get_or code (c + 2) 0 ∷ get_or code (c + 3) 0 ∷ []
four_bytes code c h =
    let e1 : c + 1 ≡ suc c = omega arith in
    let e2 : c + 2 ≡ suc (suc c) = omega arith in
    let e3 : c + 3 ≡ suc (suc (suc c)) = omega arith in
    rw (
      e1,
      e2,
      e3,
      drop-cons code c 0 (omega arith),
      drop-cons code (suc c) 0 (omega arith),
      drop-cons code (suc (suc c)) 0 (omega arith),
      drop-cons code (suc (suc (suc c))) 0 (omega arith),
    )

module _ (order : ℕ) (code : List ℕ) (low : Bytewise code) where
  pub cell_bytes_lem : (c : ℕ) → c + 4 ≤ length code → cell_bytes order (cell_at order code c) ≡ take 4 (drop c code)
  cell_bytes_lem c h = bytes_back order code c low ∙ sym (four_bytes code c h)

  -- cells that keep their order keep their bytes
  turned_same : (k : ℕ) → 4 * k ≤ length code → turned order order code k ≡ take (4 * k) code
  turned_same zero h = refl
  turned_same (suc k) h =
      let e : 4 * suc k ≡ 4 * k + 4 = omega arith in
      rw (
        e,
        take-add (4 * k) 4 code,
        turned_same k (omega arith),
        cell_bytes_lem (4 * k) (omega arith),
      )

  pub copied_same : (m : List ℕ) (a k : ℕ) → a + 4 * k ≤ length m → 4 * k ≤ length code
      → copied order order code m a k ≡ paste m a code (4 * k)
  copied_same m a k h g = copied_placed order order code m a k h ∙ rw (turned_same k g)
