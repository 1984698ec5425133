-- Laws on the arithmetic of cells.
use Rattle.std.proofs.Common.{◌≡◌, ℕ, ◌+◌, ◌*◌, ◌/◌, ◌%◌, ◌^◌, ◌<◌, Bool, true, false, not, ltb, leb, refl, lt_of_le_of_lt, le_of_lt, mul-le-mul_left, mul-lt-mul_of_pos_right, arith, pow_pos, le-ltb, lt-ltb, leb-false, leb-true}
use Rattle.cell.specs.Shift.{asr8}
use Rattle.cell.specs.Number.{magnitude, negated, halved}

-- b < a is the opposite of a ≤ b
pub lt_not_le : (a b : ℕ) → ltb b a ≡ not (leb a b)
lt_not_le a b = go (leb a b) refl
  where
    go : (t : Bool) → leb a b ≡ t → ltb b a ≡ not t
    go true e = le-ltb b a (leb-true a b e)
    go false e = lt-ltb b a (leb-false a b e)

pub magnitude_pos : (a : ℕ) → 0 < a → a < 2 ^ 32 → 0 < magnitude a
unfolding negated
magnitude_pos a p h = go (leb 0x80000000 a) refl
  where
    go : (t : Bool) → leb 0x80000000 a ≡ t → 0 < magnitude a
    go true e = rw e (omega arith)
    go false e = rw e p

-- a shift to the right that adds half of the range, cuts, and takes the half away again keeps the sign
pub halved_is : (a : ℕ) → a < 2 ^ 32 → ((a / 2 + 0x40000000) % 0x80000000 + 0xC0000000) % 2 ^ 32 ≡ halved a
unfolding halved
halved_is a h = go (leb 0x80000000 a) refl
  where
    go : (t : Bool) → leb 0x80000000 a ≡ t → ((a / 2 + 0x40000000) % 0x80000000 + 0xC0000000) % 2 ^ 32 ≡ halved a
    go true q = rw q (let l = leb-true 0x80000000 a q in omega arith)
    go false q = rw q (let l = leb-false 0x80000000 a q in omega arith)

pub asr8_is : (a : ℕ) → a < 2 ^ 32 → ((a / 256 + 0x800000) % 0x1000000 + 0xFF800000) % 2 ^ 32 ≡ asr8 a
unfolding asr8
asr8_is a h = go (leb 0x80000000 a) refl
  where
    go : (t : Bool) → leb 0x80000000 a ≡ t → ((a / 256 + 0x800000) % 0x1000000 + 0xFF800000) % 2 ^ 32 ≡ asr8 a
    go true q = rw q (let l = leb-true 0x80000000 a q in omega arith)
    go false q = rw q (let l = leb-false 0x80000000 a q in omega arith)
