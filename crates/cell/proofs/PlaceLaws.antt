-- What the check of a place tells.
use Rattle.std.proofs.Common.{◌≡◌, ℕ, ◌+◌, ◌*◌, ◌/◌, ◌%◌, ◌^◌, ◌<◌, ◌≤◌, Bool, true, false, eqb, ltb, refl, arith, ltb-true, eqb-true}
use Rattle.cell.specs.Choice.{if}
use Rattle.std.specs.Prelude.{Err}
use Rattle.cell.specs.Place.{good, check_byte, check_cell, address}
use Rattle.cell.specs.declared.Fault.TheVariants.{Range, Alignment}

-- a good place of a cell: inside memory, and a multiple of 4
pub record Place (len a : ℕ) : Type 0 where
  pub inside : a < len
  pub aligned : a % 4 ≡ 0

pub good_place : (len a : ℕ) → check_cell len a ≡ good → Place len a
good_place len a = go (ltb a len) (eqb (a % 4) 0) refl refl
  where
    go : (s t : Bool) → ltb a len ≡ s → eqb (a % 4) 0 ≡ t
        → if s (if t good (Err (Alignment (address a)))) (Err (Range (address a))) ≡ good → Place len a
    go true true p q e = record { inside = ltb-true a len p; aligned = eqb-true (a % 4) 0 q }
    go true false p q e = absurd (let z : ◌≡◌ {A = ℕ} 0 1 = cc in omega arith)
    go false t p q e = absurd (let z : ◌≡◌ {A = ℕ} 0 1 = cc in omega arith)

-- all four bytes of a cell at a good place are in memory
pub room : (len a : ℕ) → len % 4 ≡ 0 → check_cell len a ≡ good → a + 4 ≤ len
room len a w e = let g = good_place len a e in omega (arith, g.inside, g.aligned)

-- a good place of a byte is inside memory
pub good_byte : (len a : ℕ) → check_byte len a ≡ good → a < len
good_byte len a = go (ltb a len) refl
  where
    go : (s : Bool) → ltb a len ≡ s → if s good (Err (Range (address a))) ≡ good → a < len
    go true p e = ltb-true a len p
    go false p e = absurd (let z : ◌≡◌ {A = ℕ} 0 1 = cc in omega arith)

-- `check_cell` rotates an address right by two bits out of 64 and holds it against the count of cells: in a length that 64 bits hold, an aligned
-- address inside memory passes
pub rotated_good : (len a : ℕ) → len < 2 ^ 64 → a / 4 + a % 4 * 0x4000000000000000 < len / 4 + (len % 4 + 3) / 4 → Place len a
rotated_good len a l e = record { inside = omega (arith, l, e); aligned = omega (arith, l, e) }

-- and one that does not pass, yet lies inside memory, is not aligned
pub rotated_bad : (len a : ℕ) → len / 4 + (len % 4 + 3) / 4 ≤ a / 4 + a % 4 * 0x4000000000000000 → a < len → a % 4 ≡ 0 → ⊥
rotated_bad len a e i t = omega (arith, e, i, t)
