-- Results that are cells again.
use mathlib.Core.Path.{◌≡◌, refl}
use mathlib.Core.Bool.{Bool, true, false}
use Prim.Native.Nat.{ℕ, ◌^◌, ◌<◌}
use native.Mathlib.Omega.{arith}
use lib.Dec.{leb}
use Rattle.cell.specs.Number.{sum, difference}
use Rattle.cell.specs.Shift.{asr8}
use Rattle.cell.specs.Memory.{byte0}

pub byte0_below : (x : ℕ) → byte0 x < 256
byte0_below x = omega arith

pub sum_below : (a b : ℕ) → sum a b < 2 ^ 32
unfolding sum
sum_below a b = omega arith

pub difference_below : (a b : ℕ) → difference a b < 2 ^ 32
unfolding difference
difference_below a b = omega arith

pub asr8_below : (x : ℕ) → x < 2 ^ 32 → asr8 x < 2 ^ 32
unfolding asr8
asr8_below x h = go (leb 0x80000000 x) refl
  where
    go : (t : Bool) → leb 0x80000000 x ≡ t → asr8 x < 2 ^ 32
    go true e = rw e (omega arith)
    go false e = rw e (omega arith)
