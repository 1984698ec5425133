-- Laws of the parts that many effects share.
use mathlib.Core.Path.{◌≡◌}
use Prim.Native.Nat.{ℕ, ◌+◌, ◌*◌, ◌%◌, ◌^◌}
use native.Mathlib.Omega.{arith}
use Rattle.cell.specs.Number.{sum}

-- EP + 4 A, with A cut to 30 bits before it is multiplied
pub branch_target : (ep a : ℕ) → sum ep (a % 0x40000000 * 4) ≡ (ep + 4 * a) % 2 ^ 32
unfolding sum
branch_target ep a = omega arith
