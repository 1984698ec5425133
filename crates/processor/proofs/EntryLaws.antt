-- What a run has done.
use mathlib.Core.Path.{◌≡◌}
use Prim.Native.Nat.{ℕ, ◌+◌, ◌-◌}
use native.Mathlib.Omega.{arith}

-- what is left and what was done make the budget
pub done_is : (left done budget : ℕ) → left + done ≡ budget → budget - left ≡ done
done_is left done budget e = omega (arith, e)
