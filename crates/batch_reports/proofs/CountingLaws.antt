-- The mean of some figures.
-- Assumes nothing.
use mathlib.Core.Logic.{◌≢◌}
use Prim.Native.Nat.{◌^◌, ◌/◌, ◌%◌, ◌≤◌, ◌<◌}
use native.Mathlib.Nat.{mod-lt, div-lt_iff_lt-mul}
use native.Mathlib.Omega.{arith}
use Rattle.batch_reports.specs.declared.Tally.{Tally}
use Rattle.batch_reports.specs.Conditions.{Within}

-- the mean of so many forms is a cell, and so is what is left over
pub mean_fits : (t : Tally) → Within t → t.forms ≢ 0 → t.cycles / t.forms < 2 ^ 32
mean_fits t w h = (div-lt_iff_lt-mul {k = t.forms} {x = t.cycles} {y = 2 ^ 32} (omega arith)).1 (omega (arith, w.cycles))

pub rest_fits : (t : Tally) → t.forms ≤ 65535 → t.forms ≢ 0 → t.cycles % t.forms < 2 ^ 32
rest_fits t l h = omega (arith, mod-lt t.cycles {m = t.forms} (omega arith))
