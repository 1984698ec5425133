-- What a load leaves and answers, from what its parts do.
use mathlib.Core.Path.{◌≡◌, ap}
use mathlib.Core.List.{List}
use Prim.Native.Nat.{ℕ, ◌^◌, ◌≤◌, ◌<◌}
use native.Mathlib.Omega.{arith}
use lib.ListN.{length}
use Rattle.cell.specs.Memory.{Bytewise}
use Rattle.cell.proofs.MemoryLaws.{cell_below}
use Rattle.module_judging.specs.Format.{order_of, count_of}
use Rattle.module_judging.specs.Grounds.{judge_load}
use Rattle.module_loading.specs.Answers.{load_if, load_of, load_first_of}

-- a count is one of a cell
pub count_below : (file : List ℕ) → Bytewise file → count_of file < 2 ^ 32
unfolding count_of
count_below file low = cell_below (order_of file) file 8 low

-- a halt at or after the last cell is none
pub first_whole : (order : ℕ) (m file : List ℕ) (a k : ℕ) → count_of file ≤ k → load_first_of order m file a k ≡ load_of order m file a
unfolding load_first_of load_of
first_whole order m file a k h =
    ap (load_if (judge_load (length m) order file a) order m file a) (omega (arith, h))

-- nor is one at the greatest number of a cell
pub all_whole : (order : ℕ) (m file : List ℕ) (a : ℕ) → Bytewise file
    → load_first_of order m file a 0xFFFFFFFF ≡ load_of order m file a
all_whole order m file a low = let h = count_below file low in first_whole order m file a 0xFFFFFFFF (omega (arith, h))
