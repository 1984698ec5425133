-- The header as save_object writes it.
use mathlib.Core.Path.{◌≡◌, sym}
use mathlib.Core.List.{List, ◌++◌}
use Prim.Native.Nat.{ℕ, zero, suc, ◌≤◌}
use native.Mathlib.Omega.{arith}
use lib.ListN.{length, set, drop}
use lib.Seq.{sets, sets-eq}
use Rattle.cell.specs.Memory.{store_cell}
use Rattle.module_judging.specs.Format.{title, header_of}

pub header_written : (order : ℕ) (head out : List ℕ) (l : ℕ) → head ≡ title → 12 ≤ length out
    → store_cell order (set (head ++ drop 7 out) 7 order) 8 l ≡ header_of order l ++ drop 12 out
unfolding store_cell header_of
header_written zero head out l e h =
    let t : head ++ drop 7 out ≡ sets out 0 title = rw e (sym (sets-eq title out 0 (omega arith))) in
    rw t (sets-eq (header_of zero l) out 0 (omega arith))
header_written (suc order) head out l e h =
    let t : head ++ drop 7 out ≡ sets out 0 title = rw e (sym (sets-eq title out 0 (omega arith))) in
    rw t (sets-eq (header_of (suc order) l) out 0 (omega arith))
