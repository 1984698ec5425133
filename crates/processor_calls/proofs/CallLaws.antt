-- What an accepted call has: a good machine, and room.
use Rattle.cell.specs.Refusals.{passed}
use mathlib.Core.Path.{◌≡◌}
use mathlib.Core.List.{List}
use Prim.Native.Nat.{ℕ, ◌≤◌}
use lib.ListN.{length}
use Rattle.machine.specs.declared.Table.{Table}
use Rattle.bounds.specs.Bounds.{judge_bounded}
use Rattle.areas.specs.declared.Areas.{Areas}
use Rattle.lent_arrays.specs.Lending.{areas_at, with_room}
use Rattle.lent_arrays.proofs.LendingLaws.{roomy, areas_there}
use Rattle.processor_calls.specs.Machines.{judge_call, judge_with}

pub call_passed : (len order : ℕ) (areas : Areas) (table : Table) (registers out needed : ℕ) → judge_call len order areas table registers out needed ≡ passed
    → judge_bounded len order areas table ≡ passed
unfolding judge_call
call_passed len order areas table registers out needed e =
    (roomy (judge_bounded len order areas table) registers 8 (roomy (with_room (judge_bounded len order areas table) registers 8) out needed e).passed).passed

pub call_roomy : (len order : ℕ) (areas : Areas) (table : Table) (registers out needed : ℕ) → judge_call len order areas table registers out needed ≡ passed
    → (8 ≤ registers) × (needed ≤ out)
unfolding judge_call
call_roomy len order areas table registers out needed e =
    let last = roomy (with_room (judge_bounded len order areas table) registers 8) out needed e in
    ((roomy (judge_bounded len order areas table) registers 8 last.passed).room, last.room)

-- where the areas came with the registers, those in the array were judged
pub with_passed : (len order : ℕ) (table : Table) (registers : List ℕ) (out needed : ℕ) → judge_with len order table registers out needed ≡ passed
    → judge_bounded len order (areas_at 4 registers) table ≡ passed
with_passed len order table registers out needed e =
    rw (areas_there 4 registers (call_roomy len order _ table (length registers) out needed e).0)
    at (call_passed len order _ table (length registers) out needed e)
