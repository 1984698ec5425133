-- ROLL: where the deepest item was fetched, its exact address is an address.
use Rattle.std.specs.Prelude.{Ok, Err}
use mathlib.Core.Path.{◌≡◌, refl}
use mathlib.Core.Bool.{Bool, true, false}
use mathlib.Core.List.{List}
use Prim.Native.Nat.{ℕ, ◌%◌, ◌^◌, ◌<◌}
use native.Mathlib.Omega.{arith}
use borrow.Author.Tests.{ltb-true}
use lib.Dec.{ltb}
use Rattle.cell.specs.Choice.{if}
use Rattle.cell.specs.Place.{address}
use Rattle.cell.specs.declared.Fault.TheVariants.{Range}
use Rattle.machine.specs.Places.{fetch_of}
use Rattle.machine.specs.declared.Machine.{Machine}
use Rattle.machine.specs.declared.Access.TheVariants.{DataRead}
use Rattle.instruction.specs.Plain.{fetch_deep}

pub deep_address_lem : (machine : Machine) (m : List ℕ) (a x : ℕ) → fetch_deep machine m a ≡ Ok x → a < 2 ^ 32
deep_address_lem machine m a x = go (ltb a (2 ^ 32)) refl
  where
    go : (t : Bool) → ltb a (2 ^ 32) ≡ t
        → if t (fetch_of machine DataRead m a) (Err (Range (address (a % 2 ^ 32)))) ≡ Ok x → a < 2 ^ 32
    go true q e = ltb-true a (2 ^ 32) q
    go false q e = absurd (let z : ◌≡◌ {A = ℕ} 0 1 = cc in omega arith)
