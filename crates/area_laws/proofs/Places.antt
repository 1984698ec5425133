-- Good places of a stack lie in its area.
use Rattle.cell.specs.Place.{good}
use mathlib.Core.Path.{◌≡◌}
use mathlib.Core.Bool.{true}
use Prim.{tt}
use Prim.Native.Nat.{ℕ, ◌+◌, ◌-◌, ◌*◌, ◌%◌, ◌≤◌}
use native.Mathlib.Omega.{arith}
use lib.Dec.{ltb, leb}
use borrow.Author.Tests.{ltb-true, leb-true, eqb-true}
use Rattle.cell.proofs.BooleanLaws.{both_true}
use Rattle.machine.specs.Places.{one_cell, span_at, within, writable, allowed, place_of}
use Rattle.machine.specs.declared.Table.{Table}
use Rattle.machine.specs.declared.Machine.{Machine}
use Rattle.machine.specs.declared.Access.{Access}
use Rattle.machine.specs.declared.Access.TheVariants.{DataRead, DataWrite, ReturnRead, ReturnWrite, NamedRead, NamedWrite, Stream, Push}
use Rattle.machine.proofs.CommitLaws.{good_placed}
use Rattle.areas.specs.Areas.{held_under_data, held_under_return, Placed}
use Rattle.bounds.specs.Bounds.{span_of, machine_of}
use Rattle.areas.specs.declared.Area.{Area}
use Rattle.areas.specs.declared.Areas.{Areas}
use Rattle.areas.proofs.AreaLaws.{Taken, taken}
use Rattle.bounds.proofs.BoundLaws.{areas_pass}
use Rattle.area_laws.specs.Staying.{Given, CellOf, CellFor, PlacesStay}

-- an aligned address within so many cells that end at top is that of one of them
cell_in : (top cells a : ℕ) → top % 4 ≡ 0 → 4 ≤ top → a % 4 ≡ 0 → within (span_at (top - 4) cells) a ≡ true → (top ≤ a + 4 * cells) × (a + 4 ≤ top)
cell_in top cells a t h w e =
    let p = both_true (leb (top - 4 + 4) (a + 4 * cells)) (ltb a (top - 4 + 4)) e in
    let lo = leb-true (top - 4 + 4) (a + 4 * cells) p.0 in
    let hi = ltb-true a (top - 4 + 4) p.1 in
    (omega (arith, h, lo), omega (arith, h, t, w, hi))

-- so of the cells of an area and those held under it
cell_of : (len held : ℕ) (area : Area) (a : ℕ) → Placed len held area → a % 4 ≡ 0 → within (span_of held area) a ≡ true → CellOf held area a
cell_of len held area a p w e =
    let c = cell_in area.top.0 (area.cells.0 + held) a p.aligned (omega (arith, p.begins, p.some)) w e in
    record { from = c.0; up = c.1 }

module _ (len order : ℕ) (areas : Areas) (table : Table) (g : Given len order areas table) where
  abbrev machine : Machine
  machine = machine_of order areas table len

  facts : Taken len areas
  facts = taken len areas g.some (areas_pass len order areas table g.passed)

  stack_cell : (a : ℕ) → a % 4 ≡ 0 → within machine.stack a ≡ true → CellOf held_under_data areas.stack a
  stack_cell a w e = cell_of len held_under_data areas.stack a facts.stack w (rw g.some at e)

  return_cell : (a : ℕ) → a % 4 ≡ 0 → within machine.returns a ≡ true → CellOf held_under_return areas.returns a
  return_cell a w e = cell_of len held_under_return areas.returns a facts.returns w (rw g.some at e)

  -- a data write is above the held cell
  data_cell : (a : ℕ) → a % 4 ≡ 0 → within (writable machine) a ≡ true → CellOf 0 areas.stack a
  data_cell a w e =
      let p = facts.stack in
      let c = cell_in areas.stack.top.0 areas.stack.cells.0 a p.aligned (omega (arith, p.begins, p.some)) w (rw g.some at e) in
      record { from = omega (arith, c.0); up = c.1 }

  -- what is asked of a good place beside the table: that it is aligned, and where its stack may have it
  placed_in : (access : Access) (a : ℕ) → a % 4 ≡ 0 → allowed machine access a ≡ true → CellFor areas access a
  placed_in DataRead a w e = stack_cell a w e
  placed_in DataWrite a w e = data_cell a w e
  placed_in ReturnRead a w e = return_cell a w e
  placed_in ReturnWrite a w e = return_cell a w e
  placed_in NamedRead a w e = tt
  placed_in NamedWrite a w e = tt
  placed_in Stream a w e = tt
  placed_in Push a w e = stack_cell a w e

  -- whatever the length of the memory
  pub places_in : (long : ℕ) (access : Access) (a : ℕ) → place_of machine one_cell access long a ≡ good → CellFor areas access a
  places_in long access a e =
      let p = good_placed machine one_cell access long a e in placed_in access a (eqb-true (a % 4) 0 p.aligned) p.allows

pub places_stay : PlacesStay
places_stay len order areas table g access a e = places_in len order areas table g len access a e
