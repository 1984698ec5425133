-- A byte off the areas that no instruction names is as it was, after a cycle and after any number of them.
use Rattle.cell.specs.Place.{good}
use mathlib.Core.Path.{◌≡◌, refl, sym, ◌∙◌}
use mathlib.Core.Bool.{Bool, true, false, ◌&&◌, ◌||◌, true≢false}
use mathlib.Core.List.{List, [], ◌∷◌}
use Prim.Native.Nat.{ℕ, ◌+◌, ◌-◌, ◌<◌}
use native.Mathlib.Omega.{arith}
use lib.Dec.{ltb}
use lib.ListN.{length, get_or}
use borrow.Author.Tests.{ltb-true, lt-ltb, le-leb}
use Rattle.cell.specs.Memory.{Alike}
use Rattle.cell.proofs.BooleanLaws.{neither}
use Rattle.machine.specs.Places.{Width, one_byte, one_cell, place_of}
use Rattle.machine.specs.Effects.{Store}
use Rattle.machine.specs.Commits.{places_of, touches}
use Rattle.throws.specs.Throws.{CycleState}
use Rattle.machine.specs.declared.Table.{Table}
use Rattle.machine.specs.declared.Machine.{Machine}
use Rattle.machine.specs.declared.Registers.{Registers}
use Rattle.machine.specs.declared.Access.{Access}
use Rattle.machine.specs.declared.Access.TheVariants.{DataRead, DataWrite, ReturnRead, ReturnWrite, NamedRead, NamedWrite, Stream, Push}
use Rattle.machine.proofs.CommitLaws.{both_good}
use Rattle.cycles.specs.Cycles.{cycle_of, cycles_of}
use Rattle.cycles.specs.Counts.{begun}
use Rattle.areas.specs.Areas.{held_under_data, held_under_return, bytes_with}
use Rattle.bounds.specs.Bounds.{machine_of}
use Rattle.areas.specs.declared.Area.{Area}
use Rattle.areas.specs.declared.Areas.{Areas}
use Rattle.area_laws.specs.Staying.{Given, CellOf, CellFor, is_named, named, stores_in, names, in_area, Off, StackWritesStay, RunWritesStay}
use Rattle.area_laws.proofs.Places.{places_in}
use Rattle.area_laws.proofs.Untouched.{SparesPush, cycle_leaves, cycles_leave}

-- a cell of an area does not have a byte that is off it
miss : (held : ℕ) (area : Area) (at a : ℕ) → CellOf held area at → in_area held area a ≡ false → (ltb at (a + 1) && ltb a (at + 4)) ≡ false
miss held area at a c e = go (ltb at (a + 1)) (ltb a (at + 4)) refl refl
  where
    go : (s t : Bool) → ltb at (a + 1) ≡ s → ltb a (at + 4) ≡ t → (s && t) ≡ false
    go false t p q = refl
    go true false p q = refl
    go true true p q =
        let lo = ltb-true at (a + 1) p in
        let hi = ltb-true a (at + 4) q in
        let inside : in_area held area a ≡ true =
        rw (
          le-leb (area.top.0 - bytes_with held area) a (omega (arith, c.from, lo)),
          lt-ltb a area.top.0 (omega (arith, c.up, hi)),
        ) in
        absurd (true≢false (sym inside ∙ e))

-- nor has one of the data area, where it is off the held cell too
lower : (area : Area) (at : ℕ) → CellOf 0 area at → CellOf held_under_data area at
lower area at c = record { from = omega (arith, c.from); up = c.up }

module _ (len order : ℕ) (areas : Areas) (table : Table) (g : Given len order areas table) (a : ℕ) (off : Off areas a) where
  abbrev machine : Machine
  machine = machine_of order areas table len

  -- a good stack place does not have the byte
  stack_miss : (access : Access) (at : ℕ) → is_named one_cell access ≡ false → CellFor areas access at → (ltb at (a + 1) && ltb a (at + 4)) ≡ false
  stack_miss DataRead at n c = miss held_under_data areas.stack at a c off.data_area
  stack_miss DataWrite at n c = miss held_under_data areas.stack at a (lower areas.stack at c) off.data_area
  stack_miss ReturnRead at n c = miss held_under_return areas.returns at a c off.return_area
  stack_miss ReturnWrite at n c = miss held_under_return areas.returns at a c off.return_area
  stack_miss NamedRead at n c = absurd (true≢false n)
  stack_miss NamedWrite at n c = absurd (true≢false n)
  stack_miss Stream at n c = absurd (true≢false n)
  stack_miss Push at n c = miss held_under_data areas.stack at a c off.data_area

  abbrev stored : Width → Access → ℕ → ℕ → Store
  stored w access at x = record { width = w; access = access; at = at; value = x }

  -- the first of stores that were found good
  first_miss : (long : ℕ) (w : Width) (access : Access) (at x : ℕ) (ss : List Store) → place_of machine w access long at ≡ good
      → touches a (a + 1) (named (stored w access at x ∷ ss)) ≡ false
      → (touches a (a + 1) (named ss) ≡ false → touches a (a + 1) ss ≡ false)
      → touches a (a + 1) (stored w access at x ∷ ss) ≡ false
  unfolding touches named
  first_miss long one_byte access at x ss p e k =
      let h = neither (ltb at (a + 1) && ltb a (at + 1)) (touches a (a + 1) (named ss)) e in rw h.0 (k h.1)
  first_miss long one_cell access at x ss p e k = go (is_named one_cell access) refl
    where
      go : (b : Bool) → is_named one_cell access ≡ b → ((ltb at (a + 1) && ltb a (at + 4)) || touches a (a + 1) ss) ≡ false
      go true n =
          let h = neither (ltb at (a + 1) && ltb a (at + 4)) (touches a (a + 1) (named ss)) (rw n at e) in rw h.0 (k h.1)
      go false n = rw (stack_miss access at n (places_in len order areas table g long access at p)) (k (rw n at e))

  stores_miss : (long : ℕ) (ss : List Store) → places_of machine long ss ≡ good → touches a (a + 1) (named ss) ≡ false → touches a (a + 1) ss ≡ false
  unfolding places_of touches
  stores_miss long [] p e = refl
  stores_miss long (s ∷ ss) p e =
      let c = place_of machine s.width s.access long s.at in
      let q : c ≡ good = both_good c (places_of machine long ss) p in
      first_miss long s.width s.access s.at s.value ss q e
      (λ h. stores_miss long ss (rw q at p) h)

  -- nor does a throw's push: it lies in data area or held cell
  push_misses : SparesPush machine a (a + 1)
  push_misses long at p = stack_miss Push at refl (places_in len order areas table g long Push at p)

  pub cycle_stays : (m : List ℕ) (r : Registers) → names machine m r a ≡ false → get_or (cycle_of machine m r).memory a 0 ≡ get_or m a 0
  unfolding Alike
  cycle_stays m r h =
      cycle_leaves machine a (a + 1) (omega (arith, off.above)) push_misses m r (λ p. stores_miss (length m) (stores_in machine m r) p h) a
      (omega arith)
      (omega arith)

  pub cycles_stay : (n : ℕ) (s : CycleState)
      → ((k : ℕ) → k < n → names machine (cycles_of machine k s).memory (cycles_of machine k s).result.registers a ≡ false)
      → get_or (cycles_of machine n s).memory a 0 ≡ get_or s.memory a 0
  unfolding Alike
  cycles_stay n s h =
      cycles_leave machine a (a + 1) (omega (arith, off.above)) push_misses n s
      (λ k l p. stores_miss (length (cycles_of machine k s).memory) (stores_in machine (cycles_of machine k s).memory (cycles_of machine k s).result.registers) p (h k l))
      a
      (omega arith)
      (omega arith)

pub stack_writes_stay : StackWritesStay
stack_writes_stay order areas table m r a g off h = cycle_stays (length m) order areas table g a off m r h

pub run_writes_stay : RunWritesStay
run_writes_stay order areas table m r a n g off h = cycles_stay (length m) order areas table g a off n (begun m r) h
