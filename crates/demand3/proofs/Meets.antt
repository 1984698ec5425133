-- How the processor stands when the list machine is in front of an item, and what a cycle has to come to by what the item comes to.
use Rattle.std.specs.Prelude.{Ok, Some, None}
use mathlib.Core.Path.{◌≡◌, refl}
use mathlib.Core.Bool.{Bool, true, false, ◌&&◌}
use Prim.Native.Nat.{ℕ, ◌<◌}
use Rattle.cell.specs.Number.{sum}
use Rattle.machine.specs.Places.{fetch_of}
use Rattle.throws.specs.Throws.{CycleState, cycle_state, entered}
use Rattle.machine.specs.declared.Machine.{Machine}
use Rattle.machine.specs.declared.Registers.{Registers}
use Rattle.machine.specs.declared.Access.TheVariants.{Stream}
use Rattle.machine.specs.declared.Ended.{Ended}
use Rattle.machine.specs.declared.Ended.TheVariants.{Stopped}
use Rattle.cycles.specs.Counts.{is_stop}
use Rattle.pack_layout.specs.Listing.{Listing}
use Rattle.pack_layout.specs.Layout.{opens}
use Rattle.pack_layout.specs.Packing.{layout, address_of, ep_value, register, entry_at, Legal, Entry}
use Rattle.pack_layout.proofs.Placing.{entry_opens}
use Rattle.pack_layout.proofs.Finding.{found}
use Rattle.list_machine.specs.declared.Outside.{Outside}
use Rattle.list_machine.specs.ListMachine.{Position, Carried, on, stopped, outside, entered_at, transferred}
use Rattle.demand3.specs.Demand3.{Holds}
use Rattle.demand3.proofs.Image.{at_item, entry_cell, ep_after}

-- at the item; or, where the item opens a cell and the one before it ran on, before the NEXT that enters it
abbrev pub standing : Bool → ℕ → Listing → Position → Registers
standing true base l p = record { ep = address_of base l p.item; a = 0; sp = p.sp; rp = p.rp }
standing false base l p = at_item base l p.item p.sp p.rp

abbrev pub registers_for : ℕ → Listing → Position → Registers
registers_for base l p = standing (p.ran && opens (layout l) p.item) base l p

pub record Sound (machine : Machine) (base : ℕ) (l : Listing) (p : Position) : Type 0 where
  pub item : p.item < l.count
  pub holds : Holds machine base l p.memory

pub record GoesOn (machine : Machine) (base : ℕ) (l : Listing) (p : Position) (t : CycleState) : Type 0 where
  pub memory : t.memory ≡ p.memory
  pub registers : t.result.registers ≡ registers_for base l p
  pub goes : is_stop t.result.ended ≡ false
  pub sound : Sound machine base l p

pub record Stops (x : ℕ) (p : Position) (t : CycleState) : Type 0 where
  pub memory : t.memory ≡ p.memory
  pub sp : t.result.registers.sp ≡ p.sp
  pub rp : t.result.registers.rp ≡ p.rp
  pub ended : t.result.ended ≡ Stopped x

-- nothing is claimed of an item that the list machine stops in front of
abbrev pub Meets : Machine → ℕ → Listing → Carried → CycleState → Type 0
Meets machine base l (on p) t = GoesOn machine base l p t
Meets machine base l (stopped x p) t = Stops x p t
Meets machine base l (outside why) t = Unit {0}

-- the processor enters the cell at an address: the list machine is in front of the entry placed there, or outside
module _ (machine : Machine) (base : ℕ) (l : Listing) (ok : Legal base l) where
  pub enters : (why : Outside) (p : Position) (h x a ep : ℕ) (e : Ended) → is_stop e ≡ false → Holds machine base l p.memory
      → fetch_of machine Stream p.memory h ≡ Ok x
      → Meets machine base l (transferred machine base l why h p) (cycle_state p.memory (entered h x (record { ep = ep; a = a; sp = p.sp; rp = p.rp })) e)
  enters why p h x a ep e going holds fetched = go (entry_at base l h) refl
    where
      go : (n : Entry) → entry_at base l h ≡ n
          → Meets machine base l (entered_at why n p) (cycle_state p.memory (entered h x (record { ep = ep; a = a; sp = p.sp; rp = p.rp })) e)
      go None q = tt
      go (Some j) q =
          let f = found base l h j.0 q in
          let o : opens (layout l) j.0 ≡ true = entry_opens (layout l) j.0 f.entered in
          let s : sum h 4 ≡ ep_value base l j.0 = rw (← f.there) (ep_after machine base l ok p.memory holds j.0 f.item o) in
          let c : fetch_of machine Stream p.memory h ≡ Ok (register base l j.0) = rw (← f.there) (entry_cell machine base l ok p.memory holds j.0 f.item o) in
          let v : x ≡ register base l j.0 = cc in
          record { memory = refl; registers = rw (s, v); goes = going; sound = record { item = f.item; holds = holds } }
