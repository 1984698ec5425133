-- A throw, a NEXT and a stop leave what they left.
use Rattle.std.specs.Prelude.{Ok, Err}
use mathlib.Core.Path.{◌≡◌, refl}
use mathlib.Core.List.{List}
use Prim.Native.Nat.{ℕ, ◌%◌}
use lib.Dec.{ltb, eqb}
use lib.ListN.{length}
use Rattle.cell.specs.Choice.{if}
use Rattle.cell.specs.Number.{difference}
use Rattle.cell.specs.Place.{address, Checked, Fetched}
use Rattle.cell.specs.Refusals.{Lent}
use Rattle.cell.specs.declared.Fault.{Fault}
use Rattle.cell.specs.declared.Fault.TheVariants as fault
use Rattle.machine.specs.Places.{one_cell, no_table, unbounded, place_of, fetch_of}
use Rattle.exceptions.specs.Exceptions.{exception_of}
use Rattle.machine.specs.Commits.{Stepped}
use Rattle.throws.specs.Throws.{handler_of, pushed, throw_of, throwing_of, nexted, next_of, finish_of}
use Rattle.machine.specs.declared.Machine.{Machine}
use Rattle.machine.specs.declared.Registers.{Registers}
use Rattle.machine.specs.declared.Access.TheVariants.{Stream, Push}
use Rattle.machine.specs.declared.Ended.{Ended}
use Rattle.before_tables.proofs.PlaceLaws.{open_true}
use Rattle.before_tables.proofs.EffectLaws.{Told, Judges, good, bad, Fetches, cell, fails}
use Rattle.before_tables.proofs.CommitLaws.{Steps, went, next, halted, threw, faults}
use Rattle.before_areas.specs.Places.{place_before, fetch_before}
use Rattle.before_areas.specs.Throws.{thrown_before, handler_before, pushed_before, throw_before, throwing_before, nexted_before, next_before, finish_before}
use Rattle.before_areas.proofs.PlaceLaws.{same_place, alike}

-- no stack is asked where the instruction stream goes on, and no table
same_stream : (machine : Machine) (m : List ℕ) (a : ℕ) → fetch_of machine Stream m a ≡ fetch_before machine.order m a
unfolding fetch_of fetch_before place_of place_before
same_stream machine m a = rw (open_true (if (ltb a (length m)) (if (eqb (a % 4) 0) (Ok tt) (Err (fault.Alignment (address a)))) (Err (fault.Range (address a)))))

pub same_handler : (machine : Machine) (m : List ℕ) (r : Registers) (e : Ended) → handler_of machine m r e ≡ handler_before machine.order m r e
unfolding handler_of handler_before
same_handler machine m r e = rw same_stream

pub same_throwing : (machine : Machine) (m : List ℕ) (r : Registers) → throwing_of machine m r ≡ throwing_before machine.order m r
unfolding throwing_of throwing_before
same_throwing machine m r = rw same_handler

-- the push of what was thrown for a fault, at a place that was judged
pushes : (machine : Machine) (m : List ℕ) (r : Registers) (sp : ℕ) (g : Fault) {c d : Checked} → Judges machine thrown_before c d
    → pushed machine m r (thrown_before g) sp c ≡ pushed_before machine.order m r g sp d
pushes machine m r sp g (bad t) = refl
pushes machine m r sp (fault.Range a) good = same_handler machine _ _ _
pushes machine m r sp (fault.Alignment a) good = same_handler machine _ _ _
pushes machine m r sp (fault.Data a) good = same_handler machine _ _ _
pushes machine m r sp (fault.Return a) good = same_handler machine _ _ _
pushes machine m r sp fault.Table good = same_handler machine _ _ _
pushes machine m r sp fault.Divisor good = same_handler machine _ _ _
pushes machine m r sp fault.Illegal good = same_handler machine _ _ _
pushes machine m r sp fault.Library good = same_handler machine _ _ _

module _ (order len : ℕ) (lent : Lent len) (m : List ℕ) (long : length m ≡ len) (r : Registers) where
  pub same_throw : (g : Fault) → throw_of (unbounded order no_table len) m r (thrown_before g) ≡ throw_before order m r g
  unfolding throw_of throw_before
  same_throw g =
      let sp : ℕ = difference r.sp 4 in
      rw long (pushes (unbounded order no_table len) m r sp g (same_place order len lent one_cell Push sp))

  -- what is told of a fault is thrown
  throws : (f g : Fault) → Told (unbounded order no_table len) thrown_before f g
      → throw_of (unbounded order no_table len) m r (exception_of (unbounded order no_table len) f) ≡ throw_before order m r g
  throws f g t = rw t (same_throw g)

  nexts : {g h : Fetched} → Fetches (unbounded order no_table len) thrown_before g h
      → nexted (unbounded order no_table len) m r g ≡ nexted_before order m r h
  nexts cell = refl
  nexts (fails {f} {g} t) = throws f g t

  pub same_next : next_of (unbounded order no_table len) m r ≡ next_before order m r
  unfolding next_of next_before
  same_next = nexts ((alike order len lent m long).cells Stream r.ep)

-- the rest of a cycle
pub same_finish : (order len : ℕ) → Lent len → {s t : Stepped} → length s.memory ≡ len → Steps (unbounded order no_table len) thrown_before s t
    → finish_of (unbounded order no_table len) s ≡ finish_before order t
unfolding finish_of finish_before
same_finish order len lent long went = refl
same_finish order len lent long (next {m} {r}) = same_next order len lent m long r
same_finish order len lent long halted = refl
same_finish order len lent long (threw {m} {r}) = same_throwing (unbounded order no_table len) m r
same_finish order len lent long (faults {m} {r} {f} {g} t) = throws order len lent m long r f g t
