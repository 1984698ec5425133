-- Places: where the stacks may have every cell of memory and there is no table, a place is good just where it was, and a bad one throws what it threw.
use Rattle.std.specs.Prelude.{Ok, Err}
use mathlib.Core.Path.{◌≡◌, refl, sym}
use mathlib.Core.Bool.{Bool, true, false, ◌&&◌, true≢false}
use mathlib.Core.List.{List}
use Prim.Native.Nat.{ℕ, ◌+◌, ◌-◌, ◌*◌, ◌/◌, ◌%◌, ◌<◌}
use native.Mathlib.Omega.{arith}
use lib.Dec.{ltb, eqb}
use lib.ListN.{length}
use borrow.Author.Tests.{ltb-true, le-leb, lt-ltb}
use Rattle.cell.specs.Choice.{if}
use Rattle.cell.specs.Place.{address}
use Rattle.cell.specs.Refusals.{Lent}
use Rattle.cell.specs.declared.Fault.TheVariants.{Range, Alignment}
use Rattle.machine.specs.Places.{Width, one_byte, one_cell, whole_memory, no_table, unbounded, within, allowed, fault_at, open_to, place_of, fetch_of, fetch_byte_of}
use Rattle.exceptions.specs.Exceptions.{exception_of}
use Rattle.machine.specs.declared.Access.{Access}
use Rattle.machine.specs.declared.Access.TheVariants.{DataRead, DataWrite, ReturnRead, ReturnWrite, NamedRead, NamedWrite, Stream, Push}
use Rattle.before_tables.proofs.EffectLaws.{Told, Judges, good, bad, Alike, reads}
use Rattle.before_tables.proofs.MachineLaws.{spared}
use Rattle.before_areas.specs.Places.{place_before, fetch_before, fetch_byte_before, reading_before}
use Rattle.before_areas.specs.Throws.{thrown_before}

module _ (order len : ℕ) (lent : Lent len) where
  -- every place in memory is allowed
  within_all : (a : ℕ) → a < len → within (whole_memory len) a ≡ true
  within_all a h =
      simp (
        le-leb (len - 4 + 4) (a + 4 * (len / 4)) (omega (arith, lent.whole, lent.least)),
        lt-ltb a (len - 4 + 4) (omega (arith, lent.least)),
      )

  allowed_all : (access : Access) (a : ℕ) → a < len → allowed (unbounded order no_table len) access a ≡ true
  allowed_all DataRead a h = within_all a h
  allowed_all DataWrite a h = within_all a h
  allowed_all ReturnRead a h = within_all a h
  allowed_all ReturnWrite a h = within_all a h
  allowed_all NamedRead a h = refl
  allowed_all NamedWrite a h = refl
  allowed_all Stream a h = refl
  allowed_all Push a h = within_all a h

  -- an unaligned one throws -23
  odd : (access : Access) (a : ℕ) → eqb (a % 4) 0 ≡ false
      → Told (unbounded order no_table len) thrown_before (fault_at access a) (Alignment (address a))
  unfolding exception_of
  odd DataRead a e = rw e
  odd DataWrite a e = rw e
  odd ReturnRead a e = rw e
  odd ReturnWrite a e = rw e
  odd NamedRead a e = refl
  odd NamedWrite a e = refl
  odd Stream a e = refl
  odd Push a e = rw e

  far : (a : ℕ) → Told (unbounded order no_table len) thrown_before (Range (address a)) (Range (address a))
  unfolding exception_of
  far a = refl

  pub same_place : (w : Width) (access : Access) (a : ℕ)
      → Judges (unbounded order no_table len) thrown_before (place_of (unbounded order no_table len) w access len a) (place_before w len a)
  unfolding place_of place_before
  same_place one_byte access a =
      rw (spared (unbounded order no_table len) refl access a)
      (go (ltb a len) (allowed (unbounded order no_table len) access a) (λ h. allowed_all access a (ltb-true a len h)))
    where
      go : (s t : Bool) → (s ≡ true → t ≡ true)
          → Judges (unbounded order no_table len) thrown_before
          (open_to (if s (if (t && true) (Ok tt) (Err (fault_at access a))) (Err (Range (address a)))) true)
          (if s (Ok tt) (Err (Range (address a))))
      go true true all = good
      go true false all = absurd (true≢false (sym (all refl)))
      go false t all = bad (far a)
  same_place one_cell access a =
      rw (spared (unbounded order no_table len) refl access a)
      (go (ltb a len) (allowed (unbounded order no_table len) access a) (eqb (a % 4) 0) (λ h. allowed_all access a (ltb-true a len h)) refl)
    where
      go : (s t u : Bool) → (s ≡ true → t ≡ true) → eqb (a % 4) 0 ≡ u
          → Judges (unbounded order no_table len) thrown_before
          (open_to (if s (if (t && u) (Ok tt) (Err (fault_at access a))) (Err (Range (address a)))) true)
          (if s (if u (Ok tt) (Err (Alignment (address a)))) (Err (Range (address a))))
      go true true true all q = good
      go true true false all q = bad (odd access a q)
      go true false u all q = absurd (true≢false (sym (all refl)))
      go false t u all q = bad (far a)

  -- so a memory is read as it was
  pub alike : (m : List ℕ) → length m ≡ len → Alike (unbounded order no_table len) thrown_before m (reading_before order m)
  unfolding fetch_of fetch_byte_of fetch_before fetch_byte_before exception_of
  alike m long =
      record {
        cells = λ access a. rw long (reads _ (same_place one_cell access a));
        bytes = λ a. rw long (reads _ (same_place one_byte NamedRead a));
        range = λ a. refl;
        unaligned = λ a. refl;
        divisor = refl;
        illegal = refl;
        library = refl;
      }
