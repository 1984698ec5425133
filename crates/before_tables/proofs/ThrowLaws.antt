-- A throw, a NEXT and a stop leave what they left.
use Rattle.cell.specs.Place.{Checked, Fetched}
use mathlib.Core.Path.{◌≡◌, refl}
use mathlib.Core.List.{List}
use Prim.Native.Nat.{ℕ}
use lib.ListN.{length}
use Rattle.cell.specs.Number.{difference}
use Rattle.cell.specs.declared.Fault.{Fault}
use Rattle.machine.specs.Places.{one_cell}
use Rattle.exceptions.specs.Exceptions.{exception_of}
use Rattle.machine.specs.Commits.{Stepped}
use Rattle.throws.specs.Throws.{handed, noted, handler_of, pushed, throw_of, throwing_of, nexted, next_of, finish_of}
use Rattle.machine.specs.declared.Machine.{Machine}
use Rattle.machine.specs.declared.Registers.{Registers}
use Rattle.machine.specs.declared.Access.TheVariants.{Stream, Push}
use Rattle.machine.specs.declared.Exception.{Exception}
use Rattle.machine.specs.declared.Exception.TheVariants.{Range, Alignment, DataOverflow, DataUnderflow, ReturnOverflow, ReturnUnderflow, ReadOnly, Divisor, Illegal, Library}
use Rattle.machine.specs.declared.Ended.{Ended}
use Rattle.areas.specs.declared.Areas.{Areas}
use Rattle.before_tables.specs.Throws.{exception_before, noted_before, handler_before, pushed_before, throw_before, throwing_before, nexted_before, next_before, finish_before}
use Rattle.before_tables.specs.Claims.{Taken, untabled, before, SameThrow, SameNext}
use Rattle.before_tables.proofs.EffectLaws.{Told, Judges, good, bad, Fetches, cell, fails}
use Rattle.before_tables.proofs.PlaceLaws.{judged_same, alike}
use Rattle.before_tables.proofs.CommitLaws.{Steps, went, next, halted, threw, faults}

-- a handler is entered where its cell can be read
pub hands : {machine : Machine} {before : Fault → Exception} {g h : Fetched} (m : List ℕ) (r : Registers) (e : Ended) (a : ℕ)
    → Fetches machine before g h → handed m r e a g ≡ handed m r e a h
hands m r e a cell = refl
hands m r e a (fails t) = refl

notes : (machine : Machine) (m : List ℕ) (e : Exception) → noted machine m e ≡ noted_before machine.order m e
notes machine m (Range a) = refl
notes machine m (Alignment a) = refl
notes machine m DataOverflow = refl
notes machine m DataUnderflow = refl
notes machine m ReturnOverflow = refl
notes machine m ReturnUnderflow = refl
notes machine m ReadOnly = refl
notes machine m Divisor = refl
notes machine m Illegal = refl
notes machine m Library = refl

module _ (order len : ℕ) (areas : Areas) (t : Taken order len areas) where
  same_handler : (m : List ℕ) (r : Registers) (e : Ended) → handler_of (untabled order len areas) m r e ≡ handler_before (before order len areas) m r e
  unfolding handler_of handler_before
  same_handler m r e = hands _ r e _ ((alike order len areas t _).cells Stream _)

  pub same_throwing : (m : List ℕ) (r : Registers) → throwing_of (untabled order len areas) m r ≡ throwing_before (before order len areas) m r
  unfolding throwing_of throwing_before
  same_throwing m r = rw same_handler

  -- the push at a place that was judged
  pushes : (m : List ℕ) (r : Registers) (e : Exception) (sp : ℕ) {c d : Checked}
      → Judges (untabled order len areas) (exception_before (before order len areas)) c d
      → pushed (untabled order len areas) m r e sp c ≡ pushed_before (before order len areas) m r e sp d
  pushes m r e sp good = rw (notes (untabled order len areas) m e) (same_handler _ _ _)
  pushes m r e sp (bad u) = refl

  pub throw_same : (m : List ℕ) (r : Registers) (e : Exception) → throw_of (untabled order len areas) m r e ≡ throw_before (before order len areas) m r e
  unfolding throw_of throw_before
  throw_same m r e =
      let sp : ℕ = difference r.sp 4 in
      pushes m r e sp (judged_same order len areas t (length m) sp one_cell Push refl)

  -- what is told of a fault is thrown
  throws : (m : List ℕ) (r : Registers) (f g : Fault) → Told (untabled order len areas) (exception_before (before order len areas)) f g
      → throw_of (untabled order len areas) m r (exception_of (untabled order len areas) f)
      ≡ throw_before (before order len areas) m r (exception_before (before order len areas) g)
  throws m r f g u = rw u (throw_same m r (exception_before (before order len areas) g))

  nexts : (m : List ℕ) (r : Registers) {g h : Fetched} → Fetches (untabled order len areas) (exception_before (before order len areas)) g h
      → nexted (untabled order len areas) m r g ≡ nexted_before (before order len areas) m r h
  nexts m r cell = refl
  nexts m r (fails {f} {g} u) = throws m r f g u

  pub next_same : (m : List ℕ) (r : Registers) → next_of (untabled order len areas) m r ≡ next_before (before order len areas) m r
  unfolding next_of next_before
  next_same m r = nexts m r ((alike order len areas t m).cells Stream r.ep)

  -- the rest of a cycle
  pub same_finish : {s u : Stepped} → Steps (untabled order len areas) (exception_before (before order len areas)) s u
      → finish_of (untabled order len areas) s ≡ finish_before (before order len areas) u
  unfolding finish_of finish_before
  same_finish went = refl
  same_finish (next {m} {r}) = next_same m r
  same_finish halted = refl
  same_finish (threw {m} {r}) = same_throwing m r
  same_finish (faults {m} {r} {f} {g} u) = throws m r f g u

pub same_throw : SameThrow
same_throw order len areas t m r e = throw_same order len areas t m r e

pub same_next : SameNext
same_next order len areas t m r = next_same order len areas t m r
