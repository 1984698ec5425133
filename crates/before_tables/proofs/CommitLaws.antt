-- A commit makes the same step, but for the name of the fault that it raises.
use Rattle.cell.specs.Place.{Checked}
use mathlib.Core.Path.{◌≡◌, refl}
use mathlib.Core.Bool.{true}
use mathlib.Core.List.{List, [], ◌∷◌}
use Prim.Native.Nat.{ℕ}
use lib.ListN.{length}
use Rattle.cell.specs.declared.Fault.{Fault}
use Rattle.cell.proofs.BooleanLaws.{both_true}
use Rattle.machine.specs.Places.{Width, one_byte, one_cell}
use Rattle.machine.specs.Effects.{Store, Control, go_on, jump, halt, throwing, Action, Effect}
use Rattle.machine.specs.Commits.{places_of, put_store, stored_of, Stepped, stepped, controlled, carried_out, commit_of}
use Rattle.machine.specs.declared.Machine.{Machine}
use Rattle.machine.specs.declared.Registers.{Registers}
use Rattle.machine.specs.declared.Exception.{Exception}
use Rattle.machine.specs.declared.Outcome.{Outcome}
use Rattle.machine.specs.declared.Outcome.TheVariants.{Went, Next, Raise, Halt, Throw}
use Rattle.areas.specs.declared.Areas.{Areas}
use Rattle.instruction.specs.Dispatch.{taken}
use Rattle.instruction.specs.declared.OperandForm.{OperandForm}
use Rattle.instruction.specs.declared.OperandForm.TheVariants.{InCell, Immediate}
use Rattle.before_tables.specs.Commits.{places_before, put_before, stored_before, carried_before, commit_before}
use Rattle.before_tables.specs.Throws.{exception_before}
use Rattle.before_tables.specs.Claims.{Taken, untabled, before}
use Rattle.before_tables.proofs.EffectLaws.{Told, Judges, good, bad, named, all_named, Asks, acts, raises, firsts}
use Rattle.before_tables.proofs.PlaceLaws.{judged_same}

-- two steps: memory and registers are the same, and so is the outcome, but for the name of a fault
abbrev pub leaving : List ℕ → Registers → Outcome → Stepped
leaving m r o = stepped m (record { registers = r; outcome = o })

pub data Steps (machine : Machine) (before : Fault → Exception) : Stepped → Stepped → Type 0 where
  went : {m : List ℕ} {r : Registers} → Steps machine before (leaving m r Went) (leaving m r Went)
  next : {m : List ℕ} {r : Registers} → Steps machine before (leaving m r Next) (leaving m r Next)
  halted : {m : List ℕ} {r : Registers} {x : ℕ} → Steps machine before (leaving m r (Halt x)) (leaving m r (Halt x))
  threw : {m : List ℕ} {r : Registers} → Steps machine before (leaving m r Throw) (leaving m r Throw)
  faults : {m : List ℕ} {r : Registers} {f g : Fault} → Told machine before f g
      → Steps machine before (leaving m r (Raise f)) (leaving m r (Raise g))

module _ {machine : Machine} {before : Fault → Exception} where
  -- the operand of an instruction that was carried out is passed
  pub takes : {s t : Stepped} (form : OperandForm) → Steps machine before s t → Steps machine before (taken form s) (taken form t)
  takes InCell went = went
  takes Immediate went = next
  takes form next = next
  takes form halted = halted
  takes form threw = threw
  takes form (faults t) = faults t

  pub controls : (m : List ℕ) (c : Control) (r : Registers)
      → Steps machine before (stepped m (controlled c r)) (stepped m (controlled c r))
  controls m go_on r = went
  controls m (jump a) r = next
  controls m (halt x) r = halted
  controls m throwing r = threw

-- memory after the stores
put_same : (machine : Machine) (m : List ℕ) (w : Width) (a x : ℕ) → put_store machine m w a x ≡ put_before machine.order m w a x
put_same machine m one_byte a x = refl
put_same machine m one_cell a x = refl

pub same_stored : (machine : Machine) (m : List ℕ) (ss : List Store) → stored_of machine m ss ≡ stored_before machine.order m ss
unfolding stored_of stored_before
same_stored machine m [] = refl
same_stored machine m (s ∷ ss) = rw (put_same machine m s.width s.at s.value) (same_stored machine (put_before machine.order m s.width s.at s.value) ss)

-- an action whose places were judged
pub same_carried : {before : Fault → Exception} (machine : Machine) (m : List ℕ) (r : Registers) (x : Action) {c d : Checked} → Judges machine before c d
    → Steps machine before (carried_out machine m r x c) (carried_before machine.order m r x d)
same_carried machine m r x good = rw (same_stored machine m x.stores) (controls _ x.control _)
same_carried machine m r x (bad t) = faults t

module _ (order len : ℕ) (areas : Areas) (t : Taken order len areas) where
  pub same_places : (size : ℕ) (ss : List Store) → all_named ss ≡ true
      → Judges (untabled order len areas) (exception_before (before order len areas)) (places_of (untabled order len areas) size ss)
      (places_before (before order len areas) size ss)
  unfolding places_of places_before all_named
  same_places size [] n = good
  same_places size (s ∷ ss) n =
      let both : (named s.width s.access ≡ true) × (all_named ss ≡ true) = both_true _ _ n in
      firsts (judged_same order len areas t size s.at s.width s.access both.0) (same_places size ss both.1)

  pub same_commit : (m : List ℕ) (r : Registers) {e f : Effect} → Asks (untabled order len areas) (exception_before (before order len areas)) e f
      → Steps (untabled order len areas) (exception_before (before order len areas)) (commit_of (untabled order len areas) m r e)
      (commit_before (before order len areas) m r f)
  unfolding commit_of commit_before
  same_commit m r (acts {x} n) = same_carried (untabled order len areas) m r x (same_places (length m) x.stores n)
  same_commit m r (raises u) = faults u
