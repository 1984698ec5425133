-- An item of the list machine comes to what it came to, and so does a run.
use Rattle.cell.specs.Place.{Checked}
use mathlib.Core.Path.{◌≡◌, refl}
use Prim.Native.Nat.{ℕ, zero, suc}
use lib.ListN.{length}
use Rattle.cell.specs.Number.{difference}
use Rattle.cell.specs.declared.Fault.{Fault}
use Rattle.machine.specs.Places.{one_cell}
use Rattle.exceptions.specs.Exceptions.{exception_of}
use Rattle.machine.specs.Effects.{Control, go_on, jump, halt, throwing, Action, Effect}
use Rattle.throws.specs.Throws.{CycleState}
use Rattle.machine.specs.declared.Machine.{Machine}
use Rattle.machine.specs.declared.Registers.{Registers}
use Rattle.machine.specs.declared.Access.TheVariants.{Push}
use Rattle.machine.specs.declared.Exception.{Exception}
use Rattle.areas.specs.declared.Areas.{Areas}
use Rattle.instruction.specs.Dispatch.{OperandClass, next, plain, taking, operand_class, decode_of}
use Rattle.pack_layout.specs.Listing.{Listing}
use Rattle.pack_layout.specs.Packing.{ep_value, behind}
use Rattle.list_machine.specs.ListMachine.{Position, push_of, effect_as, thrown, followed, acted, carried_by, carry_out}
use Rattle.list_machine.specs.Runs.{Course, goes_on, stopped_by, stood_outside, Run, further_in, further, run_of}
use Rattle.before_tables.specs.Throws.{exception_before, throw_before, throwing_before}
use Rattle.before_tables.specs.Items.{registers_at_before, acted_to_before}
use Rattle.before_tables.specs.Lists.{push_before, effect_as_before, thrown_before, followed_before, acted_before, carried_by_before, carry_before, further_in_before, run_before}
use Rattle.before_tables.specs.Claims.{Taken, untabled, before, SameCarry, SameRun}
use Rattle.before_tables.proofs.EffectLaws.{Told, Judges, good, bad, cell, Asks, acts, raises}
use Rattle.before_tables.proofs.PlainLaws.{same_plain}
use Rattle.before_tables.proofs.TakingLaws.{same_taking}
use Rattle.before_tables.proofs.PlaceLaws.{judged_same, alike}
use Rattle.before_tables.proofs.CommitLaws.{same_places}
use Rattle.before_tables.proofs.ThrowLaws.{throw_same, same_throwing}
use Rattle.before_tables.proofs.ItemLaws.{operands, handles, acted_same, furthers}

-- a throw pushes where it did
push_same : {machine : Machine} {before : Fault → Exception} {c d : Checked} (a : ℕ) (e : Exception)
    → Judges machine before c d → push_of a e c ≡ push_before a e d
push_same a e good = refl
push_same a e (bad t) = refl

module _ (order len : ℕ) (areas : Areas) (taken : Taken order len areas) (base : ℕ) (l : Listing) where
  asks : (p : Position) (c : OperandClass)
      → Asks (untabled order len areas) (exception_before (before order len areas)) (effect_as (untabled order len areas) base l c p)
      (effect_as_before (before order len areas) base l c p)
  asks p next = raises (alike order len areas taken p.memory).illegal
  asks p plain =
      same_plain (alike order len areas taken p.memory) (ep_value base l p.item) p.sp p.rp (decode_of (l.kind p.item))
  asks p (taking form t) =
      rw (operands (untabled order len areas) base l p.item t)
      (same_taking (alike order len areas taken p.memory) p.sp p.rp (behind base l p.item) cell t)

  same_thrown : (p : Position) (e : Exception) → thrown (untabled order len areas) base l p e ≡ thrown_before (before order len areas) base l p e
  same_thrown p e =
      let sp : ℕ = difference p.sp 4 in
      let r : Registers = registers_at_before order base l p in
      let left : CycleState = throw_before (before order len areas) p.memory r e in
      rw (
        push_same sp e (judged_same order len areas taken (length p.memory) sp one_cell Push refl),
        throw_same order len areas taken p.memory r e,
        handles (untabled order len areas) base l p left left.result.ended,
      )

  follows : (c : Control) (p : Position) → followed (untabled order len areas) base l c p ≡ followed_before (before order len areas) base l c p
  follows go_on p = refl
  follows (jump a) p = refl
  follows (halt x) p = refl
  follows throwing p =
      let r : Registers = registers_at_before order base l p in
      let left : CycleState = throwing_before (before order len areas) p.memory r in
      rw (same_throwing order len areas taken p.memory r) (handles (untabled order len areas) base l p left left.result.ended)

  raising : (p : Position) (f g : Fault) → Told (untabled order len areas) (exception_before (before order len areas)) f g
      → thrown (untabled order len areas) base l p (exception_of (untabled order len areas) f)
      ≡ thrown_before (before order len areas) base l p (exception_before (before order len areas) g)
  raising p f g u = rw u (same_thrown p (exception_before (before order len areas) g))

  acting : (p : Position) (x : Action) {c d : Checked} → Judges (untabled order len areas) (exception_before (before order len areas)) c d
      → acted (untabled order len areas) base l p x c ≡ acted_before (before order len areas) base l p x d
  acting p x good =
      rw (acted_same (untabled order len areas) base l p x, follows x.control (acted_to_before order base l p x))
  acting p x (bad {f} {g} u) = raising p f g u

  carries : (p : Position) {e f : Effect} → Asks (untabled order len areas) (exception_before (before order len areas)) e f
      → carried_by (untabled order len areas) base l p e ≡ carried_by_before (before order len areas) base l p f
  carries p (acts {x} n) = acting p x (same_places order len areas taken (length p.memory) x.stores n)
  carries p (raises {f} {g} u) = raising p f g u

  carry_same : (p : Position) → carry_out (untabled order len areas) base l p ≡ carry_before (before order len areas) base l p
  unfolding carry_out carry_before
  carry_same p = carries p (asks p (operand_class (decode_of (l.kind p.item))))

  further_in_lem : (s : Run) (c : Course) → further_in (untabled order len areas) base l s c ≡ further_in_before (before order len areas) base l s c
  further_in_lem s goes_on =
      rw (carry_same s.position) (furthers (untabled order len areas) base l s (carry_before (before order len areas) base l s.position))
  further_in_lem s (stopped_by x) = refl
  further_in_lem s (stood_outside why) = refl

  runs : (k : ℕ) (s : Run) → run_of (untabled order len areas) base l k s ≡ run_before (before order len areas) base l k s
  unfolding run_of further run_before
  runs zero s = refl
  runs (suc k) s =
      let t : Run = run_of (untabled order len areas) base l k s in
      rw (← runs k s) (further_in_lem t t.course)

pub same_carry : SameCarry
same_carry order len areas t base l p = carry_same order len areas t base l p

pub same_run : SameRun
same_run order len areas t base l k s = runs order len areas t base l k s
