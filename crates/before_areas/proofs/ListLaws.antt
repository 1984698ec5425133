-- An item of the list machine comes to what it came to, and so does a run.
use Rattle.cell.specs.Place.{Checked}
use mathlib.Core.Path.{◌≡◌, refl, ◌∙◌}
use Prim.Native.Nat.{ℕ, zero, suc}
use lib.ListN.{length}
use Rattle.cell.specs.Number.{difference}
use Rattle.cell.specs.Refusals.{Lent}
use Rattle.cell.specs.declared.Fault.{Fault}
use Rattle.machine.specs.Places.{one_cell, no_table, unbounded}
use Rattle.exceptions.specs.Exceptions.{exception_of}
use Rattle.machine.specs.Effects.{Control, go_on, jump, halt, throwing, Action, Effect}
use Rattle.machine.specs.Commits.{touches}
use Rattle.throws.specs.Throws.{CycleState}
use Rattle.machine.specs.declared.Machine.{Machine}
use Rattle.machine.specs.declared.Registers.{Registers}
use Rattle.machine.specs.declared.Access.TheVariants.{Push}
use Rattle.instruction.specs.Dispatch.{OperandClass, next, plain, taking, operand_class, decode_of}
use Rattle.pack_layout.specs.Listing.{Listing}
use Rattle.pack_layout.specs.Packing.{ep_value, behind}
use Rattle.list_machine.specs.ListMachine.{Position, push_of, effect_as, thrown, followed, acted, carried_by, carry_out}
use Rattle.list_machine.specs.Runs.{Course, goes_on, stopped_by, stood_outside, Run, further_in, further, run_of}
use Rattle.list_machine.proofs.Lengths.{run_long}
use Rattle.before_tables.specs.Items.{registers_at_before, acted_to_before}
use Rattle.before_tables.proofs.EffectLaws.{Told, Judges, good, bad, cell, Asks, acts, raises}
use Rattle.before_tables.proofs.PlainLaws.{same_plain}
use Rattle.before_tables.proofs.TakingLaws.{same_taking}
use Rattle.before_tables.proofs.ItemLaws.{operands, handles, acted_same, furthers}
use Rattle.before_areas.specs.Throws.{thrown_before, throw_before, throwing_before}
use Rattle.before_areas.specs.Lists.{push_before, effect_as_before, raised_before, followed_before, acted_before, carried_by_before, carry_before, further_in_before, run_before}
use Rattle.before_areas.specs.Claims.{SameRun}
use Rattle.before_areas.proofs.PlaceLaws.{same_place, alike}
use Rattle.before_areas.proofs.CommitLaws.{same_places}
use Rattle.before_areas.proofs.ThrowLaws.{same_throw, same_throwing}

-- what the push of a throw meets does not depend on its code
push_meets : (machine : Machine) (lo hi a : ℕ) (g : Fault) {c d : Checked} → Judges machine thrown_before c d
    → touches lo hi (push_of a (thrown_before g) c) ≡ touches lo hi (push_before a g d)
unfolding touches
push_meets machine lo hi a g good = refl
push_meets machine lo hi a g (bad t) = refl

module _ (order base : ℕ) (l : Listing) (len : ℕ) (lent : Lent len) where
  asks : (p : Position) → length p.memory ≡ len → (c : OperandClass)
      → Asks (unbounded order no_table len) thrown_before (effect_as (unbounded order no_table len) base l c p) (effect_as_before order base l c p)
  asks p long next = raises (alike order len lent p.memory long).illegal
  asks p long plain =
      same_plain (alike order len lent p.memory long) (ep_value base l p.item) p.sp p.rp (decode_of (l.kind p.item))
  asks p long (taking form t) =
      rw (operands (unbounded order no_table len) base l p.item t)
      (same_taking (alike order len lent p.memory long) p.sp p.rp (behind base l p.item) cell t)

  same_raise : (p : Position) → length p.memory ≡ len → (f g : Fault) → Told (unbounded order no_table len) thrown_before f g
      → thrown (unbounded order no_table len) base l p (exception_of (unbounded order no_table len) f)
      ≡ raised_before order base l p g
  same_raise p long f g t =
      let r : Registers = registers_at_before order base l p in
      let left : CycleState = throw_before order p.memory r g in
      rw (
        long,
        t,
        push_meets (unbounded order no_table len) _ _ _ g (same_place order len lent one_cell Push (difference p.sp 4)),
        same_throw order len lent p.memory long r g,
        handles (unbounded order no_table len) base l p left left.result.ended,
      )

  follows : (c : Control) (p : Position) → followed (unbounded order no_table len) base l c p ≡ followed_before order base l c p
  follows go_on p = refl
  follows (jump a) p = refl
  follows (halt x) p = refl
  follows throwing p =
      let r : Registers = registers_at_before order base l p in
      let left : CycleState = throwing_before order p.memory r in
      rw (same_throwing (unbounded order no_table len) p.memory r) (handles (unbounded order no_table len) base l p left left.result.ended)

  acting : (p : Position) → length p.memory ≡ len → (x : Action) {c d : Checked} → Judges (unbounded order no_table len) thrown_before c d
      → acted (unbounded order no_table len) base l p x c ≡ acted_before order base l p x d
  acting p long x good =
      rw (acted_same (unbounded order no_table len) base l p x, follows x.control (acted_to_before order base l p x))
  acting p long x (bad {f} {g} t) = same_raise p long f g t

  carries : (p : Position) → length p.memory ≡ len → {e f : Effect} → Asks (unbounded order no_table len) thrown_before e f
      → carried_by (unbounded order no_table len) base l p e ≡ carried_by_before order base l p f
  carries p long (acts {x} n) = rw long (acting p long x (same_places order len lent x.stores))
  carries p long (raises {f} {g} t) = same_raise p long f g t

  same_carry : (p : Position) → length p.memory ≡ len → carry_out (unbounded order no_table len) base l p ≡ carry_before order base l p
  unfolding carry_out carry_before
  same_carry p long = carries p long (asks p long (operand_class (decode_of (l.kind p.item))))

  further_in_lem : (s : Run) → length s.position.memory ≡ len → (c : Course)
      → further_in (unbounded order no_table len) base l s c ≡ further_in_before order base l s c
  further_in_lem s long goes_on = rw (same_carry s.position long) (furthers (unbounded order no_table len) base l s (carry_before order base l s.position))
  further_in_lem s long (stopped_by x) = refl
  further_in_lem s long (stood_outside why) = refl

  runs : (k : ℕ) (s : Run) → length s.position.memory ≡ len → run_of (unbounded order no_table len) base l k s ≡ run_before order base l k s
  unfolding run_of further run_before
  runs zero s long = refl
  runs (suc k) s long =
      let t : Run = run_of (unbounded order no_table len) base l k s in
      rw (← runs k s long) (further_in_lem t (run_long (unbounded order no_table len) base l k s ∙ long) t.course)

pub same_run : SameRun
same_run order base l k s lent = runs order base l (length s.position.memory) lent k s refl
