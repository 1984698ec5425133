-- What of the list machine does not hang on a place is as it was.
use mathlib.Core.Path.{◌≡◌, refl}
use Prim.Native.Nat.{ℕ}
use Rattle.machine.specs.Effects.{Action}
use Rattle.throws.specs.Throws.{CycleState}
use Rattle.machine.specs.declared.Machine.{Machine}
use Rattle.machine.specs.declared.Ended.{Ended}
use Rattle.machine.specs.declared.Ended.TheVariants.{Went, Threw, Stopped}
use Rattle.instruction.specs.Taking.{Taking, branch, question_branch, call, loop, plus_loop, literal}
use Rattle.pack_layout.specs.Listing.{Listing}
use Rattle.list_machine.specs.ListMachine.{Position, Carried, on, stopped, outside, operand_at, handled_by, acted_to}
use Rattle.list_machine.specs.Runs.{Run, further_by}
use Rattle.before_tables.specs.Items.{operand_at_before, handled_by_before, acted_to_before, further_by_before}
use Rattle.before_tables.proofs.CommitLaws.{same_stored}

module _ (machine : Machine) (base : ℕ) (l : Listing) where
  pub operands : (i : ℕ) (t : Taking) → operand_at machine base l i t ≡ operand_at_before machine.order base l i t
  operands i literal = refl
  operands i branch = refl
  operands i question_branch = refl
  operands i call = refl
  operands i loop = refl
  operands i plus_loop = refl

  pub handles : (p : Position) (t : CycleState) (e : Ended) → handled_by machine base l p t e ≡ handled_by_before machine.order base l p t e
  handles p t Went = refl
  handles p t (Threw e) = refl
  handles p t (Stopped x) = refl

  pub acted_same : (p : Position) (x : Action) → acted_to machine p x ≡ acted_to_before machine.order base l p x
  acted_same p x = rw (same_stored machine p.memory x.stores)

  pub furthers : (s : Run) (c : Carried) → further_by machine base l s c ≡ further_by_before machine.order base l s c
  furthers s (on p) = refl
  furthers s (stopped x p) = refl
  furthers s (outside why) = refl
