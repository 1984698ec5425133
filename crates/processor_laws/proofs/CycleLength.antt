-- Memory keeps its length through any number of cycles, whatever the machine does in them.
use mathlib.Core.Path.{◌≡◌, refl, ◌∙◌}
use mathlib.Core.List.{List}
use Prim.Native.Nat.{ℕ, zero, suc, ◌%◌}
use lib.ListN.{length}
use Rattle.throws.specs.Throws.{CycleState}
use Rattle.machine.specs.declared.Machine.{Machine}
use Rattle.machine.specs.declared.Registers.{Registers}
use Rattle.machine.specs.declared.Ended.{Ended}
use Rattle.machine.specs.declared.Ended.TheVariants.{Went, Threw, Stopped}
use Rattle.instruction.specs.Plain.{plain_at}
use Rattle.instruction.specs.Taking.{taking_at}
use Rattle.instruction.specs.declared.Instruction.{Instruction}
use Rattle.instruction.specs.Dispatch.{OperandClass, next, plain, taking, operand_class, executed, execute_of, decode_of}
use Rattle.cycles.specs.Cycles.{shifted, cycle_of, advanced, advance, cycles_of}
use Rattle.length_laws.proofs.LengthLaws.{commit_length, finish_length}

module _ (machine : Machine) where
  executed_length : (m : List ℕ) (r : Registers) (i : Instruction) (c : OperandClass) → length (executed machine m r i c).memory ≡ length m
  executed_length m r i next = refl
  executed_length m r i plain = commit_length machine m r (plain_at machine i m r)
  executed_length m r i (taking form t) = commit_length machine m r (taking_at machine form t m r)

  pub execute_length : (m : List ℕ) (r : Registers) (i : Instruction) → length (execute_of machine m r i).memory ≡ length m
  unfolding execute_of
  execute_length m r i = executed_length m r i (operand_class i)

  pub cycle_keeps_length : (m : List ℕ) (r : Registers) → length (cycle_of machine m r).memory ≡ length m
  unfolding cycle_of
  cycle_keeps_length m r = finish_length machine _ ∙ execute_length m (shifted r) (decode_of (r.a % 256))

  advanced_length : (s : CycleState) (e : Ended) → length (advanced machine s e).memory ≡ length s.memory
  advanced_length s Went = cycle_keeps_length s.memory s.result.registers
  advanced_length s (Threw f) = cycle_keeps_length s.memory s.result.registers
  advanced_length s (Stopped x) = refl

  pub advance_keeps_length : (s : CycleState) → length (advance machine s).memory ≡ length s.memory
  unfolding advance
  advance_keeps_length s = advanced_length s s.result.ended

  pub cycles_keep_length : (n : ℕ) (s : CycleState) → length (cycles_of machine n s).memory ≡ length s.memory
  unfolding cycles_of
  cycles_keep_length zero s = refl
  cycles_keep_length (suc n) s = cycles_keep_length n (advance machine s) ∙ advance_keeps_length s
