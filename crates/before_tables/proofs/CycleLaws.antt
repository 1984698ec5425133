-- Cycles, the cycles of a budget, and a start leave what they left.
use mathlib.Core.Path.{◌≡◌, refl}
use mathlib.Core.List.{List}
use Prim.Native.Nat.{ℕ, zero, suc, ◌%◌}
use Rattle.throws.specs.Throws.{CycleState}
use Rattle.machine.specs.declared.Registers.{Registers}
use Rattle.machine.specs.declared.Ended.{Ended}
use Rattle.machine.specs.declared.Ended.TheVariants.{Went, Threw, Stopped}
use Rattle.areas.specs.declared.Areas.{Areas}
use Rattle.instruction.specs.Dispatch.{OperandClass, next, plain, taking, operand_class, decode_of, executed, execute_of}
use Rattle.instruction.specs.declared.Instruction.{Instruction}
use Rattle.cycles.specs.Cycles.{shifted, cycle_of, advanced, advance, cycles_of}
use Rattle.cycles.specs.Counts.{done_of}
use Rattle.processor_start.specs.Starting.{start_of}
use Rattle.before_tables.specs.Throws.{exception_before}
use Rattle.before_tables.specs.Cycles.{executed_before, cycle_before, advanced_before, advance_before, cycles_before, done_before, start_before}
use Rattle.before_tables.specs.Claims.{Taken, untabled, before, SameStart, SameCycle, SameCycles, SameDone}
use Rattle.before_tables.proofs.PlainLaws.{same_plain}
use Rattle.before_tables.proofs.TakingLaws.{same_taking_at}
use Rattle.before_tables.proofs.PlaceLaws.{alike}
use Rattle.before_tables.proofs.CommitLaws.{Steps, takes, same_commit}
use Rattle.before_tables.proofs.CommitLaws as steps
use Rattle.before_tables.proofs.ThrowLaws.{next_same, same_finish}

module _ (order len : ℕ) (areas : Areas) (taken : Taken order len areas) where
  executes : (m : List ℕ) (r : Registers) (i : Instruction) (c : OperandClass)
      → Steps (untabled order len areas) (exception_before (before order len areas)) (executed (untabled order len areas) m r i c)
      (executed_before (before order len areas) m r i c)
  executes m r i next = steps.next
  executes m r i plain = same_commit order len areas taken m r (same_plain (alike order len areas taken m) r.ep r.sp r.rp i)
  executes m r i (taking form t) = takes form (same_commit order len areas taken m r (same_taking_at (alike order len areas taken m) form t r))

  one_cycle : (m : List ℕ) (r : Registers) → cycle_of (untabled order len areas) m r ≡ cycle_before (before order len areas) m r
  unfolding cycle_of execute_of cycle_before
  one_cycle m r =
      let i : Instruction = decode_of (r.a % 256) in
      same_finish order len areas taken (executes m (shifted r) i (operand_class i))

  advances : (s : CycleState) (e : Ended) → advanced (untabled order len areas) s e ≡ advanced_before (before order len areas) s e
  advances s Went = one_cycle s.memory s.result.registers
  advances s (Threw e) = one_cycle s.memory s.result.registers
  advances s (Stopped x) = refl

  same_advance : (s : CycleState) → advance (untabled order len areas) s ≡ advance_before (before order len areas) s
  unfolding advance advance_before
  same_advance s = advances s s.result.ended

  cycles : (n : ℕ) (s : CycleState) → cycles_of (untabled order len areas) n s ≡ cycles_before (before order len areas) n s
  unfolding cycles_of cycles_before
  cycles zero s = refl
  cycles (suc n) s = rw (← same_advance s) (cycles n (advance (untabled order len areas) s))

  done : (b : ℕ) (s : CycleState) → done_of (untabled order len areas) b s ≡ done_before (before order len areas) b s
  unfolding done_of done_before
  done zero s = refl
  done (suc b) s = rw (← same_advance s, done b (advance (untabled order len areas) s))

pub same_start : SameStart
unfolding start_of start_before
same_start order len areas t m ep handler sp rp = next_same order len areas t _ _

pub same_cycle : SameCycle
same_cycle order len areas t m r = one_cycle order len areas t m r

pub same_cycles : SameCycles
same_cycles order len areas t n s = cycles order len areas t n s

pub same_done : SameDone
same_done order len areas t budget s = done order len areas t budget s
