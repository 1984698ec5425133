-- Cycles, the cycles of a budget, and a start leave what they left.
use mathlib.Core.Path.{◌≡◌, refl, ◌∙◌}
use mathlib.Core.List.{List}
use Prim.Native.Nat.{ℕ, zero, suc, ◌%◌}
use lib.ListN.{length}
use Rattle.cell.specs.Refusals.{Lent}
use Rattle.cell.proofs.MemoryLaws.{store_length}
use Rattle.machine.specs.Places.{no_table, unbounded}
use Rattle.throws.specs.Throws.{CycleState}
use Rattle.machine.specs.declared.Registers.{Registers}
use Rattle.machine.specs.declared.Ended.{Ended}
use Rattle.machine.specs.declared.Ended.TheVariants.{Went, Threw, Stopped}
use Rattle.instruction.specs.Dispatch.{OperandClass, next, plain, taking, operand_class, decode_of, executed, execute_of}
use Rattle.instruction.specs.declared.Instruction.{Instruction}
use Rattle.cycles.specs.Cycles.{shifted, cycle_of, advanced, advance, cycles_of}
use Rattle.cycles.specs.Counts.{begun, done_of}
use Rattle.processor_start.specs.Starting.{start_of}
use Rattle.processor_laws.proofs.CycleLength.{execute_length, advance_keeps_length}
use Rattle.before_tables.proofs.PlainLaws.{same_plain}
use Rattle.before_tables.proofs.TakingLaws.{same_taking_at}
use Rattle.before_tables.proofs.CommitLaws.{Steps, takes}
use Rattle.before_tables.proofs.CommitLaws as steps
use Rattle.before_areas.specs.Throws.{thrown_before}
use Rattle.before_areas.specs.Cycles.{executed_before, cycle_before, advanced_before, advance_before, cycles_before, done_before, start_before}
use Rattle.before_areas.specs.Claims.{SameCycle, SameCycles, SameDone, SameStart}
use Rattle.before_areas.proofs.PlaceLaws.{alike}
use Rattle.before_areas.proofs.CommitLaws.{same_commit}
use Rattle.before_areas.proofs.ThrowLaws.{same_next, same_finish}

module _ (order len : ℕ) (lent : Lent len) where
  module _ (m : List ℕ) (long : length m ≡ len) (r : Registers) where
    executes : (i : Instruction) (c : OperandClass)
        → Steps (unbounded order no_table len) thrown_before (executed (unbounded order no_table len) m r i c) (executed_before order m r i c)
    executes i next = steps.next
    executes i plain = same_commit order len lent m r long (same_plain (alike order len lent m long) r.ep r.sp r.rp i)
    executes i (taking form t) = takes form (same_commit order len lent m r long (same_taking_at (alike order len lent m long) form t r))

  pub one_cycle : (m : List ℕ) → length m ≡ len → (r : Registers) → cycle_of (unbounded order no_table len) m r ≡ cycle_before order m r
  unfolding cycle_of execute_of cycle_before
  one_cycle m long r =
      let i : Instruction = decode_of (r.a % 256) in
      same_finish order len lent (execute_length (unbounded order no_table len) m (shifted r) i ∙ long) (executes m long (shifted r) i (operand_class i))

  advances : (s : CycleState) → length s.memory ≡ len → (e : Ended) → advanced (unbounded order no_table len) s e ≡ advanced_before order s e
  advances s long Went = one_cycle s.memory long s.result.registers
  advances s long (Threw e) = one_cycle s.memory long s.result.registers
  advances s long (Stopped x) = refl

  same_advance : (s : CycleState) → length s.memory ≡ len → advance (unbounded order no_table len) s ≡ advance_before order s
  unfolding advance advance_before
  same_advance s long = advances s long s.result.ended

  cycles : (n : ℕ) (s : CycleState) → length s.memory ≡ len → cycles_of (unbounded order no_table len) n s ≡ cycles_before order n s
  unfolding cycles_of cycles_before
  cycles zero s long = refl
  cycles (suc n) s long =
      rw (← same_advance s long) (cycles n (advance (unbounded order no_table len) s) (advance_keeps_length (unbounded order no_table len) s ∙ long))

  done : (b : ℕ) (s : CycleState) → length s.memory ≡ len → done_of (unbounded order no_table len) b s ≡ done_before order b s
  unfolding done_of done_before
  done zero s long = refl
  done (suc b) s long =
      let t : CycleState = advance (unbounded order no_table len) s in
      rw (← same_advance s long, done b t (advance_keeps_length (unbounded order no_table len) s ∙ long))

pub same_cycle : SameCycle
same_cycle order m r lent = one_cycle order (length m) lent m refl r

pub same_cycles : SameCycles
same_cycles order n m r lent = cycles order (length m) lent n (begun m r) refl

pub same_done : SameDone
same_done order budget m r lent = done order (length m) lent budget (begun m r) refl

pub same_start : SameStart
unfolding start_of start_before
same_start order m ep handler lent = same_next order (length m) lent _ (simp store_length) _
