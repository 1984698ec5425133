-- A sound machine stays sound through any number of cycles; and a start makes one.
use mathlib.Core.List.{List}
use Prim.Native.Nat.{ℕ, zero, suc, ◌%◌, ◌^◌, ◌<◌}
use native.Mathlib.Omega.{arith}
use Rattle.cell.specs.Memory.{Bytewise}
use Rattle.cell.proofs.MemoryLaws.{store_bytewise}
use Rattle.machine.specs.Commits.{Stepped, commit_of}
use Rattle.throws.specs.Throws.{CycleState}
use Rattle.machine.specs.declared.Machine.{Machine}
use Rattle.machine.specs.declared.Registers.{Registers}
use Rattle.machine.specs.declared.Step.{Step}
use Rattle.machine.specs.declared.Outcome.{Outcome}
use Rattle.machine.specs.declared.Outcome.TheVariants as outcome
use Rattle.machine.specs.declared.Ended.{Ended}
use Rattle.machine.specs.declared.Ended.TheVariants.{Went, Threw, Stopped}
use Rattle.instruction.specs.Plain.{plain_at}
use Rattle.instruction.specs.Taking.{taking_at, passed, onward}
use Rattle.instruction.specs.declared.OperandForm.{OperandForm}
use Rattle.instruction.specs.declared.OperandForm.TheVariants.{InCell, Immediate}
use Rattle.instruction.specs.declared.Instruction.{Instruction}
use Rattle.instruction.specs.Dispatch.{OperandClass, next, plain, taking, operand_class, taken, executed, execute_of, decode_of}
use Rattle.cycles.specs.Cycles.{shifted, cycle_of, advanced, advance, cycles_of}
use Rattle.processor_start.specs.Starting.{four_cells, start_of}
use Rattle.processor_laws.specs.Soundness.{Sound, SoundStepped, SoundState}
use Rattle.processor_laws.proofs.NumberBounds.{sum_below, asr8_below}
use Rattle.processor_laws.proofs.PlainBounds.{plain_bounded}
use Rattle.processor_laws.proofs.TakingBounds.{taking_at_bounded}
use Rattle.processor_laws.proofs.SoundLaws.{commit_sound, next_sound, finish_sound}

passed_sound : (form : OperandForm) (m : List ℕ) (r : Registers) → Sound m r → Sound m (passed form r).registers
passed_sound InCell m r s = record { bytes = s.bytes; ep = sum_below r.ep 4; a = s.a; sp = s.sp; rp = s.rp }
passed_sound Immediate m r s = s

onward_sound : (form : OperandForm) (m : List ℕ) (t : Step) (o : Outcome) → Sound m t.registers → Sound m (onward form t o).registers
onward_sound form m t outcome.Went s = passed_sound form m t.registers s
onward_sound form m t outcome.Next s = s
onward_sound form m t (outcome.Raise f) s = s
onward_sound form m t (outcome.Halt x) s = s
onward_sound form m t outcome.Throw s = s

taken_sound : (form : OperandForm) (s : Stepped) → SoundStepped s → SoundStepped (taken form s)
taken_sound form s h = onward_sound form s.memory s.step s.step.outcome h

module _ (machine : Machine) where
  executed_sound : (m : List ℕ) (r : Registers) (i : Instruction) (c : OperandClass) → Sound m r → SoundStepped (executed machine m r i c)
  executed_sound m r i next s = s
  executed_sound m r i plain s =
      commit_sound machine m r (plain_at machine i m r)
      (plain_bounded machine m s.bytes r.ep r.sp r.rp s.sp s.rp i)
      s
  executed_sound m r i (taking form t) s =
      taken_sound form (commit_of machine m r (taking_at machine form t m r))
      (commit_sound machine m r (taking_at machine form t m r) (taking_at_bounded machine form t m r s) s)

  pub execute_sound : (m : List ℕ) (r : Registers) (i : Instruction) → Sound m r → SoundStepped (execute_of machine m r i)
  unfolding execute_of
  execute_sound m r i s = executed_sound m r i (operand_class i) s

  pub cycle_stays_sound : (m : List ℕ) (r : Registers) → Sound m r → SoundState (cycle_of machine m r)
  unfolding cycle_of
  cycle_stays_sound m r s =
      finish_sound machine (execute_of machine m (shifted r) (decode_of (r.a % 256)))
      (execute_sound m (shifted r) (decode_of (r.a % 256))
      (record { bytes = s.bytes; ep = s.ep; a = asr8_below r.a s.a; sp = s.sp; rp = s.rp }))

  advanced_sound : (s : CycleState) (e : Ended) → SoundState s → SoundState (advanced machine s e)
  advanced_sound s Went h = cycle_stays_sound s.memory s.result.registers h
  advanced_sound s (Threw f) h = cycle_stays_sound s.memory s.result.registers h
  advanced_sound s (Stopped x) h = h

  pub advance_stays_sound : (s : CycleState) → SoundState s → SoundState (advance machine s)
  unfolding advance
  advance_stays_sound s h = advanced_sound s s.result.ended h

  pub cycles_stay_sound : (n : ℕ) (s : CycleState) → SoundState s → SoundState (cycles_of machine n s)
  unfolding cycles_of
  cycles_stay_sound zero s h = h
  cycles_stay_sound (suc n) s h = cycles_stay_sound n (advance machine s) (advance_stays_sound s h)

  -- a start on a memory of bytes, with cells for EP, SP and RP
  pub start_is_sound : (m : List ℕ) (ep handler sp rp : ℕ) → Bytewise m → ep < 2 ^ 32 → sp < 2 ^ 32 → rp < 2 ^ 32
      → SoundState (start_of machine m ep handler sp rp)
  unfolding start_of
  start_is_sound m ep handler sp rp b h s r =
      next_sound machine (four_cells machine m handler) _
      (record {
        bytes =
            store_bytewise machine.order _ _ _
            (store_bytewise machine.order _ _ _ (store_bytewise machine.order _ _ _ (store_bytewise machine.order m _ _ b)));
        ep = h;
        a = omega arith;
        sp = s;
        rp = r;
      })
