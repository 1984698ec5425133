-- A cycle, and any number of them.
use Rattle.std.specs.Prelude.{List, ℕ, zero, suc, ◌%◌}
use Rattle.cell.specs.Shift.{asr8}
use Rattle.throws.specs.Throws.{CycleState, finish_of}
use Rattle.machine.specs.declared.Machine.{Machine}
use Rattle.machine.specs.declared.Registers.{Registers}
use Rattle.machine.specs.declared.Ended.{Ended}
use Rattle.machine.specs.declared.Ended.TheVariants.{Went, Threw, Stopped}
use Rattle.instruction.specs.Dispatch.{decode_of, execute_of}

-- document 01, The processor: a cycle takes the low byte of A as its opcode, and A goes on one byte down, with its sign
abbrev pub shifted : Registers → Registers
shifted r = record { ep = r.ep; a = asr8 r.a; sp = r.sp; rp = r.rp }

unfoldable pub cycle_of : Machine → List ℕ → Registers → CycleState
cycle_of machine m r = finish_of machine (execute_of machine m (shifted r) (decode_of (r.a % 256)))

-- one cycle more; a stop stays
abbrev pub advanced : Machine → CycleState → Ended → CycleState
advanced machine s Went = cycle_of machine s.memory s.result.registers
advanced machine s (Threw f) = cycle_of machine s.memory s.result.registers
advanced machine s (Stopped x) = s

unfoldable pub advance : Machine → CycleState → CycleState
advance machine s = advanced machine s s.result.ended

-- n cycles
unfoldable pub cycles_of : Machine → ℕ → CycleState → CycleState
cycles_of machine zero s = s
cycles_of machine (suc n) s = cycles_of machine n (advance machine s)
