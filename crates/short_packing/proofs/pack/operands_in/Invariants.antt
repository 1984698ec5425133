use mathlib.Core.List.{[], ◌∷◌}
use mathlib.Core.Path.{◌≡◌}
use Prim.Native.Nat.{◌+◌, ◌*◌}
use lib.ListN.{length, take}
use Rattle.short_judging.specs.ShortFile.{short_kind, short_operand}
use Rattle.short_judging.specs.Operands.{operands_before, in_turn}
use Rattle.short_packing.proofs.pack.operands_in.Given as goal

abbrev pub invariant-loop-i : goal.invariant-loop-i
invariant-loop-i l = (length l.operands ≡ 4096) × (l.at ≡ 12 + l.n + 4 * operands_before (short_kind l.file) l.i) × (take l.i l.operands ≡ in_turn (λ j. short_operand l.file j ∷ []) l.i)
