use mathlib.Core.Path.{◌≡◌}
use Prim.Native.Nat.{◌+◌, ◌*◌}
use Rattle.short_judging.specs.ShortFile.{short_kind}
use Rattle.short_judging.specs.Operands.{operands_before}
use Rattle.short_files.proofs.Items.{lengthening}
use Rattle.lengthening.proofs.write_items.Given as goal

abbrev pub invariant-loop-i : goal.invariant-loop-i
invariant-loop-i l = (l.at ≡ 12 + l.n + 4 * operands_before (short_kind l.file) l.i) × (l.output ≡ lengthening l.file l.initial.output l.n l.i)
