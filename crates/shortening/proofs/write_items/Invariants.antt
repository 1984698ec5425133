use mathlib.Core.Path.{◌≡◌}
use Prim.Native.Nat.{◌+◌, ◌*◌}
use Rattle.pack_layout.specs.File.{filed}
use Rattle.short_judging.specs.Operands.{operands_before}
use Rattle.short_files.proofs.Items.{shortening}
use Rattle.shortening.proofs.write_items.Given as goal

abbrev pub invariant-loop-i : goal.invariant-loop-i
invariant-loop-i l = (l.at ≡ 12 + l.n + 4 * operands_before (filed l.file).kind l.i) × (l.output ≡ shortening l.file l.initial.output l.n l.i)
