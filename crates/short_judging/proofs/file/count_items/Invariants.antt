use mathlib.Core.Path.{◌≡◌}
use Prim.Native.Nat.{◌-◌}
use Rattle.pack_layout.specs.Listing.{judged_from}
use Rattle.pack_layout.specs.File.{filed}
use Rattle.short_judging.specs.Operands.{operands_before}
use Rattle.short_judging.proofs.file.count_items.Given as goal

abbrev pub invariant-loop-i : goal.invariant-loop-i
invariant-loop-i l = (l.m ≡ operands_before (filed l.file).kind l.i) × (judged_from (filed l.file) (l.n - l.i) l.i ≡ judged_from (filed l.file) l.n 0)
