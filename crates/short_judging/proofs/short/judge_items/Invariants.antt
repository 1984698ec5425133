use mathlib.Core.Path.{◌≡◌}
use Prim.Native.Nat.{◌-◌, ◌≤◌}
use Rattle.cell.specs.Refusals.{after}
use Rattle.pack_layout.specs.Listing.{judged_from}
use Rattle.short_judging.specs.ShortFile.{short_kind, short_listing}
use Rattle.short_judging.specs.Operands.{operands_before}
use Rattle.short_judging.proofs.short.judge_items.Given as goal

abbrev pub invariant-loop-i : goal.invariant-loop-i
invariant-loop-i l = (l.k ≡ operands_before (short_kind l.file) l.i) × (l.k ≤ l.m) × (after l.first (judged_from (short_listing l.file) (l.n - l.i) l.i) ≡ judged_from (short_listing l.file) l.n 0)
