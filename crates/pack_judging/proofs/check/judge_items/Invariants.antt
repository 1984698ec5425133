use lib.ListN.{length}
use Rattle.pack_layout.specs.Listing.{listed, judged_from}
use mathlib.Core.Path.{◌≡◌}
use Prim.Native.Nat.{◌-◌}
use Rattle.pack_judging.proofs.check.judge_items.Given as goal

abbrev pub invariant-loop-i : goal.invariant-loop-i
invariant-loop-i l = judged_from (listed l.kinds l.operands) (l.n - l.i) l.i ≡ judged_from (listed l.kinds l.operands) (length l.kinds) 0
