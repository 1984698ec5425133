use mathlib.Core.Path.{◌≡◌}
use lib.ListN.{drop}
use Prim.Native.Nat.{◌+◌}
use Rattle.set_judging.specs.Members.{member_at, members_of}
use Rattle.set_judging.specs.Sharing.{end_by_size, shares_one}
use Rattle.set_sharing.proofs.shares_later.Given as goal

abbrev pub invariant-loop-j : goal.invariant-loop-j
invariant-loop-j l = shares_one end_by_size (member_at l.numbers l.i) (drop l.j (members_of l.numbers)) ≡ shares_one end_by_size (member_at l.numbers l.i) (drop (l.i + 1) (members_of l.numbers))
