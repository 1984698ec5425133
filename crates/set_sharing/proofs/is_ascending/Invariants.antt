use mathlib.Core.Path.{◌≡◌}
use lib.ListN.{drop}
use Rattle.set_judging.specs.Members.{members_of}
use Rattle.set_judging.specs.Sharing.{end_by_size, ascending_from}
use Rattle.set_sharing.proofs.is_ascending.Given as goal

abbrev pub invariant-loop-k : goal.invariant-loop-k
invariant-loop-k l = ascending_from end_by_size l.end (drop l.k (members_of l.numbers)) ≡ ascending_from end_by_size 0 (members_of l.numbers)
