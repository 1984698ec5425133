use mathlib.Core.Path.{◌≡◌}
use lib.ListN.{drop}
use Rattle.set_judging.specs.Members.{members_of}
use Rattle.set_judging.specs.Sharing.{end_by_size, sharing}
use Rattle.set_sharing.proofs.is_sharing.Given as goal

abbrev pub invariant-loop-i : goal.invariant-loop-i
invariant-loop-i l = sharing end_by_size (drop l.i (members_of l.numbers)) ≡ sharing end_by_size (members_of l.numbers)
