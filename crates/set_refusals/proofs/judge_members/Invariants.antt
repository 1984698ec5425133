use mathlib.Core.Path.{◌≡◌}
use lib.ListN.{drop}
use Rattle.set_judging.specs.Members.{members_of}
use Rattle.set_judging.specs.Grounds.{judge_members}
use Rattle.set_refusals.proofs.judge_members.Given as goal

abbrev pub invariant-loop-k : goal.invariant-loop-k
invariant-loop-k l =
    judge_members l.length l.order l.buffer (drop l.k (members_of l.numbers)) ≡ judge_members l.length l.order l.buffer (members_of l.numbers)
