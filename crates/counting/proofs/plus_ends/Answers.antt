-- `plus_ends` meets its contract, by the sign of the step.
use borrow.Author.Rules.{rules}
use mathlib.Core.Path.{sym}
use native.Mathlib.Omega.{arith}
use Rattle.counting.proofs.CountingLaws.{up_behind, down_behind}
use Rattle.counting.proofs.plus_ends.Goals as goal

pub returns-then-n-lt2147483648 : goal.returns-then-n-lt2147483648
returns-then-n-lt2147483648 c index h e = rw (c.subtract-behind.ensures, e) (sym (up_behind index c.args.limit c.args.n h (search rules) (omega arith)))

pub returns-else-n-lt2147483648 : goal.returns-else-n-lt2147483648
returns-else-n-lt2147483648 c index h e = rw (c.subtract-behind.ensures, e) (sym (down_behind index c.args.limit c.args.n h (search rules) (omega arith) (search rules)))
