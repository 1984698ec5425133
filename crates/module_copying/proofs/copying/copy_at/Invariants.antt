use mathlib.Core.Path.{◌≡◌}
use Rattle.module_copying.specs.Copies.{copied}
use Rattle.module_copying.proofs.copying.copy_at.Given as goal

abbrev pub invariant-loop-k : goal.invariant-loop-k
invariant-loop-k l = l.bytes ≡ copied l.theirs l.ours l.code l.initial.bytes l.at l.k
