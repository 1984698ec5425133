use Rattle.set_loading.proofs.SetLaws.{Copying}
use Rattle.set_loading.proofs.loading.copy_members.Given as goal

abbrev pub invariant-loop-k : goal.invariant-loop-k
invariant-loop-k l = Copying l.order l.buffer l.numbers l.initial.memory l.memory l.k l.total
