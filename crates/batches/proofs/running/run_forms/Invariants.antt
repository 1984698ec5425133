use Rattle.batches.specs.Batches.{common_of, forms_given}
use Rattle.batches.proofs.BatchLaws.{Standing}
use Rattle.batches.proofs.running.run_forms.Given as goal

abbrev pub invariant-loop : goal.invariant-loop
invariant-loop l = Standing (common_of l.order l.start l.address.0 l.r l.table l.budget) (forms_given l.forms l.count l.size) l.initial.memory l.memory l.t l.at l.counter
