use borrow.Author.Rules.{rules}
use Rattle.machine.proofs.SpanLaws.{guards_byte}
use Rattle.machine.proofs.places.is_guarded.Goals as goal

pub returns : goal.returns
returns c = rw c.subtract.ensures (guards_byte c.args.table c.args.address.0 c.requires (search rules) (search rules))
