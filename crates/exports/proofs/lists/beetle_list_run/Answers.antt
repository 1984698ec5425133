-- `beetle_list_run` meets its contract.
use Rattle.exports.proofs.lists.beetle_list_run.Goals as goal

pub returns : goal.returns
returns c = rw (← c.make_table.ensures) c.resume_list.ensures
