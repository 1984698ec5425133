-- `beetle_list_resume` meets its contract.
use Rattle.exports.proofs.lists.beetle_list_resume.Goals as goal

pub returns : goal.returns
returns c = rw (← c.make_table.ensures) c.resume_list.ensures
