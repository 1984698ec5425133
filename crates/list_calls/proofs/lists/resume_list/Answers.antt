-- `resume_list` meets its contract: the answer of crate `list_following`, told.
use lib.ListN.{length}
use Rattle.lent_arrays.specs.Lending.{areas_in}
use Rattle.list_calls.specs.Lists.{stand_given}
use Rattle.list_calls.proofs.ListLaws.{has_room, list_noted}
use Rattle.list_calls.proofs.lists.resume_list.Goals as goal

pub note_followed-requires : goal.note_followed-requires
note_followed-requires c = has_room c.args.order (areas_in 2 c.args.pointers.now) c.args.table c.args.kinds.now c.args.operands.now c.args.base.0 c.args.memory.now (stand_given c.args.item.0 c.args.ran c.args.pointers.now) c.args.items (length c.args.pointers.now) (length c.args.out.now) _ c.follow_within-answer.result (rw (c.judge_lent-room.ensures, c.areas_in-areas.ensures, c.number_at.ensures, c.number_at-2.ensures) at c.follow_within-answer.ensures)

pub returns : goal.returns
returns c = list_noted c.args.order c.args.kinds.now c.args.operands.now c.args.base.0 c.args.memory.now c.args.table c.args.item.0 c.args.ran c.args.pointers.now c.args.items c.args.out.now _ _ _ _ c.follow_within-answer.result (rw (c.judge_lent-room.ensures, c.areas_in-areas.ensures, c.number_at.ensures, c.number_at-2.ensures) at c.follow_within-answer.ensures) c.note_followed.ensures
