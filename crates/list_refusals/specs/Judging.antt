-- What refuses a run of the list machine on a lent memory, in document 01's order.
use Rattle.std.specs.Prelude.{List, ℕ}
use Rattle.cell.specs.Refusals.{after, Judged}
use Rattle.machine.specs.declared.Table.{Table}
use Rattle.bounds.specs.Bounds.{judge_bounded}
use Rattle.areas.specs.declared.Areas.{Areas}
use Rattle.pack_layout.specs.Listing.{listed, judged_arrays}
use Rattle.pack_layout.specs.Packing.{image_cells, judged_place}

-- before the layout: -4101, -4102, -4111 and -4112, then the input list
unfoldable pub judge_begin : ℕ → ℕ → Areas → Table → List ℕ → List ℕ → Judged
judge_begin len order areas table kinds operands = after (judge_bounded len order areas table) (judged_arrays kinds operands)

-- once the size of the image is known: -4104 and -4110, then room, the caller's judgement of what else was lent. No image is asked for in the memory
unfoldable pub judge_image : ℕ → ℕ → Judged → Judged
judge_image base cells room = after (judged_place base cells) room

unfoldable pub judge_follow : ℕ → ℕ → Areas → Table → List ℕ → List ℕ → ℕ → Judged → Judged
judge_follow len order areas table kinds operands base room =
    after (judge_begin len order areas table kinds operands) (judge_image base (image_cells (listed kinds operands)) room)
