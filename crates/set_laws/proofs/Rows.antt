-- The rows, computed.
-- Assumes nothing.
use mathlib.Core.Path.{refl}
use Rattle.cell.specs.Memory.{cell_at, store_cell}
use Rattle.cell.specs.Refusals.{judge_machine}
use Rattle.module_judging.specs.Format.{count_of}
use Rattle.module_judging.specs.Grounds.{judge_load}
use Rattle.module_copying.specs.Copies.{copied}
use Rattle.set_judging.specs.Grounds.{judge_member, judge_set}
use Rattle.set_loading.specs.Sets.{copied_one, load_set_of}
use Rattle.set_laws.specs.Worked.{RowsHold}

pub rows_hold : RowsHold
unfolding cell_at store_cell judge_machine count_of judge_load copied judge_member judge_set copied_one load_set_of
rows_hold = ((refl, refl, refl), (refl, refl, refl))
