-- The rows, computed.
-- Assumes nothing.
use mathlib.Core.Path.{refl}
use Rattle.cell.specs.Memory.{cell_at, store_cell}
use Rattle.cell.specs.Number.{sum, difference}
use Rattle.cell.specs.Shift.{asr8}
use Rattle.cell.specs.Refusals.{judge_machine}
use Rattle.areas.specs.Areas.{judge_areas}
use Rattle.code_tables.specs.Tables.{judge_table}
use Rattle.bounds.specs.Bounds.{judge_bounded}
use Rattle.machine.specs.Places.{place_of, fetch_of}
use Rattle.exceptions.specs.Exceptions.{exception_of}
use Rattle.machine.specs.Commits.{places_of, stored_of, commit_of}
use Rattle.throws.specs.Throws.{handler_of, throw_of, throwing_of, next_of, finish_of}
use Rattle.instruction.specs.Plain.{plain_of}
use Rattle.instruction.specs.Taking.{taking_of}
use Rattle.instruction.specs.Dispatch.{decode_of, execute_of}
use Rattle.cycles.specs.Cycles.{cycle_of, advance, cycles_of}
use Rattle.cycles.specs.Counts.{done_of}
use Rattle.processor.specs.Answers.{run_answer}
use Rattle.batch_judging.specs.Grounds.{judge_forms, judge_batch}
use Rattle.batches.specs.Batches.{batch_answer}
use Rattle.batch_laws.specs.Worked.{RowsHold}

pub rows_hold : RowsHold
unfolding cell_at store_cell sum difference asr8 judge_machine judge_areas judge_table judge_bounded place_of fetch_of exception_of places_of stored_of commit_of handler_of throw_of throwing_of next_of finish_of
    plain_of taking_of decode_of execute_of cycle_of advance cycles_of done_of run_answer judge_forms judge_batch batch_answer
rows_hold = ((refl, refl, refl), (refl, refl, refl))
