-- Every row of the table holds: the checker computes each from the definitions.
use mathlib.Core.Path.{◌≡◌, refl}
use mathlib.Core.Bool.{true}
use Rattle.cell.specs.Memory.{cell_at, store_cell}
use Rattle.cell.specs.Number.{sum, difference, negated}
use Rattle.cell.specs.Division.{symmetric_of, floored_of}
use Rattle.cell.specs.Shift.{asr8}
use Rattle.cell.specs.Refusals.{judge_machine}
use Rattle.areas.specs.Areas.{judge_areas}
use Rattle.code_tables.specs.Tables.{judge_table}
use Rattle.bounds.specs.Bounds.{judge_bounded}
use Rattle.machine.specs.Places.{place_of, fetch_of, fetch_byte_of}
use Rattle.exceptions.specs.Exceptions.{exception_of}
use Rattle.machine.specs.Effects.{roll_stores}
use Rattle.machine.specs.Commits.{places_of, stored_of, commit_of}
use Rattle.throws.specs.Throws.{handler_of, throw_of, throwing_of, next_of, finish_of}
use Rattle.instruction.specs.Plain.{plain_of}
use Rattle.counting.specs.Counting.{plus_ends}
use Rattle.instruction.specs.Taking.{taking_of}
use Rattle.instruction.specs.Dispatch.{decode_of, execute_of}
use Rattle.cycles.specs.Cycles.{cycle_of, advance, cycles_of}
use Rattle.processor_start.specs.Starting.{start_of}
use Rattle.cycles.specs.Counts.{done_of}
use Rattle.processor_start.specs.Answers.{start_answer}
use Rattle.processor.specs.Answers.{cycle_answer, run_answer}
use Rattle.pack_layout.specs.Kinds.{class_of}
use Rattle.pack_layout.specs.Bytes.{fits, pack}
use Rattle.pack_layout.specs.Listing.{any, entry, judged_from, judged_listing, judged_arrays}
use Rattle.pack_layout.specs.Layout.{cur}
use Rattle.pack_layout.specs.Image.{word, cells}
use Rattle.pack_layout.specs.Rounds.{rounds, settle, settled}
use Rattle.pack_layout.specs.Packing.{marks, image}
use Rattle.module_judging.specs.Format.{count_of}
use Rattle.module_judging.specs.Grounds.{judge_load}
use Rattle.module_copying.specs.Copies.{copied}
use Rattle.module_loading.specs.Answers.{load_of, load_first_of}
use Rattle.worked.specs.Rows.{table_holds}
use Rattle.worked.specs.Table.{table}

pub worked_on_paper : table_holds table ≡ true
unfolding table_holds cell_at store_cell sum difference negated symmetric_of floored_of asr8 place_of fetch_of fetch_byte_of exception_of roll_stores places_of stored_of commit_of handler_of throw_of throwing_of
    next_of finish_of plain_of plus_ends taking_of decode_of execute_of cycle_of advance cycles_of start_of judge_machine judge_areas judge_table judge_bounded start_answer cycle_answer done_of run_answer class_of
    fits pack any entry judged_from judged_listing judged_arrays cur word cells rounds settle settled marks image count_of judge_load copied load_of load_first_of
worked_on_paper = refl
