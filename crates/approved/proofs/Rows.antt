-- The rule of specs/Worked, computed on each of the four ways.
use mathlib.Core.Path.{◌≡◌, refl}
use lib.ListN.{replicate}
use Rattle.cell.specs.Memory.{cell_at, store_cell}
use Rattle.cell.specs.Number.{sum, difference}
use Rattle.cell.specs.Shift.{asr8}
use Rattle.cell.specs.Refusals.{judge_machine}
use Rattle.areas.specs.Areas.{judge_areas}
use Rattle.code_tables.specs.Tables.{judge_table}
use Rattle.bounds.specs.Bounds.{judge_bounded}
use Rattle.machine.specs.Places.{place_of, fetch_of}
use Rattle.exceptions.specs.Exceptions.{exception_of}
use Rattle.machine.specs.Commits.{places_of, stored_of, commit_of}
use Rattle.throws.specs.Throws.{handler_of, throw_of, next_of, finish_of}
use Rattle.instruction.specs.Plain.{plain_of}
use Rattle.instruction.specs.Taking.{taking_of}
use Rattle.instruction.specs.Dispatch.{decode_of, execute_of}
use Rattle.cycles.specs.Cycles.{cycle_of, advance, cycles_of}
use Rattle.processor_start.specs.Starting.{start_of}
use Rattle.cycles.specs.Counts.{done_of}
use Rattle.processor_start.specs.Answers.{start_answer}
use Rattle.processor.specs.Answers.{run_answer}
use Rattle.pack_layout.specs.Kinds.{class_of}
use Rattle.pack_layout.specs.Bytes.{fits, pack}
use Rattle.pack_layout.specs.Listing.{any, entry, judged_from, judged_listing, judged_arrays}
use Rattle.pack_layout.specs.Layout.{cur}
use Rattle.pack_layout.specs.Image.{word, cells}
use Rattle.pack_layout.specs.Rounds.{rounds, settle, settled}
use Rattle.pack_layout.specs.Packing.{marks, image}
use Rattle.pack_layout.specs.Output.{bytes_of}
use Rattle.pack_refusals.specs.Judgement.{judge_order, judge_room, judge_pack}
use Rattle.packer.specs.Pack.{pack_of}
use Rattle.module_judging.specs.Format.{count_of, header_of, module_of}
use Rattle.module_judging.specs.Grounds.{judge_load, judge_save}
use Rattle.module_copying.specs.Copies.{copied}
use Rattle.module_loading.specs.Answers.{load_of}
use Rattle.module_saving.specs.Answers.{save_of}
use Rattle.approved.specs.Worked.{ways, expected}

pub from_least_first : ways 0 ≡ replicate 2 expected
unfolding cell_at store_cell sum difference asr8 place_of fetch_of exception_of places_of stored_of commit_of handler_of throw_of next_of finish_of plain_of taking_of decode_of
    execute_of cycle_of advance cycles_of start_of judge_machine judge_areas judge_table judge_bounded start_answer done_of run_answer class_of fits pack any entry judged_from judged_listing
    judged_arrays cur word cells rounds settle settled marks image bytes_of judge_order judge_room judge_pack pack_of count_of header_of module_of judge_load
    judge_save copied load_of save_of
from_least_first = refl

pub from_most_first : ways 1 ≡ replicate 2 expected
unfolding cell_at store_cell sum difference asr8 place_of fetch_of exception_of places_of stored_of commit_of handler_of throw_of next_of finish_of plain_of taking_of decode_of
    execute_of cycle_of advance cycles_of start_of judge_machine judge_areas judge_table judge_bounded start_answer done_of run_answer class_of fits pack any entry judged_from judged_listing
    judged_arrays cur word cells rounds settle settled marks image bytes_of judge_order judge_room judge_pack pack_of count_of header_of module_of judge_load
    judge_save copied load_of save_of
from_most_first = refl
