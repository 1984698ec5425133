-- The rows, computed.
-- Assumes nothing.
use mathlib.Core.Path.{refl}
use Rattle.cell.specs.Memory.{cell_at}
use Rattle.cell.specs.Shift.{asr8}
use Rattle.pack_layout.specs.Kinds.{class_of}
use Rattle.pack_layout.specs.Bytes.{fits, pack}
use Rattle.pack_layout.specs.File.{cells_from, judged_file}
use Rattle.pack_layout.specs.Listing.{any, entry, judged_from, judged_listing, judged_arrays}
use Rattle.pack_layout.specs.Layout.{cur}
use Rattle.pack_layout.specs.Image.{word, cells}
use Rattle.pack_layout.specs.Output.{bytes_of}
use Rattle.pack_layout.specs.Packing.{marks, image}
use Rattle.pack_layout.specs.Rounds.{rounds, settle, settled}
use Rattle.pack_refusals.specs.Judgement.{judge_order, judge_room}
use Rattle.short_judging.specs.Operands.{operands_before, in_turn}
use Rattle.short_judging.specs.ShortFile.{short_operand}
use Rattle.short_judging.specs.Judging.{judged_short}
use Rattle.short_files.specs.Files.{long_file, short_file}
use Rattle.short_files.specs.Converted.{judge_shorten, judge_lengthen, shorten_of, lengthen_of}
use Rattle.short_packing.specs.Packing.{judge_pack_short, pack_short_of}
use Rattle.short_laws.specs.Worked.{RowsHold}

pub rows_hold : RowsHold
unfolding cell_at asr8 class_of fits pack cells_from judged_file any entry judged_from judged_listing judged_arrays cur word cells bytes_of marks image rounds settle settled judge_order judge_room operands_before in_turn short_operand judged_short long_file short_file judge_shorten judge_lengthen shorten_of lengthen_of judge_pack_short pack_short_of
rows_hold = ((refl, refl), (refl, refl), (refl, refl), (refl, refl))
