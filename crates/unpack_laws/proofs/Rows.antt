-- The rows, computed.
-- Assumes nothing.
use mathlib.Core.Path.{refl}
use Rattle.cell.specs.Memory.{cell_at}
use Rattle.cell.specs.Shift.{asr8}
use Rattle.pack_layout.specs.Kinds.{class_of}
use Rattle.pack_layout.specs.Bytes.{fits, pack}
use Rattle.pack_layout.specs.Listing.{any, entry, judged_from, judged_listing}
use Rattle.pack_layout.specs.Layout.{cur}
use Rattle.pack_layout.specs.Image.{word, cells}
use Rattle.pack_layout.specs.Output.{bytes_of}
use Rattle.pack_layout.specs.Packing.{marks, image}
use Rattle.pack_layout.specs.Rounds.{rounds, settle, settled}
use Rattle.pack_layout.specs.Reading.{each, cells_of, reader, items_from, items_read, first_at, kinds_read, operands_read}
use Rattle.pack_layout.specs.Unpacking.{same, packs_to}
use Rattle.pack_refusals.specs.Judgement.{judge_order}
use Rattle.unpack_judging.specs.Judgement.{judge_place, judge_arrays}
use Rattle.unpacker.specs.Judgement.{judge_read, judge_unpack}
use Rattle.unpacker.specs.Unpack.{unpack_of}
use Rattle.unpack_laws.specs.Worked.{RowsHold}

pub rows_hold : RowsHold
unfolding cell_at asr8 class_of fits pack any entry judged_from judged_listing cur word cells bytes_of marks image rounds settle settled each cells_of reader items_from items_read first_at kinds_read operands_read same packs_to judge_order judge_place judge_read judge_arrays judge_unpack unpack_of
rows_hold = ((refl, refl, refl, refl), (refl, refl, refl, refl))
