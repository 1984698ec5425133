-- The rows of document 01 on packing, computed.
-- Assumes nothing.
use mathlib.Core.Path.{◌≡◌, refl}
use Rattle.cell.specs.Shift.{asr8}
use Rattle.pack_layout.specs.Kinds.{class_of}
use Rattle.pack_layout.specs.Bytes.{fits, pack}
use Rattle.pack_layout.specs.Listing.{any, entry, judged_from, judged_listing, judged_arrays}
use Rattle.pack_layout.specs.Layout.{cur}
use Rattle.pack_layout.specs.Image.{word, cells}
use Rattle.pack_layout.specs.Rounds.{rounds, settle, settled}
use Rattle.pack_layout.specs.Packing.{marks, image}
use Rattle.pack_layout.specs.Worked.{RowsHold, worked, further, RefusedRows, refused_listings, is_plain, is_kind, bytes_of}

pub worked_holds : RowsHold worked
unfolding asr8 class_of fits pack any entry judged_from judged_listing judged_arrays cur word cells rounds settle settled marks image
worked_holds = (refl, refl)

pub further_holds : RowsHold further
unfolding asr8 class_of fits pack any entry judged_from judged_listing judged_arrays cur word cells rounds settle settled marks image
further_holds = (refl, refl)

pub refused_rows_lem : RefusedRows refused_listings
unfolding class_of judged_from judged_listing judged_arrays
refused_rows_lem = refl

-- 80 of the 256 bytes are kinds, 74 of them plain
pub kinds_number : (bytes_of is_kind 256 ≡ 80) × (bytes_of is_plain 256 ≡ 74)
unfolding bytes_of class_of
kinds_number = (refl, refl)
