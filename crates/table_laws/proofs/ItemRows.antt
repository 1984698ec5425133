-- The runs of specs/ItemRows, computed in both byte orders.
use mathlib.Core.Path.{refl}
use Rattle.cell.specs.Memory.{cell_at, store_cell}
use Rattle.cell.specs.Number.{sum, difference}
use Rattle.cell.specs.Shift.{asr8}
use Rattle.machine.specs.Places.{place_of, fetch_of}
use Rattle.exceptions.specs.Exceptions.{exception_of}
use Rattle.machine.specs.Commits.{places_of, stored_of, touches}
use Rattle.throws.specs.Throws.{handler_of, throw_of, throwing_of}
use Rattle.instruction.specs.Plain.{plain_of}
use Rattle.instruction.specs.Taking.{taking_of}
use Rattle.instruction.specs.Dispatch.{decode_of}
use Rattle.pack_layout.specs.Kinds.{class_of}
use Rattle.pack_layout.specs.Bytes.{fits}
use Rattle.pack_layout.specs.Listing.{any, entry}
use Rattle.pack_layout.specs.Layout.{cur}
use Rattle.pack_layout.specs.Rounds.{rounds, settle, settled}
use Rattle.pack_layout.specs.Packing.{marks, entry_below, entry_at}
use Rattle.list_machine.specs.ListMachine.{carry_out}
use Rattle.list_machine.specs.Runs.{further, run_of}
use Rattle.table_laws.specs.ItemRows.{ItemRows}

pub least_first : ItemRows 0
unfolding cell_at store_cell sum difference asr8 place_of fetch_of exception_of places_of stored_of touches handler_of throw_of throwing_of plain_of taking_of decode_of
    class_of fits any entry cur rounds settle settled marks entry_below entry_at carry_out further run_of
least_first = (refl, refl)

pub most_first : ItemRows 1
unfolding cell_at store_cell sum difference asr8 place_of fetch_of exception_of places_of stored_of touches handler_of throw_of throwing_of plain_of taking_of decode_of
    class_of fits any entry cur rounds settle settled marks entry_below entry_at carry_out further run_of
most_first = (refl, refl)
