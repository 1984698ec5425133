use Rattle.pack_layout.specs.Reading.{cells_of}
use Rattle.unpack_items.specs.Readers.{reader_of}
use Rattle.unpack_reading.proofs.Steps.{Reached}
use Rattle.unpack_reading.proofs.items.read_items.Given as goal

abbrev pub invariant-loop-i : goal.invariant-loop-i
invariant-loop-i l = Reached (cells_of l.order l.image) l.base.0 l.kinds l.held l.firsts (reader_of l.r) l.i
