-- The code's reader, in plain numbers.
use Rattle.pack_layout.specs.Reading.{Reader}
use Rattle.unpack_items.specs.declared.Reader.{Reader as Reading}

abbrev pub reader_of : Reading → Reader
reader_of r = record { at = r.at.0; rest = r.rest; next = r.next.0; first = r.first }
