-- Places and their accesses. One definition judges every place that an instruction touches. Document 01, The processor, and document 02, (a) and (b): a place
-- outside memory is -9, then an unaligned one -23, then one off the stack's area has its own codes, then a write into the table is -20.
use Rattle.std.specs.Prelude.{◌≡◌, Bool, true, not, ◌&&◌, List, ℕ, ◌+◌, ◌-◌, ◌*◌, ◌/◌, ◌%◌, ◌^◌, ◌≤◌, ltb, leb, eqb, length, get_or, Ok, Err}
use Rattle.cell.specs.Choice.{if}
use Rattle.cell.specs.Memory.{cell_at, cell_count}
use Rattle.cell.specs.Place.{Checked, good, Fetched, address, read}
use Rattle.cell.specs.declared.Fault.{Fault}
use Rattle.cell.specs.declared.Fault.TheVariants.{Range, Alignment, Data, Return}
use Rattle.cell.specs.declared.Fault.TheVariants as fault
use Rattle.machine.specs.declared.Span.{Span}
use Rattle.machine.specs.declared.Table.{Table}
use Rattle.machine.specs.declared.Guarded.{Guarded}
use Rattle.machine.specs.declared.Machine.{Machine}
use Rattle.machine.specs.declared.Target.{Target}
use Rattle.machine.specs.declared.Target.TheVariants as target
use Rattle.machine.specs.declared.Access.{Access}
use Rattle.machine.specs.declared.Access.TheVariants.{DataRead, DataWrite, ReturnRead, ReturnWrite, NamedRead, NamedWrite, Stream, Push}

-- the address behind the last cell of a span
abbrev pub end_in : Span → ℕ
end_in span = span.last.0 + 4

abbrev pub span_at : ℕ → ℕ → Span
span_at last cells = record { last = address last; cells = cell_count cells }

-- a span's cells lie in a memory
pub record Lies (span : Span) (len : ℕ) : Type 0 where
  pub aligned : span.last.0 % 4 ≡ 0
  pub begins : 4 * span.cells.0 ≤ end_in span
  pub ends : end_in span ≤ len

-- a machine whose stacks' cells lie in memory, which is made of whole cells
pub record Fits (machine : Machine) (len : ℕ) : Type 0 where
  pub whole : len % 4 ≡ 0
  pub most : len ≤ 16777216
  pub stack : Lies machine.stack len
  pub fewer : machine.writes.0 ≤ machine.stack.cells.0
  pub returns : Lies machine.returns len
  pub guards : machine.table.first.0 + machine.table.bytes ≤ 2 ^ 32

abbrev pub table_of : ℕ → ℕ → Table
table_of first end = record { first = address first; end = address end }

-- two zeros
abbrev pub no_table : Table
no_table = table_of 0 0

-- a table's bytes
abbrev pub guarded_of : Table → Guarded
guarded_of table = record { first = table.first; bytes = table.end.0 - table.first.0 }

-- one of a table's bytes
abbrev pub in_table : Guarded → ℕ → Bool
in_table table a = leb table.first.0 a && ltb a (table.first.0 + table.bytes)

-- every cell of a memory
abbrev pub whole_memory : ℕ → Span
whole_memory len = span_at (len - 4) (len / 4)

-- the machine without areas: each stack may lie in any cell of memory, and none is held
abbrev pub unbounded : ℕ → Table → ℕ → Machine
unbounded order table len =
    record {
      order = order;
      stack = whole_memory len;
      writes = (whole_memory len).cells;
      returns = whole_memory len;
      table = guarded_of table;
    }

-- what lies at a place: a cell, or a single byte (C@ and C! only)
pub data Width : Type 0 where
  one_byte one_cell : Width

-- one of the cells of a span, or between two of them
abbrev pub within : Span → ℕ → Bool
within span a = leb (end_in span) (a + 4 * span.cells.0) && ltb a (end_in span)

-- the cells that the data stack may write
abbrev pub writable : Machine → Span
writable machine = record { last = machine.stack.last; cells = machine.writes }

-- what a store is for
abbrev pub access_to : Target → Access
access_to target.Data = DataWrite
access_to target.Return = ReturnWrite
access_to target.Named = NamedWrite

-- where a stack may have a place. The held cell is read, and a throw pushes there; no other write goes there. Named cells and the instruction stream
-- are not asked
abbrev pub allowed : Machine → Access → ℕ → Bool
allowed machine DataRead a = within machine.stack a
allowed machine DataWrite a = within (writable machine) a
allowed machine ReturnRead a = within machine.returns a
allowed machine ReturnWrite a = within machine.returns a
allowed machine NamedRead a = true
allowed machine NamedWrite a = true
allowed machine Stream a = true
allowed machine Push a = within machine.stack a

-- what the table allows: every read, and a write outside it
abbrev pub table_allows : Machine → Access → ℕ → Bool
table_allows machine DataRead a = true
table_allows machine DataWrite a = not (in_table machine.table a)
table_allows machine ReturnRead a = true
table_allows machine ReturnWrite a = not (in_table machine.table a)
table_allows machine NamedRead a = true
table_allows machine NamedWrite a = not (in_table machine.table a)
table_allows machine Stream a = true
table_allows machine Push a = not (in_table machine.table a)

-- a byte lies anywhere, a cell at a multiple of 4
abbrev pub aligned_as : Width → ℕ → Bool
aligned_as one_byte a = true
aligned_as one_cell a = eqb (a % 4) 0

-- the fault of a place in memory that is unaligned or not allowed. Which of the two it is for a stack, the throw tells (crate `throws`, specs/Exceptions.antt)
abbrev pub fault_at : Access → ℕ → Fault
fault_at DataRead a = Data (address a)
fault_at DataWrite a = Data (address a)
fault_at ReturnRead a = Return (address a)
fault_at ReturnWrite a = Return (address a)
fault_at NamedRead a = Alignment (address a)
fault_at NamedWrite a = Alignment (address a)
fault_at Stream a = Alignment (address a)
fault_at Push a = Data (address a)

-- a place that nothing else is wrong with: the table is asked last, here for every write
abbrev pub open_to : Checked → Bool → Checked
open_to (Err f) allows = Err f
open_to (Ok _) allows = if allows good (Err fault.Table)

-- a place in memory, or its fault: outside, or where the access may not have it
abbrev pub placed : Bool → ℕ → ℕ → Fault → Checked
placed may len a off = if (ltb a len) (if may good (Err off)) (Err (Range (address a)))

-- whether a place may be touched
unfoldable pub place_of : Machine → Width → Access → ℕ → ℕ → Checked
place_of machine width access len a =
    open_to (placed (allowed machine access a && aligned_as width a) len a (fault_at access a))
    (table_allows machine access a)

-- a cell of memory, or why it cannot be read
unfoldable pub fetch_of : Machine → Access → List ℕ → ℕ → Fetched
fetch_of machine access m a = read (place_of machine one_cell access (length m) a) (cell_at machine.order m a)

unfoldable pub fetch_byte_of : Machine → Access → List ℕ → ℕ → Fetched
fetch_byte_of machine access m a = read (place_of machine one_byte access (length m) a) (get_or m a 0)
