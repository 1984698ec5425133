-- Places before tables: inside memory, then a multiple of 4 for a cell, then where its stack might have it. Document 01, The processor, and document 02, (a).
use Rattle.std.specs.Prelude.{◌&&◌, List, ℕ, ◌%◌, ltb, eqb, length, get_or, Err}
use Rattle.cell.specs.Choice.{if}
use Rattle.cell.specs.Memory.{cell_at}
use Rattle.cell.specs.Place.{address, read, Checked, good, Fetched}
use Rattle.cell.specs.declared.Fault.TheVariants.{Range}
use Rattle.machine.specs.Places.{Width, one_byte, one_cell, fault_at}
use Rattle.machine.specs.declared.Access.{Access}
use Rattle.machine.specs.declared.Access.TheVariants.{NamedRead}
use Rattle.before_tables.specs.Machines.{MachineBefore, allowed_before}

-- whether a place might be touched
unfoldable pub place_before : MachineBefore → Width → Access → ℕ → ℕ → Checked
place_before machine one_byte access len a = if (ltb a len) good (Err (Range (address a)))
place_before machine one_cell access len a =
    if (ltb a len) (if (allowed_before machine access a && eqb (a % 4) 0) good (Err (fault_at access a))) (Err (Range (address a)))

unfoldable pub fetch_before : MachineBefore → Access → List ℕ → ℕ → Fetched
fetch_before machine access m a = read (place_before machine one_cell access (length m) a) (cell_at machine.order m a)

unfoldable pub fetch_byte_before : MachineBefore → Access → List ℕ → ℕ → Fetched
fetch_byte_before machine access m a = read (place_before machine one_byte access (length m) a) (get_or m a 0)

-- how the instructions of a machine read: a cell for an access, and a byte that an operand names
pub record Reading : Type 0 where
  pub cell : Access → ℕ → Fetched
  pub byte : ℕ → Fetched

abbrev pub reading_before : MachineBefore → List ℕ → Reading
reading_before machine m =
    record { cell = λ access a. fetch_before machine access m a; byte = λ a. fetch_byte_before machine NamedRead m a }
