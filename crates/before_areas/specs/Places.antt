-- Places before areas: a cell's place is inside memory, then a multiple of 4, whatever it is touched for. Document 01, The processor.
use Rattle.std.specs.Prelude.{List, ℕ, ◌%◌, ltb, eqb, length, get_or, Err}
use Rattle.cell.specs.Choice.{if}
use Rattle.cell.specs.Memory.{cell_at}
use Rattle.cell.specs.Place.{address, read, Checked, good, Fetched}
use Rattle.cell.specs.declared.Fault.TheVariants.{Range, Alignment}
use Rattle.machine.specs.Places.{Width, one_byte, one_cell}
use Rattle.before_tables.specs.Places.{Reading}

unfoldable pub place_before : Width → ℕ → ℕ → Checked
place_before one_byte len a = if (ltb a len) good (Err (Range (address a)))
place_before one_cell len a =
    if (ltb a len) (if (eqb (a % 4) 0) good (Err (Alignment (address a)))) (Err (Range (address a)))

unfoldable pub fetch_before : ℕ → List ℕ → ℕ → Fetched
fetch_before order m a = read (place_before one_cell (length m) a) (cell_at order m a)

unfoldable pub fetch_byte_before : List ℕ → ℕ → Fetched
fetch_byte_before m a = read (place_before one_byte (length m) a) (get_or m a 0)

-- no access was told from another
abbrev pub reading_before : ℕ → List ℕ → Reading
reading_before order m = record { cell = λ access a. fetch_before order m a; byte = λ a. fetch_byte_before m a }
