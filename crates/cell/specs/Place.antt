-- The check of a place, and what a fetch answers. Document 01, The processor: a fetch gives the cell or the fault that kept it from being read;
-- -9 and -23 carry the address that was asked for, and an address that is both outside and unaligned is -9.
use Rattle.std.specs.Prelude.{ℕ, ◌%◌, Result, Ok, Err, ◌==◌, nat_lt}
use Rattle.cell.specs.Choice.{if}
use Rattle.cell.specs.declared.Address.{Address}
use Rattle.cell.specs.declared.Fault.{Fault}
use Rattle.cell.specs.declared.Fault.TheVariants.{Range, Alignment}

abbrev pub address : ℕ → Address
address a = record { 0 = a }

-- what the check of a place says: it is good, or its fault
abbrev pub Checked : Type 0
Checked = Result Unit Fault

abbrev pub good : Checked
good = Ok tt

-- what a fetch answers: the cell, or the fault that kept it from being read
abbrev pub Fetched : Type 0
Fetched = Result ℕ Fault

-- a byte's place: inside memory
abbrev pub check_byte : ℕ → ℕ → Checked
check_byte len a = if (nat_lt a len) good (Err (Range (address a)))

-- a cell's place: inside memory, then a multiple of 4
abbrev pub check_cell : ℕ → ℕ → Checked
check_cell len a = if (nat_lt a len) (if (a % 4 == 0) good (Err (Alignment (address a)))) (Err (Range (address a)))

-- a place that was judged good is read, and a bad one gives its fault
abbrev pub read : Checked → ℕ → Fetched
read (Ok _) x = Ok x
read (Err f) x = Err f
