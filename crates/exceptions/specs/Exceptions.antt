-- What is thrown for a fault, with its code. Document 02, (a): a stack place off its area is -3 below and -4 at or above the top of the data stack, -5 and -6
-- for the return stack, after the faults of document 01, The processor, of the same place; document 02, (b): -20 after all of these.
use Rattle.std.specs.Prelude.{ℕ, ◌-◌, ◌%◌, ◌^◌, ltb, eqb}
use Rattle.cell.specs.Choice.{if}
use Rattle.cell.specs.Place.{address}
use Rattle.cell.specs.declared.Fault.{Fault}
use Rattle.cell.specs.declared.Fault.TheVariants as fault
use Rattle.machine.specs.Places.{end_in}
use Rattle.machine.specs.declared.Span.{Span}
use Rattle.machine.specs.declared.Machine.{Machine}
use Rattle.machine.specs.declared.Exception.{Exception}
use Rattle.machine.specs.declared.Exception.TheVariants.{Range, Alignment, DataOverflow, DataUnderflow, ReturnOverflow, ReturnUnderflow, ReadOnly, Divisor, Illegal, Library}

-- a stack's fault at a place in memory that is not one of its cells: unaligned, or below them, or at or above their end. A write of the held cell, the
-- lowest of the data stack's, counts as below
abbrev pub end_of : Span → ℕ → Exception → Exception → Exception
end_of span a below above = if (eqb (a % 4) 0) (if (ltb a (end_in span)) below above) (Alignment (address a))

unfoldable pub exception_of : Machine → Fault → Exception
exception_of machine (fault.Range a) = Range a
exception_of machine (fault.Alignment a) = Alignment a
exception_of machine (fault.Data a) = end_of machine.stack a.0 DataOverflow DataUnderflow
exception_of machine (fault.Return a) = end_of machine.returns a.0 ReturnOverflow ReturnUnderflow
exception_of machine fault.Table = ReadOnly
exception_of machine fault.Divisor = Divisor
exception_of machine fault.Illegal = Illegal
exception_of machine fault.Library = Library

-- the code of each, as the cell that a throw pushes
abbrev pub exception_code : Exception → ℕ
exception_code (Range a) = 2 ^ 32 - 9
exception_code (Alignment a) = 2 ^ 32 - 23
exception_code DataOverflow = 2 ^ 32 - 3
exception_code DataUnderflow = 2 ^ 32 - 4
exception_code ReturnOverflow = 2 ^ 32 - 5
exception_code ReturnUnderflow = 2 ^ 32 - 6
exception_code ReadOnly = 2 ^ 32 - 20
exception_code Divisor = 2 ^ 32 - 10
exception_code Illegal = 2 ^ 32 - 256
exception_code Library = 2 ^ 32 - 257
