-- The machine of a byte order, areas, a table and a memory's length, and what is judged of them. Document 02, (a): with no areas each stack may lie anywhere in memory;
-- else in its area, and the data stack in the held cell too, the lowest that it may have. Document 02, (b): the table goes with it as it is.
use Rattle.std.specs.Prelude.{ℕ, ◌+◌, ◌-◌}
use Rattle.cell.specs.Choice.{if}
use Rattle.cell.specs.Refusals.{Judged, after, judge_machine}
use Rattle.machine.specs.Places.{span_at, unbounded}
use Rattle.machine.specs.declared.Span.{Span}
use Rattle.machine.specs.declared.Table.{Table}
use Rattle.machine.specs.declared.Machine.{Machine}
use Rattle.areas.specs.Areas.{held_under_data, held_under_return, none, judge_areas}
use Rattle.code_tables.specs.Tables.{judge_table}
use Rattle.areas.specs.declared.Area.{Area}
use Rattle.areas.specs.declared.Areas.{Areas}

-- the cells of an area and those held under it
abbrev pub span_of : ℕ → Area → Span
span_of held area = span_at (area.top.0 - 4) (area.cells.0 + held)

-- what every call that is given areas and a table judges first: -4101, -4102, -4111, -4112
unfoldable pub judge_bounded : ℕ → ℕ → Areas → Table → Judged
judge_bounded len order areas table = after (judge_machine len order) (after (judge_areas len areas) (judge_table len table))

abbrev pub machine_of : ℕ → Areas → Table → ℕ → Machine
machine_of order areas table len =
    let free = unbounded order table len in
    record {
      order = order;
      stack = if (none areas) free.stack (span_of held_under_data areas.stack);
      writes = if (none areas) free.writes areas.stack.cells;
      returns = if (none areas) free.returns (span_of held_under_return areas.returns);
      table = free.table;
    }

-- where the stacks begin: at the tops, or as document 01 has it
abbrev pub first_sp : ℕ → Areas → ℕ
first_sp len areas = if (none areas) (len - 0x100) areas.stack.top.0

abbrev pub first_rp : ℕ → Areas → ℕ
first_rp len areas = if (none areas) len areas.returns.top.0
