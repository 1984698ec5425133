-- The machine before tables, as document 02, (a) had it: the cells of each stack from a floor up, and the held cell by its address. Document 02, (a).
use Rattle.std.specs.Prelude.{Bool, true, not, ◌&&◌, ℕ, ◌+◌, ◌-◌, ◌*◌, ◌/◌, ltb, leb, eqb}
use Rattle.cell.specs.Choice.{if}
use Rattle.machine.specs.declared.Access.{Access}
use Rattle.machine.specs.declared.Access.TheVariants.{DataRead, DataWrite, ReturnRead, ReturnWrite, NamedRead, NamedWrite, Stream, Push}
use Rattle.areas.specs.Areas.{held_under_data, held_under_return, bytes_with, none}
use Rattle.areas.specs.declared.Area.{Area}
use Rattle.areas.specs.declared.Areas.{Areas}

-- the cells that a stack might have
pub record SpanBefore : Type 0 where
  pub floor : ℕ
  pub cells : ℕ

-- what went with every call and was no register
pub record MachineBefore : Type 0 where
  pub order : ℕ
  pub stack : SpanBefore
  pub returns : SpanBefore
  pub held : ℕ

-- the address behind the last cell of a span
abbrev pub end_before : SpanBefore → ℕ
end_before span = span.floor + 4 * span.cells

-- every cell of a memory
abbrev pub whole_before : ℕ → SpanBefore
whole_before len = record { floor = 0; cells = len / 4 }

-- the machine without areas: each stack might lie in any cell of memory, and none was held, since no cell has the address FFFFFFFFh
abbrev pub unbounded_before : ℕ → ℕ → MachineBefore
unbounded_before order len =
    record { order = order; stack = whole_before len; returns = whole_before len; held = 0xFFFFFFFF }

-- the cells of an area and those held under it
abbrev pub span_before : ℕ → Area → SpanBefore
span_before held area = record { floor = area.top.0 - bytes_with held area; cells = area.cells.0 + held }

abbrev pub machine_before : ℕ → Areas → ℕ → MachineBefore
machine_before order areas len =
    let free = unbounded_before order len in
    let stack = span_before held_under_data areas.stack in
    record {
      order = order;
      stack = if (none areas) free.stack stack;
      returns = if (none areas) free.returns (span_before held_under_return areas.returns);
      held = if (none areas) free.held stack.floor;
    }

-- from the floor of a span up to its end
abbrev pub within_before : SpanBefore → ℕ → Bool
within_before span a = leb span.floor a && ltb a (end_before span)

-- where a stack might have a place. The held cell was read, and a throw pushed there; no other write went there. Named cells and the instruction stream
-- were not asked
abbrev pub allowed_before : MachineBefore → Access → ℕ → Bool
allowed_before machine DataRead a = within_before machine.stack a
allowed_before machine DataWrite a = within_before machine.stack a && not (eqb a machine.held)
allowed_before machine ReturnRead a = within_before machine.returns a
allowed_before machine ReturnWrite a = within_before machine.returns a
allowed_before machine NamedRead a = true
allowed_before machine NamedWrite a = true
allowed_before machine Stream a = true
allowed_before machine Push a = within_before machine.stack a
