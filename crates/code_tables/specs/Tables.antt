-- The table, and what refuses it. Document 02, (b): a call is given the table's first byte and the byte behind its last; two zeros are no table. -4112 turns
-- any other pair away that is unaligned, reversed, below 10h or past memory. A table may be empty.
use Rattle.std.specs.Prelude.{◌≡◌, Bool, not, ◌&&◌, ◌||◌, [], ◌∷◌, ℕ, ◌%◌, ◌≤◌, ltb, eqb}
use Rattle.cell.specs.Choice.{if}
use Rattle.cell.specs.Refusals.{Judged, passed, judge}
use Rattle.cell.specs.declared.Refusal.TheVariants as refusal
use Rattle.machine.specs.declared.Table.{Table}

abbrev pub none_given : Table → Bool
none_given table = eqb table.first.0 0 && eqb table.end.0 0

-- the cells at 0h to Ch are the machine's own
abbrev pub own_cells : ℕ
own_cells = 0x10

-- an unaligned end, the two exchanged, a table over the machine's own cells, or past memory
abbrev pub bad_table : ℕ → Table → Bool
bad_table len table =
    not (eqb (table.first.0 % 4) 0)
    || (not (eqb (table.end.0 % 4) 0) || (ltb table.end.0 table.first.0 || (ltb table.first.0 own_cells || ltb len table.end.0)))

-- -4112
unfoldable pub judge_table : ℕ → Table → Judged
judge_table len table =
    if (none_given table) passed (judge (record { applies = bad_table len table; refusal = refusal.Table } ∷ []))

-- what a table that was taken is, where one was given
pub record Kept (len : ℕ) (table : Table) : Type 0 where
  pub first_aligned : table.first.0 % 4 ≡ 0
  pub end_aligned : table.end.0 % 4 ≡ 0
  pub ordered : table.first.0 ≤ table.end.0
  pub begins : own_cells ≤ table.first.0
  pub ends : table.end.0 ≤ len
