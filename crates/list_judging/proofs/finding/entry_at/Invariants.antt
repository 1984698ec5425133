use mathlib.Core.Path.{◌≡◌}
use Rattle.list_tables.specs.Tables.{rows, entry_below}
use Rattle.list_judging.proofs.finding.entry_at.Given as goal

-- the entry that is looked for is among the first i
abbrev pub invariant-loop-i : goal.invariant-loop-i
invariant-loop-i l = entry_below l.table l.base.0 l.i l.a.0 ≡ entry_below l.table l.base.0 (rows l.table) l.a.0
