use Rattle.pack_layout.specs.Listing.{listed}
use Rattle.list_tables.specs.Tables.{Rows}
use Rattle.list_tables.proofs.tabling.tabulate.Given as goal

abbrev pub invariant-loop-i : goal.invariant-loop-i
invariant-loop-i l = Rows (listed l.kinds l.operands) l.table l.i
