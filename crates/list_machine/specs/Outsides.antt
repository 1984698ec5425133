-- The number of each reason to stop outside, in document 01's order (Listings, the list machine).
use Rattle.std.specs.Prelude.{ℕ}
use Rattle.list_machine.specs.declared.Outside.{Outside}
use Rattle.list_machine.specs.declared.Outside.TheVariants.{WritesImage, NoEntry, NoHandler, PastEnd}

abbrev pub outside_number : Outside → ℕ
outside_number WritesImage = 1
outside_number NoEntry = 2
outside_number NoHandler = 3
outside_number PastEnd = 4
