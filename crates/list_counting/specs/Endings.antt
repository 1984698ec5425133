-- How a run stands, in numbers.
use Rattle.std.specs.Prelude.{ℕ}
use Rattle.list_machine.specs.Outsides.{outside_number}
use Rattle.list_counting.specs.declared.Ending.{Ending}
use Rattle.list_counting.specs.declared.Ending.TheVariants as ending

-- how a run stands, as a number: 0, all items asked for were carried out; 1, stopped by a reason; 2, outside
abbrev pub ending_number : Ending → ℕ
ending_number ending.GoesOn = 0
ending_number (ending.Stopped x) = 1
ending_number (ending.Outside why) = 2

-- the reason of a stop, the number of the reason to stand outside, else 0
abbrev pub ending_reason : Ending → ℕ
ending_reason ending.GoesOn = 0
ending_reason (ending.Stopped x) = x
ending_reason (ending.Outside why) = outside_number why
