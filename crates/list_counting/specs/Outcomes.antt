-- What an item comes to and a run, in the code's values and in the list machine's.
use Rattle.std.specs.Prelude.{Bool, true, false, List, ℕ, ◌+◌, ltb}
use Rattle.cell.specs.Choice.{if}
use Rattle.list_machine.specs.declared.Outside.TheVariants.{PastEnd}
use Rattle.list_machine.specs.ListMachine as lists
use Rattle.list_machine.specs.Runs as runs
use Rattle.list_proposing.specs.Stands.{position_of}
use Rattle.list_proposing.specs.declared.Stand.{Stand}
use Rattle.list_counting.specs.declared.Carried.{Carried}
use Rattle.list_counting.specs.declared.Carried.TheVariants.{On, Stopped, Outside}
use Rattle.list_counting.specs.declared.Ending.{Ending}
use Rattle.list_counting.specs.declared.Ending.TheVariants as ending
use Rattle.list_counting.specs.declared.ItemRun.{ItemRun}

-- what an item comes to, with the memory m
abbrev pub carried_as : List ℕ → Carried → lists.Carried
carried_as m (On s) = lists.on (position_of m s)
carried_as m (Stopped s x) = lists.stopped x (position_of m s)
carried_as m (Outside why) = lists.outside why

-- memory, and what the item came to
pub record Left : Type 0 where
  pub memory : List ℕ
  pub carried : lists.Carried

abbrev pub left : List ℕ → Carried → Left
left m c = record { memory = m; carried = carried_as m c }

-- the memory that an item leaves; it stays where the machine stands outside
abbrev pub memory_after : List ℕ → lists.Carried → List ℕ
memory_after m (lists.on p) = p.memory
memory_after m (lists.stopped x p) = p.memory
memory_after m (lists.outside why) = m

-- what the code has to leave, from the memory m
abbrev pub leaves : List ℕ → lists.Carried → Left
leaves m c = record { memory = memory_after m c; carried = c }

abbrev pub course_of : Ending → runs.Course
course_of ending.GoesOn = runs.goes_on
course_of (ending.Stopped x) = runs.stopped_by x
course_of (ending.Outside why) = runs.stood_outside why

-- a run, with the memory m
abbrev pub run_as : List ℕ → ItemRun → runs.Run
run_as m r = record { position = position_of m r.stand; items = r.items; cycles = r.cycles; course = course_of r.ending }

-- nothing is done yet, in a listing of n items
abbrev pub begun : ℕ → Stand → ItemRun
begun n s =
    record { stand = s; items = 0; cycles = 0; ending = if (ltb s.item.0 n) ending.GoesOn (ending.Outside PastEnd) }

-- the run with one item more, which counts so many cycles; an item in front of which the machine stands outside counts none
abbrev pub counted : ItemRun → ℕ → Carried → ItemRun
counted r k (On s) = record { stand = s; items = r.items + 1; cycles = r.cycles + k; ending = ending.GoesOn }
counted r k (Stopped s x) = record { stand = s; items = r.items + 1; cycles = r.cycles + k; ending = ending.Stopped x }
counted r k (Outside why) = record { stand = r.stand; items = r.items; cycles = r.cycles; ending = ending.Outside why }

abbrev pub is_over : Ending → Bool
is_over ending.GoesOn = false
is_over (ending.Stopped x) = true
is_over (ending.Outside why) = true
