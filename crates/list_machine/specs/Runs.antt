-- Runs of the list machine. Document 01, Listings: an item that throws or stops the machine by a reason is part of its run, one in front of which it
-- stands outside is not.
use Rattle.std.specs.Prelude.{Bool, true, false, List, ℕ, zero, suc, ◌+◌, ltb}
use Rattle.cell.specs.Choice.{if}
use Rattle.machine.specs.declared.Machine.{Machine}
use Rattle.pack_layout.specs.Listing.{Listing}
use Rattle.list_machine.specs.declared.Outside.{Outside}
use Rattle.list_machine.specs.declared.Outside.TheVariants.{PastEnd}
use Rattle.list_machine.specs.ListMachine.{Position, Carried, on, stopped, outside, carry_out, cycles_at}

-- how a run stands: it goes on, it was stopped by a reason, or it stopped outside, in front of an item, and why
pub data Course : Type 0 where
  goes_on : Course
  stopped_by : ℕ → Course
  stood_outside : Outside → Course

-- a run that makes no more items
abbrev pub is_over : Course → Bool
is_over goes_on = false
is_over (stopped_by x) = true
is_over (stood_outside why) = true

-- a run so far: the position, the items carried out, the cycles counted
pub record Run : Type 0 where
  pub position : Position
  pub items : ℕ
  pub cycles : ℕ
  pub course : Course

module _ (machine : Machine) (base : ℕ) (l : Listing) where
  -- the run with one item more, by what the item comes to
  abbrev pub further_by : Run → Carried → Run
  further_by s (on p) =
      record { position = p; items = suc s.items; cycles = s.cycles + cycles_at machine base l s.position; course = goes_on }
  further_by s (stopped x p) =
      record { position = p; items = suc s.items; cycles = s.cycles + cycles_at machine base l s.position; course = stopped_by x }
  further_by s (outside why) = record { position = s.position; items = s.items; cycles = s.cycles; course = stood_outside why }

  abbrev pub further_in : Run → Course → Run
  further_in s goes_on = further_by s (carry_out machine base l s.position)
  further_in s (stopped_by x) = s
  further_in s (stood_outside why) = s

  unfoldable pub further : Run → Run
  further s = further_in s s.course

  -- k items, or as many as the machine carries out
  unfoldable pub run_of : ℕ → Run → Run
  run_of zero s = s
  run_of (suc k) s = further (run_of k s)

-- a run taken up at a position: nothing is done yet. An item that the listing does not have stands past the end
abbrev pub resuming : Listing → Position → Run
resuming l p =
    record { position = p; items = 0; cycles = 0; course = if (ltb p.item l.count) goes_on (stood_outside PastEnd) }

-- a run from item 0 on, with the memory, SP and RP that it is given
abbrev pub beginning : Listing → List ℕ → ℕ → ℕ → Run
beginning l m sp rp = resuming l (record { item = 0; ran = false; memory = m; sp = sp; rp = rp })
