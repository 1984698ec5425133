-- Where an item leads, found before anything is written. Document 01, Listings: the four reasons for which the list machine stands outside, and the
-- stops that it shares with the processor.
use Rattle.std.specs.Prelude.{Bool, false, not, ◌&&◌, List, ℕ, ◌+◌, ◌%◌, ltb, eqb, length, Ok, Err, Some, None}
use Rattle.cell.specs.Place.{Checked}
use Rattle.cell.specs.Choice.{if}
use Rattle.cell.specs.Memory.{cell_at}
use Rattle.cell.specs.Number.{difference}
use Rattle.machine.specs.Places.{one_cell, place_of}
use Rattle.exceptions.specs.Exceptions.{exception_of, exception_code}
use Rattle.machine.specs.Commits.{Stepped, commit_of, touches}
use Rattle.exceptions.specs.Fixed.{bad_stack, bad_handler, handler_cell}
use Rattle.throws.specs.Throws.{CycleState, throw_of, throwing_of}
use Rattle.machine.specs.declared.Machine.{Machine}
use Rattle.machine.specs.declared.Exception.{Exception}
use Rattle.machine.specs.declared.Registers.{Registers}
use Rattle.machine.specs.declared.Request.{Request}
use Rattle.machine.specs.declared.Then.{Then}
use Rattle.machine.specs.declared.Then.TheVariants as then
use Rattle.machine.specs.declared.Access.TheVariants.{Push, Stream}
use Rattle.list_machine.specs.declared.Outside.{Outside}
use Rattle.list_machine.specs.declared.Outside.TheVariants.{WritesImage, NoEntry, NoHandler, PastEnd}
use Rattle.list_machine.specs.ListMachine as lists
use Rattle.list_shapes.specs.Shapes.{shape_stores, shape_effect, shape_fault, Asked}
use Rattle.list_shapes.specs.declared.Shape.{Shape}
use Rattle.list_judging.specs.declared.Way.{Way}
use Rattle.list_judging.specs.declared.Way.TheVariants as way
use Rattle.list_judging.specs.declared.Cause.{Cause}
use Rattle.list_judging.specs.declared.Cause.TheVariants as cause
use Rattle.list_judging.specs.declared.Intent.{Intent}
use Rattle.list_judging.specs.declared.Intent.TheVariants.{Act, End}
use Rattle.pack_layout.specs.Packing.{Entry}

-- to the entry that was found; or outside, by the reason that fits the transfer
abbrev pub to_entry : Outside → Entry → Way
to_entry why (Some i) = way.To i false
to_entry why None = way.Outside why

-- the item after this one, or outside; n the number of items, and whether the item is in its immediate form
abbrev pub next_way : ℕ → ℕ → Bool → Way
next_way n item immediate = if (ltb (item + 1) n) (way.To (record { 0 = item + 1 }) (not immediate)) (way.Outside PastEnd)

-- 'THROW is h, and its place was judged
abbrev pub handler_by : Entry → Checked → Way
handler_by e (Ok _) = to_entry NoHandler e
handler_by e (Err f) = way.Halt bad_handler

-- what was asked for, unless its reading failed or one of its places is bad
abbrev pub if_good : Checked → Request Shape → Asked
if_good (Ok _) q = Ok q
if_good (Err f) q = Err f

abbrev pub judged : Machine → List ℕ → Asked → Asked
judged machine m (Ok q) = if_good (shape_fault machine m q.stores) q
judged machine m (Err f) = Err f

module _ (machine : Machine) (m : List ℕ) (find : ℕ → Entry) where
  abbrev pub handler_way : ℕ → Way
  handler_way h = handler_by (find h) (place_of machine one_cell Stream (length m) h)

  -- 'THROW once the code was pushed at a
  abbrev pub handler_after : ℕ → Exception → ℕ
  handler_after a e = if (eqb a handler_cell) (exception_code e) (cell_at machine.order m handler_cell)

  -- a throw whose push was judged; the push may meet the image
  abbrev pub push_way : ℕ → ℕ → ℕ → Exception → Checked → Way
  push_way lo hi a e (Err f) = way.Halt bad_stack
  push_way lo hi a e (Ok _) = if (ltb a hi && ltb lo (a + 4)) (way.Outside WritesImage) (handler_way (handler_after a e))

  abbrev pub throw_way : ℕ → ℕ → ℕ → Exception → Way
  throw_way lo hi sp e = push_way lo hi (difference sp 4) e (place_of machine one_cell Push (length m) (difference sp 4))

  -- THROW itself
  abbrev pub given_way : ℕ → Way
  given_way sp = if (eqb (sp % 4) 0) (handler_way (cell_at machine.order m handler_cell)) (way.Halt bad_stack)

  -- what follows the stores of a request: n the number of items
  abbrev pub intent_then : ℕ → ℕ → Bool → ℕ → Request Shape → Then → Intent
  intent_then n item immediate sp q then.GoOn = Act q (next_way n item immediate)
  intent_then n item immediate sp q (then.Jump a) = Act q (to_entry NoEntry (find a.0))
  intent_then n item immediate sp q (then.Halt x) = Act q (way.Halt x)
  intent_then n item immediate sp q then.Throw = End cause.Given (given_way sp)

  module _ (lo hi n item : ℕ) (immediate : Bool) (sp : ℕ) where
    -- an item whose reading and places were judged; its writes may meet the image
    abbrev pub intent_by : Asked → Intent
    intent_by (Err f) = End (cause.Raised (exception_of machine f)) (throw_way lo hi sp (exception_of machine f))
    intent_by (Ok q) =
        if (touches lo hi (shape_stores machine.order m q.stores)) (Act q (way.Outside WritesImage))
        (intent_then n item immediate sp q q.then)

    unfoldable pub intent_of : Asked → Intent
    intent_of asked = intent_by (judged machine m asked)

-- what an item with this way comes to, from the position after its writes
abbrev pub along : Way → lists.Position → lists.Carried
along (way.To i ran) p = lists.on (lists.moved_to i.0 ran p)
along (way.Halt x) p = lists.stopped x p
along (way.Outside why) p = lists.outside why

-- the position after the commit of an instruction
abbrev pub stepped_to : lists.Position → Stepped → lists.Position
stepped_to p s =
    record {
      item = p.item;
      ran = p.ran;
      memory = s.memory;
      sp = s.step.registers.sp;
      rp = s.step.registers.rp;
    }

-- the processor's throw, by what it comes from
abbrev pub end_of : Machine → List ℕ → Registers → Cause → CycleState
end_of machine m r (cause.Raised e) = throw_of machine m r e
end_of machine m r cause.Given = throwing_of machine m r

-- an item carried out as it was meant to be
abbrev pub performed : Machine → lists.Position → Registers → Intent → lists.Carried
performed machine p r (Act q way) = along way (stepped_to p (commit_of machine p.memory r (shape_effect machine p.memory q)))
performed machine p r (End c way) = along way (lists.thrown_to p (end_of machine p.memory r c))
