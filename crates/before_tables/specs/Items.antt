-- What of the list machine does not hang on a place, before tables and before areas alike: an item's operand, where it leads, what it counts. Document 01,
-- Listings.
use Rattle.std.specs.Prelude.{Bool, not, ◌&&◌, List, ℕ, suc, ◌+◌, ◌*◌, ltb}
use Rattle.cell.specs.Choice.{if}
use Rattle.cell.specs.Memory.{cell_at}
use Rattle.machine.specs.Effects.{Store, Action}
use Rattle.machine.specs.Commits.{touches}
use Rattle.exceptions.specs.Fixed.{handler_cell}
use Rattle.throws.specs.Throws.{CycleState}
use Rattle.machine.specs.declared.Registers.{Registers}
use Rattle.machine.specs.declared.Ended.{Ended}
use Rattle.machine.specs.declared.Ended.TheVariants.{Went, Threw, Stopped}
use Rattle.instruction.specs.Taking.{Taking, branch, question_branch, call, loop, plus_loop, literal}
use Rattle.pack_layout.specs.Listing.{Listing}
use Rattle.pack_layout.specs.Layout.{opens, form_at}
use Rattle.pack_layout.specs.Packing.{layout, image_cells, address_of, ep_value, entry_at}
use Rattle.list_machine.specs.declared.Outside.{Outside}
use Rattle.list_machine.specs.declared.Outside.TheVariants.{NoHandler, PastEnd}
use Rattle.list_machine.specs.ListMachine.{Position, Carried, on, stopped, outside, is_immediate, thrown_to, moved_to, entered_at}
use Rattle.list_machine.specs.Runs.{goes_on, stopped_by, stood_outside, Run}
use Rattle.before_tables.specs.Commits.{stored_before}

module _ (order base : ℕ) (l : Listing) where
  abbrev pub operand_at_before : ℕ → Taking → ℕ
  operand_at_before i literal = l.operand i
  operand_at_before i branch = address_of base l (l.operand i)
  operand_at_before i question_branch = address_of base l (l.operand i)
  operand_at_before i call = address_of base l (l.operand i)
  operand_at_before i loop = address_of base l (l.operand i)
  operand_at_before i plus_loop = address_of base l (l.operand i)

  abbrev pub writes_image_before : List Store → Bool
  writes_image_before stores = touches base (base + 4 * image_cells l) stores

  abbrev pub transferred_before : Outside → ℕ → Position → Carried
  transferred_before why a p = entered_at why (entry_at base l a) p

  abbrev pub registers_at_before : Position → Registers
  registers_at_before p = record { ep = ep_value base l p.item; a = 0; sp = p.sp; rp = p.rp }

  -- a throw as the processor makes it: stopped, or on at 'THROW
  abbrev pub handled_by_before : Position → CycleState → Ended → Carried
  handled_by_before p t (Stopped x) = stopped x (thrown_to p t)
  handled_by_before p t Went = transferred_before NoHandler (cell_at order t.memory handler_cell) (thrown_to p t)
  handled_by_before p t (Threw e) = transferred_before NoHandler (cell_at order t.memory handler_cell) (thrown_to p t)

  abbrev pub handled_before : Position → CycleState → Carried
  handled_before p t = handled_by_before p t t.result.ended

  -- behind the last item: outside
  abbrev pub ran_on_before : Position → Carried
  ran_on_before p =
      if (ltb (suc p.item) l.count)
      (on (moved_to (suc p.item) (not (is_immediate (form_at (layout l) p.item))) p))
      (outside PastEnd)

  abbrev pub acted_to_before : Position → Action → Position
  acted_to_before p x =
      record { item = p.item; ran = p.ran; memory = stored_before order p.memory x.stores; sp = x.sp; rp = x.rp }

  -- the cycles that an item counts
  abbrev pub cycles_at_before : Position → ℕ
  cycles_at_before p = if (p.ran && opens (layout l) p.item) 2 1

  -- a run with one item more
  abbrev pub further_by_before : Run → Carried → Run
  further_by_before s (on p) =
      record { position = p; items = suc s.items; cycles = s.cycles + cycles_at_before s.position; course = goes_on }
  further_by_before s (stopped x p) =
      record { position = p; items = suc s.items; cycles = s.cycles + cycles_at_before s.position; course = stopped_by x }
  further_by_before s (outside why) = record { position = s.position; items = s.items; cycles = s.cycles; course = stood_outside why }
