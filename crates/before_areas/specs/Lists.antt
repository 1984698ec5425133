-- The list machine before areas: an item, and a run of items. Document 01, Listings.
use Rattle.cell.specs.Place.{Checked}
use Rattle.std.specs.Prelude.{List, [], ◌∷◌, ℕ, zero, suc, length, Ok, Err}
use Rattle.cell.specs.Choice.{if}
use Rattle.cell.specs.Number.{difference}
use Rattle.cell.specs.declared.Fault.{Fault}
use Rattle.cell.specs.declared.Fault.TheVariants.{Illegal}
use Rattle.machine.specs.Places.{one_cell}
use Rattle.machine.specs.Effects.{Store, cell_store, Control, go_on, jump, halt, throwing, Action, Effect, act, raise}
use Rattle.machine.specs.declared.Access.TheVariants.{Push}
use Rattle.instruction.specs.Dispatch.{decode_of, OperandClass, next, plain, taking, operand_class}
use Rattle.pack_layout.specs.Listing.{Listing}
use Rattle.pack_layout.specs.Packing.{ep_value, behind}
use Rattle.list_machine.specs.declared.Outside.TheVariants.{WritesImage, NoEntry}
use Rattle.list_machine.specs.ListMachine.{Position, Carried, stopped, outside}
use Rattle.list_machine.specs.Runs.{Course, goes_on, stopped_by, stood_outside, Run}
use Rattle.before_tables.specs.Plain.{plain_before}
use Rattle.before_tables.specs.Taking.{taking_before}
use Rattle.before_tables.specs.Items.{operand_at_before, writes_image_before, transferred_before, registers_at_before, handled_before, ran_on_before, acted_to_before, further_by_before}
use Rattle.before_areas.specs.Places.{place_before, reading_before}
use Rattle.before_areas.specs.Commits.{places_before}
use Rattle.before_areas.specs.Throws.{code_before, throw_before, throwing_before}

-- the store of a throw
abbrev pub push_before : ℕ → Fault → Checked → List Store
push_before a f (Err g) = []
push_before a f (Ok _) = cell_store Push a (code_before f) ∷ []

module _ (order base : ℕ) (l : Listing) where
  -- what an item asks for: EP stands for the item's EP value
  abbrev pub effect_as_before : OperandClass → Position → Effect
  effect_as_before next p = raise Illegal
  effect_as_before plain p =
      plain_before order p.memory (reading_before order p.memory) (ep_value base l p.item) p.sp p.rp
      (decode_of (l.kind p.item))
  effect_as_before (taking form t) p =
      taking_before (reading_before order p.memory) p.sp p.rp (Ok (operand_at_before order base l p.item t)) (behind base l p.item) t

  -- an item that raises
  abbrev pub raised_before : Position → Fault → Carried
  raised_before p f =
      if
      (writes_image_before order base l
      (push_before (difference p.sp 4) f (place_before one_cell (length p.memory) (difference p.sp 4))))
      (outside WritesImage)
      (handled_before order base l p (throw_before order p.memory (registers_at_before order base l p) f))

  abbrev pub followed_before : Control → Position → Carried
  followed_before go_on p = ran_on_before order base l p
  followed_before (jump a) p = transferred_before order base l NoEntry a p
  followed_before (halt x) p = stopped x p
  followed_before throwing p =
      handled_before order base l p (throwing_before order p.memory (registers_at_before order base l p))

  -- an action whose places were judged
  abbrev pub acted_before : Position → Action → Checked → Carried
  acted_before p x (Err f) = raised_before p f
  acted_before p x (Ok _) =
      if (writes_image_before order base l x.stores) (outside WritesImage)
      (followed_before x.control (acted_to_before order base l p x))

  abbrev pub carried_by_before : Position → Effect → Carried
  carried_by_before p (raise f) = raised_before p f
  carried_by_before p (act x) = acted_before p x (places_before (length p.memory) x.stores)

  unfoldable pub carry_before : Position → Carried
  carry_before p = carried_by_before p (effect_as_before (operand_class (decode_of (l.kind p.item))) p)

  abbrev pub further_in_before : Run → Course → Run
  further_in_before s goes_on = further_by_before order base l s (carry_before s.position)
  further_in_before s (stopped_by x) = s
  further_in_before s (stood_outside why) = s

  -- k items, or as many as are carried out
  unfoldable pub run_before : ℕ → Run → Run
  run_before zero s = s
  run_before (suc k) s = further_in_before (run_before k s) (run_before k s).course
