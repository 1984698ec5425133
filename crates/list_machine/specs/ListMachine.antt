-- The list machine (document 01's own term): one item, over the memory and the stack pointers of the processor. Document 01, Listings. Its
-- instructions are the processor's own: `plain_of` and `taking_of`, committed and thrown by the processor's definitions.
use Rattle.std.specs.Prelude.{Bool, true, false, not, ◌&&◌, List, [], ◌∷◌, ℕ, suc, ◌+◌, ◌*◌, ltb, length, Ok, Err, Some, None}
use Rattle.cell.specs.Place.{Checked}
use Rattle.cell.specs.Choice.{if}
use Rattle.cell.specs.Memory.{cell_at}
use Rattle.cell.specs.Number.{difference}
use Rattle.cell.specs.declared.Fault.TheVariants.{Illegal}
use Rattle.machine.specs.Places.{one_cell, place_of}
use Rattle.exceptions.specs.Exceptions.{exception_of, exception_code}
use Rattle.machine.specs.declared.Exception.{Exception}
use Rattle.machine.specs.Effects.{Store, cell_store, Control, go_on, jump, halt, throwing, Action, Effect, act, raise}
use Rattle.machine.specs.Commits.{places_of, stored_of, touches}
use Rattle.exceptions.specs.Fixed.{handler_cell}
use Rattle.throws.specs.Throws.{CycleState, throw_of, throwing_of}
use Rattle.machine.specs.declared.Machine.{Machine}
use Rattle.machine.specs.declared.Registers.{Registers}
use Rattle.machine.specs.declared.Access.TheVariants.{Push}
use Rattle.machine.specs.declared.Ended.{Ended}
use Rattle.machine.specs.declared.Ended.TheVariants.{Went, Threw, Stopped}
use Rattle.instruction.specs.Plain.{plain_of}
use Rattle.instruction.specs.Taking.{Taking, branch, question_branch, call, loop, plus_loop, literal, taking_of}
use Rattle.instruction.specs.Dispatch.{decode_of, OperandClass, next, plain, taking, operand_class}
use Rattle.pack_layout.specs.Listing.{Listing}
use Rattle.pack_layout.specs.Layout.{opens, form_at}
use Rattle.pack_layout.specs.Packing.{layout, image_cells, address_of, ep_value, behind, entry_at, Entry}
use Rattle.pack_layout.specs.declared.ItemForm.{ItemForm}
use Rattle.pack_layout.specs.declared.ItemForm.TheVariants.{Alone, Immediate, InCell}
use Rattle.list_machine.specs.declared.Outside.{Outside}
use Rattle.list_machine.specs.declared.Outside.TheVariants.{WritesImage, NoEntry, NoHandler, PastEnd}

-- where the machine stands: in front of an item, with memory, SP and RP; ran says that the item was run on into, with no
-- transfer of any kind, from an item that is not immediate
pub record Position : Type 0 where
  pub item : ℕ
  pub ran : Bool
  pub memory : List ℕ
  pub sp : ℕ
  pub rp : ℕ

-- what an item comes to: carried out, with the machine in front of the next; carried out, and the machine stopped by a reason; or not carried
-- out, since the machine stands outside, in front of it, and why
pub data Carried : Type 0 where
  on : Position → Carried
  stopped : ℕ → Position → Carried
  outside : Outside → Carried

abbrev pub is_immediate : ItemForm → Bool
is_immediate Alone = false
is_immediate Immediate = true
is_immediate InCell = false

-- the stores of a throw: its push is judged as the writes of an item are. A bad place is -258, and nothing is written
abbrev pub push_of : ℕ → Exception → Checked → List Store
push_of a e (Err f) = []
push_of a e (Ok _) = cell_store Push a (exception_code e) ∷ []

-- a position with the memory and the stack pointers that a throw leaves
abbrev pub thrown_to : Position → CycleState → Position
thrown_to p t =
    record {
      item = p.item;
      ran = p.ran;
      memory = t.memory;
      sp = t.result.registers.sp;
      rp = t.result.registers.rp;
    }

-- a position after the stores and stack pointers of an action
abbrev pub acted_to : Machine → Position → Action → Position
acted_to machine p x =
    record { item = p.item; ran = p.ran; memory = stored_of machine p.memory x.stores; sp = x.sp; rp = x.rp }

-- the same memory and stack pointers, in front of another item
abbrev pub moved_to : ℕ → Bool → Position → Position
moved_to i ran p = record { item = i; ran = ran; memory = p.memory; sp = p.sp; rp = p.rp }

-- in front of the entry that was found; or outside, by the reason that fits the transfer
abbrev pub entered_at : Outside → Entry → Position → Carried
entered_at why (Some i) p = on (moved_to i.0 false p)
entered_at why None p = outside why

module _ (machine : Machine) (base : ℕ) (l : Listing) where
  -- what the processor would fetch for an instruction that takes an operand: a literal's value; the address of a branch's target
  abbrev pub operand_at : ℕ → Taking → ℕ
  operand_at i literal = l.operand i
  operand_at i branch = address_of base l (l.operand i)
  operand_at i question_branch = address_of base l (l.operand i)
  operand_at i call = address_of base l (l.operand i)
  operand_at i loop = address_of base l (l.operand i)
  operand_at i plus_loop = address_of base l (l.operand i)

  -- EP stands for the item's EP value, and a call leaves the address behind it. NEXT is no kind
  abbrev pub effect_as : OperandClass → Position → Effect
  effect_as next p = raise Illegal
  effect_as plain p = plain_of machine (decode_of (l.kind p.item)) p.memory (ep_value base l p.item) p.sp p.rp
  effect_as (taking form t) p =
      taking_of machine t p.memory p.sp p.rp (Ok (operand_at p.item t)) (behind base l p.item)

  abbrev pub effect_at : Position → Effect
  effect_at p = effect_as (operand_class (decode_of (l.kind p.item))) p

  -- some store meets the image
  abbrev pub writes_image : List Store → Bool
  writes_image stores = touches base (base + 4 * image_cells l) stores

  -- on to the entry whose cell is at an address
  abbrev pub transferred : Outside → ℕ → Position → Carried
  transferred why a p = entered_at why (entry_at base l a) p

  -- the registers that a throw goes by; A plays no part in it
  abbrev pub registers_at : Position → Registers
  registers_at p = record { ep = ep_value base l p.item; a = 0; sp = p.sp; rp = p.rp }

  -- where a throw goes on: 'THROW, in the memory that the throw's writes leave
  abbrev pub handler_at : CycleState → ℕ
  handler_at t = cell_at machine.order t.memory handler_cell

  -- a throw as the processor makes it: stopped with -258 or -259, or on to 'THROW, and outside where no entry is there
  abbrev pub handled_by : Position → CycleState → Ended → Carried
  handled_by p t (Stopped x) = stopped x (thrown_to p t)
  handled_by p t Went = transferred NoHandler (handler_at t) (thrown_to p t)
  handled_by p t (Threw f) = transferred NoHandler (handler_at t) (thrown_to p t)

  abbrev pub handled : Position → CycleState → Carried
  handled p t = handled_by p t t.result.ended

  -- an item that raises
  abbrev pub thrown : Position → Exception → Carried
  thrown p e =
      if (writes_image (push_of (difference p.sp 4) e (place_of machine one_cell Push (length p.memory) (difference p.sp 4))))
      (outside WritesImage)
      (handled p (throw_of machine p.memory (registers_at p) e))

  -- behind the last item: outside
  abbrev pub ran_on : Position → Carried
  ran_on p =
      if (ltb (suc p.item) l.count)
      (on (moved_to (suc p.item) (not (is_immediate (form_at (layout l) p.item))) p))
      (outside PastEnd)

  -- what follows the stores, p the position after them
  abbrev pub followed : Control → Position → Carried
  followed go_on p = ran_on p
  followed (jump a) p = transferred NoEntry a p
  followed (halt x) p = stopped x p
  followed throwing p = handled p (throwing_of machine p.memory (registers_at p))

  -- an action whose places were judged: a bad place raises, as in the processor
  abbrev pub acted : Position → Action → Checked → Carried
  acted p x (Err f) = thrown p (exception_of machine f)
  acted p x (Ok _) = if (writes_image x.stores) (outside WritesImage) (followed x.control (acted_to machine p x))

  abbrev pub carried_by : Position → Effect → Carried
  carried_by p (raise f) = thrown p (exception_of machine f)
  carried_by p (act x) = acted p x (places_of machine (length p.memory) x.stores)

  -- the item in front of which the machine stands
  unfoldable pub carry_out : Position → Carried
  carry_out p = carried_by p (effect_at p)

  -- the cycles that an item counts: a second one for the NEXT before it, where the item opens a cell and the one before it ran on
  abbrev pub cycles_at : Position → ℕ
  cycles_at p = if (p.ran && opens (layout l) p.item) 2 1
