-- What the code of one item has from the table, and what the item then asks for.
use mathlib.Core.Path.{◌≡◌, ◌∙◌}
use mathlib.Core.List.{List}
use Prim.Native.Nat.{ℕ, ◌+◌, ◌*◌, ◌%◌, ◌^◌, ◌<◌}
use native.Mathlib.Omega.{arith}
use lib.ListN.{length, get_or}
use Rattle.cell.specs.Memory.{cell_count}
use Rattle.cell.specs.Place.{address}
use Rattle.cell.specs.declared.Address.{Address}
use Rattle.cell.specs.declared.CellCount.{CellCount}
use Rattle.machine.specs.Effects.{asked}
use Rattle.machine.specs.declared.Machine.{Machine}
use Rattle.machine.specs.declared.Registers.{Registers}
use Rattle.instruction.specs.Plain.{plain_at}
use Rattle.instruction.specs.Taking.{taking_at}
use Rattle.instruction.specs.Dispatch.{decode_of}
use Rattle.instruction.specs.declared.OperandForm.TheVariants as form
use Rattle.pack_layout.specs.Kinds as sorts
use Rattle.pack_layout.specs.declared.Class.TheVariants as class
use Rattle.pack_layout.specs.Listing.{listed}
use Rattle.pack_layout.specs.Packing.{distance, address_of, behind}
use Rattle.list_machine.specs.ListMachine.{registers_at, effect_at}
use Rattle.list_shapes.specs.Shapes.{shape_stores, taking_kind, Asked}
use Rattle.list_tables.specs.Tables.{place_in, next_in, behind_in, Settled}
use Rattle.list_tables.specs.declared.Image.{Image}
use Rattle.list_tables.specs.declared.ItemRow.{ItemRow}
use Rattle.list_tables.proofs.TableLaws.{room, place_low, behind_room, next_is, behind_is, target_in, target_is}
use Rattle.list_proposing.specs.Stands.{position_of, registers_for}
use Rattle.list_proposing.specs.declared.Stand.{Stand}
use Rattle.list_proposing.proofs.KindLaws.{lands, plain_effect, literal_effect, branch_effect}

module _ (kinds operands : List ℕ) (table : List ItemRow) (image : Image) (s : Settled kinds operands table image) (machine : Machine) (m : List ℕ)
    (st : Stand) (h : st.item.0 < length kinds) where
  -- the registers of the item, as the code has them
  abbrev pub regs : Registers
  regs = registers_for (image.base.0 + 4 * next_in table st.item.0) 0 st

  pub regs_is : regs ≡ registers_at machine image.base.0 (listed kinds operands) (position_of m st)
  regs_is = rw (next_is kinds operands table image s st.item.0 h)

  -- a branch leads to its target's address from behind it
  branch_reaches : sorts.class_of (get_or kinds st.item.0 0) ≡ class.Branch → (ep a : ℕ)
      → ep ≡ image.base.0 + 4 * behind_in table st.item.0
      → a ≡ distance (behind_in table st.item.0) (place_in table (get_or operands st.item.0 0))
      → (ep + 4 * a) % 2 ^ 32 ≡ address_of image.base.0 (listed kinds operands) (get_or operands st.item.0 0)
  branch_reaches q ep a e f =
      rw (e, f)
      (lands image.base.0 (behind_in table st.item.0) (place_in table (get_or operands st.item.0 0))
      (omega (arith, (room kinds operands table image s).2)) (behind_room kinds operands table image s st.item.0 h)
      (place_low kinds operands table image s (get_or operands st.item.0 0) (target_in kinds operands table image s st.item.0 h q))
      ∙ target_is kinds operands table image s st.item.0 h q)

  -- what the item asks for, by the class of its kind
  abbrev Asks : Asked → Type 0
  Asks a = asked (shape_stores machine.order m) a ≡ effect_at machine image.base.0 (listed kinds operands) (position_of m st)

  pub asks_plain : (a : Asked) (r : Registers) → r ≡ regs → sorts.class_of (get_or kinds st.item.0 0) ≡ class.Plain
      → asked (shape_stores machine.order m) a ≡ plain_at machine (decode_of (get_or kinds st.item.0 0)) m r → Asks a
  asks_plain a r e q p = p ∙ plain_effect machine image.base.0 (listed kinds operands) (position_of m st) r (e ∙ regs_is) q

  -- an item that takes an operand: the registers r, at the address behind it, with x in A
  module _ (a : Asked) (r : Registers) (ep : Address) (x : ℕ) (back : CellCount) (made : r ≡ registers_for ep.0 x st)
      (there : ep ≡ address (image.base.0 + 4 * back.0)) (follows : back ≡ cell_count (behind_in table st.item.0))
      (p : asked (shape_stores machine.order m) a ≡ taking_at machine form.Immediate (taking_kind (get_or kinds st.item.0 0)) m r) where
    ep_is : r.ep ≡ image.base.0 + 4 * behind_in table st.item.0
    ep_is = rw (made, there, follows)

    sp_is : r.sp ≡ st.sp
    sp_is = rw made

    rp_is : r.rp ≡ st.rp
    rp_is = rw made

    a_is : r.a ≡ x
    a_is = rw made

    behind_it : r.ep ≡ behind image.base.0 (listed kinds operands) st.item.0
    behind_it = ep_is ∙ behind_is kinds operands table image s st.item.0 h

    pub asks_literal : sorts.class_of (get_or kinds st.item.0 0) ≡ class.Literal → x ≡ get_or operands st.item.0 0 → Asks a
    asks_literal q e =
        p
        ∙ literal_effect machine image.base.0 (listed kinds operands) (position_of m st) r sp_is rp_is behind_it
        (get_or kinds st.item.0 0) q (a_is ∙ e)

    pub asks_branch : sorts.class_of (get_or kinds st.item.0 0) ≡ class.Branch → (to : CellCount) → x ≡ distance back.0 to.0
        → to ≡ cell_count (place_in table (get_or operands st.item.0 0)) → Asks a
    asks_branch q to e f =
        let g : r.a ≡ distance (behind_in table st.item.0) (place_in table (get_or operands st.item.0 0)) = a_is ∙ e ∙ rw (follows, f) in
        p
        ∙ branch_effect machine image.base.0 (listed kinds operands) (position_of m st) r sp_is rp_is behind_it
        (get_or kinds st.item.0 0) q (branch_reaches q r.ep r.a ep_is g)
