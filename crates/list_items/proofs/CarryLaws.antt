-- What the code of one item finds and carries out is the list machine's item.
use Rattle.std.specs.Prelude.{Ok}
use mathlib.Core.Path.{◌≡◌, ap, ◌∙◌}
use mathlib.Core.List.{List}
use Prim.Native.Nat.{ℕ, ◌+◌, ◌*◌, ◌<◌}
use native.Mathlib.Omega.{arith}
use lib.ListN.{length, get_or}
use Rattle.cell.specs.Refusals.{Lent}
use Rattle.machine.specs.Effects.{asked}
use Rattle.machine.specs.declared.Machine.{Machine}
use Rattle.machine.specs.declared.Registers.{Registers}
use Rattle.instruction.specs.Dispatch.{decode_of, OperandClass, next, plain, taking, operand_class}
use Rattle.pack_layout.specs.Listing.{Listing, listed}
use Rattle.pack_layout.specs.Packing.{ep_value, behind}
use Rattle.list_machine.specs.ListMachine.{Position, operand_at, effect_as, effect_at, carried_by, carry_out}
use Rattle.list_shapes.specs.Shapes.{shape_stores, Asked}
use Rattle.list_effects.proofs.Alone.{Alone, raises, plain_alone, taking_alone}
use Rattle.list_tables.specs.Tables.{immediate_in, rows, entry_below, Settled}
use Rattle.list_tables.specs.declared.Image.{Image}
use Rattle.list_tables.specs.declared.ItemRow.{ItemRow}
use Rattle.list_tables.proofs.TableLaws.{rows_is, finds}
use Rattle.list_proposing.specs.Stands.{position_of}
use Rattle.list_judging.specs.Ways.{intent_of, performed}
use Rattle.list_proposing.specs.declared.Stand.{Stand}
use Rattle.list_judging.specs.declared.Intent.{Intent}
use Rattle.list_proposing.proofs.ProposeLaws.{regs, regs_is}
use Rattle.list_items.proofs.IntentLaws.{intent_is}

-- an effect moves only the stack pointers, and none of them where it raises or throws
effect_alone : (machine : Machine) (base : ℕ) (l : Listing) (p : Position) (c : OperandClass) → Alone p.sp p.rp (effect_as machine base l c p)
effect_alone machine base l p next = raises
effect_alone machine base l p plain =
    plain_alone machine p.memory (ep_value base l p.item) p.sp p.rp (decode_of (l.kind p.item))
effect_alone machine base l p (taking f t) =
    taking_alone machine p.memory (ep_value base l p.item) p.sp p.rp (Ok (operand_at machine base l p.item t)) (behind base l p.item) t

module _ (kinds operands : List ℕ) (table : List ItemRow) (image : Image) (s : Settled kinds operands table image) (machine : Machine) (m : List ℕ)
    (st : Stand) (h : st.item.0 < length kinds) (n : Lent (length m)) (a : Asked)
    (means : asked (shape_stores machine.order m) a ≡ effect_at machine image.base.0 (listed kinds operands) (position_of m st)) where
  alone : Alone st.sp st.rp (asked (shape_stores machine.order m) a)
  alone = rw means (effect_alone machine image.base.0 (listed kinds operands) (position_of m st) (operand_class (decode_of (get_or kinds st.item.0 0))))

  pub carry_is : (i : Intent)
      → i ≡ intent_of machine m (entry_below table image.base.0 (rows table)) image.base.0 (image.base.0 + 4 * image.cells.0)
      (rows table) st.item.0 (immediate_in table st.item.0) st.sp a
      → (r : Registers) → r ≡ regs kinds operands table image s machine m st h
      → performed machine (position_of m st) r i ≡ carry_out machine image.base.0 (listed kinds operands) (position_of m st)
  unfolding intent_of carry_out
  carry_is i q r e =
      rw (
        q,
        e,
        s.size,
        rows_is kinds operands table image s,
        (s.rows st.item.0 h).immediate,
        regs_is kinds operands table image s machine m st h,
      )
      (intent_is machine image.base.0 (listed kinds operands) (entry_below table image.base.0 (length kinds))
      (finds kinds operands table image s) (position_of m st) n.whole (omega (arith, n.least)) a alone
      ∙ ap (carried_by machine image.base.0 (listed kinds operands) (position_of m st)) means)
