-- What a machine that runs the image meets at each item of a legal listing: A, EP and the operand cell, and where it goes on.
-- Assumes nothing.
use mathlib.Core.Path.{◌≡◌, refl, ap, ◌∙◌}
use mathlib.Core.Bool.{Bool, true, false}
use Prim.Native.Nat.{ℕ, suc, ◌+◌, ◌*◌, ◌%◌, ◌^◌, ◌≤◌, ◌<◌}
use native.Mathlib.Decide.{dec_lt}
use native.Mathlib.Omega.{arith}
use lib.ListN.{length, get_or}
use Rattle.cell.specs.Shift.{asr8}
use Rattle.pack_layout.specs.declared.Class.{Class}
use Rattle.pack_layout.specs.declared.ItemForm.{ItemForm}
use Rattle.pack_layout.specs.Kinds.{class_of, literal, branch}
use Rattle.pack_layout.specs.Listing.{Listing, calls, entry}
use Rattle.pack_layout.specs.Layout.{Spot, begin, extra, cur, opens, mid, form_at, alone, immediate, in_cell}
use Rattle.pack_layout.specs.Image.{byte_of, above}
use Rattle.pack_layout.specs.Packing.{value_of, branch_value, value, layout, image, address_of, ep_value, register, behind, Legal}
use Rattle.pack_layout.proofs.Placing.{same, closes, next_after, run_on, reach, entry_opens}
use Rattle.pack_layout.proofs.Listing.{target_below, target_entry, call_entry}
use Rattle.pack_layout.proofs.Packing.{decoded, placed, ep_inside, at_inside, size_is}

pub above_open : (g : ItemForm) (v w : ℕ) → (g ≡ immediate → ⊥) → above g true v w ≡ 0
above_open alone v w h = refl
above_open immediate v w h = absurd (h refl)
above_open in_cell v w h = refl

above_immediate : (g : ItemForm) (o : Bool) (v w : ℕ) → g ≡ immediate → above g o v w ≡ v
above_immediate alone o v w q = cc
above_immediate immediate o v w q = refl
above_immediate in_cell o v w q = cc

branch_value_lem : (c : Class) (g h : ItemForm) (x next to base : ℕ) → c ≡ branch → g ≡ h → value_of c g x next to base ≡ branch_value h next to base
branch_value_lem c g h x next to base p q = rw (p, q)

begin_after : (o : Bool) (c : Spot) → o ≡ true → (begin o c).next ≡ (begin o c).at + 1
begin_after true c q = refl
begin_after false c q = cc

-- A and EP after a NEXT at the cell of an item that opens one
pub record Enter (base : ℕ) (l : Listing) (i : ℕ) : Type 0 where
  pub cell : get_or (image base l) (mid (layout l) i).at 0 ≡ register base l i
  pub ep : ep_value base l i ≡ address_of base l i + 4

-- the item after one that is not immediate, in the same cell
pub record Advance (base : ℕ) (l : Listing) (i : ℕ) : Type 0 where
  pub a : asr8 (register base l i) ≡ register base l (suc i)
  pub ep : behind base l i ≡ ep_value base l (suc i)

-- the item after one that is not immediate, in a cell of its own: NEXT comes first
pub record RunOn (base : ℕ) (l : Listing) (i : ℕ) : Type 0 where
  pub a : asr8 (register base l i) ≡ 0
  pub ep : behind base l i ≡ address_of base l (suc i)

module _ (base : ℕ) (l : Listing) (ok : Legal base l) where
  pub opcode : (i : ℕ) → i < l.count → register base l i % 256 ≡ byte_of (form_at (layout l) i) (l.kind i)
  opcode i h = (decoded base l ok i h).byte

  pub enter : (i : ℕ) → opens (layout l) i ≡ true → Enter base l i
  enter i q =
      record {
        cell = rw q;
        ep = omega (arith, begin_after (opens (layout l) i) (cur (layout l) i) q);
      }

  pub advance : (i : ℕ) → suc i < l.count → opens (layout l) (suc i) ≡ false → Advance base l i
  advance i h q =
      record {
        a = (decoded base l ok i (omega arith)).more h ∙ (same (layout l) i q).above (value base l i) (register base l (suc i));
        ep = omega (arith, (same (layout l) i q).next);
      }

  pub run_into : (i : ℕ) → suc i < l.count → opens (layout l) (suc i) ≡ true → (form_at (layout l) i ≡ immediate → ⊥) → RunOn base l i
  run_into i h q g =
      record {
        a =
            (decoded base l ok i (omega arith)).more h
            ∙ ap (λ (o : Bool). above (form_at (layout l) i) o (value base l i) (register base l (suc i))) q
            ∙ above_open (form_at (layout l) i) (value base l i) (register base l (suc i)) g;
        ep = omega (arith, run_on (layout l) i q);
      }

  -- in the immediate form A becomes the value
  pub immediate_value : (i : ℕ) → i < l.count → form_at (layout l) i ≡ immediate → asr8 (register base l i) ≡ value base l i
  immediate_value i h q = go (dec_lt (suc i) l.count)
    where
      go : Dec (suc i < l.count) → asr8 (register base l i) ≡ value base l i
      go (yes k) = (decoded base l ok i h).more k ∙ above_immediate (form_at (layout l) i) _ _ _ q
      go (no k) = (decoded base l ok i h).last (omega arith) ∙ above_immediate (form_at (layout l) i) _ _ _ q

  -- and EP points at the next item's cell
  pub immediate_next : (i : ℕ) → form_at (layout l) i ≡ immediate → (opens (layout l) (suc i) ≡ true) × (ep_value base l i ≡ address_of base l (suc i))
  immediate_next i q =
      let o = closes (layout l) i q in
      (o, omega (arith, run_on (layout l) i o, ap extra q))

  -- in the cell form the value is the cell at EP, inside the image
  pub operand_cell : (i : ℕ) → i < l.count → form_at (layout l) i ≡ in_cell → get_or (image base l) (mid (layout l) i).next 0 ≡ value base l i
  operand_cell i h q = (decoded base l ok i h).operand q

  pub operand_inside : (i : ℕ) → i < l.count → form_at (layout l) i ≡ in_cell → (mid (layout l) i).next < length (image base l)
  operand_inside i h q = omega (arith, size_is base l ok, reach (layout l) i l.count h, ap extra q)

  pub item_inside : (i : ℕ) → i < l.count → (mid (layout l) i).at < length (image base l)
  item_inside i h = omega (arith, size_is base l ok, at_inside base l ok i h)

  pub literal_value : (i : ℕ) → class_of (l.kind i) ≡ literal → value base l i ≡ l.operand i
  literal_value i q = rw q

  -- a branch's target is an entry
  pub target : (i : ℕ) → i < l.count → class_of (l.kind i) ≡ branch
      → (l.operand i < l.count) × (entry l (l.operand i) ≡ true) × (opens (layout l) (l.operand i) ≡ true)
  target i h q =
      let e = target_entry l i h q in
      (target_below l ok.input i h q, e, entry_opens (layout l) (l.operand i) e)

  -- a taken immediate branch lands on its target's address, and a branch's operand cell is that address
  pub branch_lands : (i : ℕ) → i < l.count → class_of (l.kind i) ≡ branch → form_at (layout l) i ≡ immediate
      → (ep_value base l i + 4 * value base l i) % 2 ^ 32 ≡ address_of base l (l.operand i)
  branch_lands i h c q =
      ap (λ (v : ℕ). (ep_value base l i + 4 * v) % 2 ^ 32)
      (branch_value_lem (class_of (l.kind i)) (form_at (layout l) i) immediate (l.operand i) (mid (layout l) i).next
      (mid (layout l) (l.operand i)).at base c q)
      ∙ lands (mid (layout l) i).next (mid (layout l) (l.operand i)).at
      (omega (arith, (placed base l ok).inside, ep_inside base l ok i h))
      (omega (arith, (placed base l ok).inside, at_inside base l ok (l.operand i) (target i h c).0))
    where
      lands : (next to : ℕ) → base + 4 * next ≤ 16777216 → base + 4 * to ≤ 16777216
          → (base + 4 * next + 4 * branch_value immediate next to base) % 2 ^ 32 ≡ base + 4 * to
      lands next to a b = omega arith

  pub branch_cell : (i : ℕ) → class_of (l.kind i) ≡ branch → form_at (layout l) i ≡ in_cell
      → value base l i ≡ address_of base l (l.operand i)
  branch_cell i c q =
      branch_value_lem (class_of (l.kind i)) (form_at (layout l) i) in_cell (l.operand i) (mid (layout l) i).next
      (mid (layout l) (l.operand i)).at base c q

  -- what a call leaves to return to: the next item's cell, or the end of the image
  pub call_leaves : (i : ℕ) → calls (l.kind i) ≡ true → behind base l i ≡ address_of base l (suc i)
  call_leaves i q = omega (arith, run_on (layout l) i (entry_opens (layout l) (suc i) (call_entry l i q)))

  pub last_leaves : (i : ℕ) → suc i ≡ l.count → behind base l i ≡ base + 4 * length (image base l)
  last_leaves i q = omega (arith, size_is base l ok, next_after (layout l) i, ap (λ (n : ℕ). (cur (layout l) n).next) q)
