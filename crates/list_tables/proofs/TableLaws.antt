-- The table of a settled layout: how a row is written, and what it says of one item.
use mathlib.Core.Path.{◌≡◌, refl, sym, ap, ◌∙◌}
use mathlib.Core.Bool.{Bool}
use mathlib.Core.List.{List}
use mathlib.Core.Logic.{⊎_elim}
use Prim.Native.Nat.{ℕ, zero, suc, ◌+◌, ◌*◌, ◌^◌, ◌≤◌, ◌<◌}
use native.Mathlib.Nat.{eq-or-lt_of_le}
use native.Mathlib.Omega.{arith}
use lib.Dec.{eqb}
use lib.ListN.{length, get_or, set}
use lib.Seq.{get_or-set_same, get_or-set_other}
use Rattle.pack_layout.specs.Kinds as sorts
use Rattle.pack_layout.specs.declared.Class.TheVariants as class
use Rattle.pack_layout.specs.declared.ItemForm.{ItemForm}
use Rattle.pack_layout.specs.declared.Class.{Class}
use Rattle.pack_layout.specs.declared.PlacedItem.{PlacedItem}
use Rattle.pack_layout.specs.Placed.{placed_at, marked_in}
use Rattle.pack_layout.specs.Listing.{Listing, listed, Checked}
use Rattle.pack_layout.specs.Layout.{extra, mid, form_at}
use Rattle.pack_layout.specs.Packing as packing
use Rattle.pack_layout.specs.Packing.{marks as marks_of, form_of, layout, image_cells, address_of, ep_value, behind, entry_at}
use Rattle.pack_layout.proofs.Packing.{Placed, base_of}
use Rattle.pack_layout.proofs.Placing.{left_le, at_most, at_before, reach, opens_is}
use Rattle.pack_layout.proofs.Listing.{target_below, some_item}
use Rattle.cell.specs.Memory.{cell_count}
use Rattle.cell.specs.declared.CellCount.{CellCount}
use Rattle.pack_prepare.specs.Prepared.{Prepared}
use Rattle.list_machine.specs.ListMachine.{is_immediate}
use Rattle.list_tables.specs.Tables.{no_row, place_in, next_in, behind_in, rows, entry_below, Near, Row, Rows, Settled}
use Rattle.list_tables.specs.declared.ItemRow.{ItemRow}
use Rattle.list_tables.specs.declared.Image.{Image}

-- a row that is written: it stands there, and those before it stay
module _ (l : Listing) (table : List ItemRow) (i : ℕ) (v : ItemRow) (fits : i < length table) where
  here : Row l (set table i v) i → (j : ℕ) → j ≡ i → Row l (set table i v) j
  here r j e = rw e r

  before : (j : ℕ) → j < i → Row l table j → Row l (set table i v) j
  before j h r =
      let e = get_or-set_other table i j v no_row (λ (z : j ≡ i). omega arith) in
      record {
        place = ap (λ (x : ItemRow). x.at.0) e ∙ r.place;
        next = ap (λ (x : ItemRow). x.next.0) e ∙ r.next;
        behind = ap (λ (x : ItemRow). x.behind.0) e ∙ r.behind;
        entry = ap (λ (x : ItemRow). x.entry) e ∙ r.entry;
        opens = ap (λ (x : ItemRow). x.opens) e ∙ r.opens;
        immediate = ap (λ (x : ItemRow). x.immediate) e ∙ r.immediate;
      }

  one_more : Row l (set table i v) i → Rows l table i → Rows l (set table i v) (i + 1)
  one_more r rs j h = ⊎_elim (here r j) (λ (e : j < i). before j e (rs j e)) (eq-or-lt_of_le (let t : j ≤ i = omega arith in t))

-- the array of a layout, read for the row of item i
module _ (kinds operands : List ℕ) (placed : List PlacedItem) (checked : Checked kinds operands)
    (prepared : Prepared kinds operands placed) (i : ℕ) (h : i < length kinds) where
  abbrev item : PlacedItem
  item = placed_at placed i

  pub left_low : item.left ≤ 3
  left_low = omega (arith, prepared.laid.left i h, left_le (layout (listed kinds operands)) i)

  module _ (c : Class) (sort : c ≡ sorts.class_of (get_or kinds i 0)) (g : ItemForm)
      (form : g ≡ form_of c item.marked (get_or operands i 0) item.left) where
    form_is : g ≡ form_at (layout (listed kinds operands)) i
    unfolding marked_in
    form_is =
        form
        ∙ ap (λ (k : Class). form_of k item.marked (get_or operands i 0) item.left) sort
        ∙ ap (λ (f : ℕ → Bool). form_of (sorts.class_of (get_or kinds i 0)) (f i) (get_or operands i 0) item.left) prepared.settled
        ∙ ap (λ (x : ℕ). form_of (sorts.class_of (get_or kinds i 0)) (marks_of (listed kinds operands) i) (get_or operands i 0) x)
        (prepared.laid.left i h)

    module _ (x : CellCount) (more : x ≡ cell_count (extra g)) where
      pub behind_low : item.next.0 + x.0 ≤ 8192
      behind_low =
          rw (more, form_is)
          (omega (
            arith,
            prepared.laid.next i h,
            reach (layout (listed kinds operands)) i (length kinds) h,
            at_most (layout (listed kinds operands)) (length kinds),
            (some_item (listed kinds operands) checked.input).1,
          ))

      pub next_row : (table : List ItemRow) → length table ≡ length kinds → (v : ItemRow) → v.at.0 ≡ item.at.0 → v.next.0 ≡ item.next.0
          → v.behind.0 ≡ item.next.0 + x.0 → v.entry ≡ item.entry → v.opens ≡ eqb item.left 3 → v.immediate ≡ is_immediate g
          → Rows (listed kinds operands) table i → Rows (listed kinds operands) (set table i v) (i + 1)
      next_row table whole v at next behind entered opened short rs =
          let l = listed kinds operands in
          let e = get_or-set_same table i v no_row (omega arith) in
          one_more l table i v (omega arith)
          (record {
            place = ap (λ (x : ItemRow). x.at.0) e ∙ at ∙ prepared.laid.at i h;
            next = ap (λ (x : ItemRow). x.next.0) e ∙ next ∙ prepared.laid.next i h;
            behind = ap (λ (x : ItemRow). x.behind.0) e ∙ behind ∙ rw (more, form_is, prepared.laid.next i h);
            entry = ap (λ (x : ItemRow). x.entry) e ∙ entered ∙ prepared.entered i h;
            opens = ap (λ (x : ItemRow). x.opens) e ∙ opened ∙ ap (λ (k : ℕ). eqb k 3) (prepared.laid.left i h) ∙ sym (opens_is (layout l) i);
            immediate = ap (λ (x : ItemRow). x.immediate) e ∙ short ∙ ap is_immediate form_is;
          })
          rs

-- what a settled table gives for the run
module _ (kinds operands : List ℕ) (table : List ItemRow) (image : Image) (s : Settled kinds operands table image) where
  abbrev l : Listing
  l = listed kinds operands

  abbrev base : ℕ
  base = image.base.0

  pub rows_is : rows table ≡ length kinds
  rows_is = omega (arith, s.whole)

  pub few_items : (0 < length kinds) × (length kinds ≤ 4096)
  few_items = some_item l s.checked.input

  placed_is : Placed base (image_cells l)
  placed_is = base_of base (image_cells l) (rw (← s.size) s.place)

  some_cell : (0 < image_cells l) × (image_cells l ≤ 8192)
  some_cell =
      (omega (arith, reach (layout l) 0 (length kinds) few_items.0, at_before (layout l) 0), omega (arith, at_most (layout l) (length kinds), few_items.1))

  pub room : (0 < image.cells.0) × (image.cells.0 ≤ 8192) × (base + 4 * image.cells.0 ≤ 16777216)
  room = rw s.size (some_cell.0, some_cell.1, placed_is.inside)

  below : (i : ℕ) → i < length kinds → (mid (layout l) i).next + extra (form_at (layout l) i) ≤ image_cells l
  below i h = omega (arith, reach (layout l) i (length kinds) h)

  pub place_low : (i : ℕ) → i < length kinds → place_in table i ≤ 8192
  place_low i h = omega (arith, (s.rows i h).place, at_before (layout l) i, below i h, some_cell.1)

  pub next_low : (i : ℕ) → i < length kinds → next_in table i ≤ 8192
  next_low i h = omega (arith, (s.rows i h).next, below i h, some_cell.1)

  pub behind_room : (i : ℕ) → i < length kinds → behind_in table i ≤ 8192
  behind_room i h = omega (arith, (s.rows i h).behind, below i h, some_cell.1)

  pub is_near : Near table base
  is_near =
      record {
        few = omega (arith, rows_is, few_items.1);
        near = λ i h. omega (arith, place_low i (omega (arith, rows_is)), room.2);
      }

  pub in_rows : (i : ℕ) → i < length kinds → (i < rows table) × (rows table ≤ 4096)
  in_rows i h = (omega (arith, rows_is), is_near.few)

  pub next_near : (i : ℕ) → i < length kinds → base + 4 * next_in table i < 2 ^ 32
  next_near i h = omega (arith, next_low i h, room.2)

  pub behind_near : (i : ℕ) → i < length kinds → base + 4 * behind_in table i < 2 ^ 32
  behind_near i h = omega (arith, behind_room i h, room.2)

  pub image_near : (0 < image.cells.0) × (base + 4 * image.cells.0 < 2 ^ 32)
  image_near = (room.0, omega (arith, room.2))

  pub next_is : (i : ℕ) → i < length kinds → base + 4 * next_in table i ≡ ep_value base l i
  next_is i h = rw (s.rows i h).next

  pub behind_is : (i : ℕ) → i < length kinds → base + 4 * behind_in table i ≡ behind base l i
  behind_is i h = omega (arith, (s.rows i h).behind)

  -- the target of a branch
  pub target_in : (i : ℕ) → i < length kinds → sorts.class_of (get_or kinds i 0) ≡ class.Branch → get_or operands i 0 < length kinds
  target_in i h q = target_below l s.checked.input i h q

  pub target_is : (i : ℕ) (h : i < length kinds) → sorts.class_of (get_or kinds i 0) ≡ class.Branch
      → base + 4 * place_in table (get_or operands i 0) ≡ address_of base l (get_or operands i 0)
  target_is i h q = rw (s.rows (get_or operands i 0) (target_in i h q)).place

  entry_in_lem : (k a : ℕ) → k ≤ length kinds → entry_below table base k a ≡ packing.entry_below base l k a
  unfolding entry_below packing.entry_below
  entry_in_lem zero a h = refl
  entry_in_lem (suc i) a h =
      rw ((s.rows i (omega arith)).entry, (s.rows i (omega arith)).place, entry_in_lem i a (omega arith))

  pub finds : (a : ℕ) → entry_below table base (length kinds) a ≡ entry_at base l a
  unfolding entry_at
  finds a = entry_in_lem (length kinds) a (omega arith)
