-- One step of the layout pass.
-- Assumes nothing.
use Rattle.std.proofs.Common.{◌≡◌, ℕ, zero, suc, ◌+◌, ◌-◌, ◌*◌, ◌<◌, ◌≤◌, Bool, true, false, List, length, set, refl, ap, ◌∙◌, add-one, arith}
use mathlib.Core.Path.{fun_ext}
use native.Mathlib.Decide.{dec_lt}
use Rattle.cell.specs.Refusals.{passed}
use Rattle.pack_layout.specs.declared.Class.{Class}
use Rattle.pack_layout.specs.declared.Cursor.{Cursor}
use Rattle.pack_layout.specs.declared.ItemForm.{ItemForm}
use Rattle.pack_layout.specs.declared.PlacedItem.{PlacedItem}
use Rattle.pack_layout.specs.Kinds.{class_of}
use Rattle.pack_layout.specs.Placed.{placed_at, Entered, marked_in}
use Rattle.pack_layout.specs.Listing.{Listing, entry, judged_listing}
use Rattle.pack_layout.specs.Layout.{Spot, spot_of, fresh, begin, finish, Plan, cur, opens, mid, left}
use Rattle.pack_layout.specs.Packing.{form_of, plan}
use Rattle.pack_layout.proofs.Listing.{some_item}
use Rattle.pack_layout.proofs.Placing.{left_le, at_most, begin_most}
use Rattle.pack_judging.proofs.Passes.{Passing, pass_start, pass_here, pass_write}

free_of : (f : ℕ) (e : Bool) (c : Spot) → c.free ≡ f → 0 < (begin (fresh f e) c).free
free_of zero e c q = omega arith
free_of (suc f) true c q = omega arith
free_of (suc f) false c q = omega arith

-- an open cell has a byte for its item
pub mid_free : (p : Plan) (i : ℕ) → 0 < (mid p i).free
mid_free p i = free_of (cur p i).free (p.entry i) (cur p i) refl

pub mid_most : (p : Plan) (i : ℕ) → (mid p i).next ≤ 2 * i + 1
mid_most p i = omega (arith, at_most p i, begin_most (opens p i) (cur p i))

-- an item that the pass has laid out: its place is that of the plan, and its flags stay
pub record LaidItem (p : Plan) (j : ℕ) (before after : PlacedItem) : Type 0 where
  pub at : after.at.0 ≡ (mid p j).at
  pub next : after.next.0 ≡ (mid p j).next
  pub left : after.left ≡ left p j
  pub entry : after.entry ≡ before.entry
  pub marked : after.marked ≡ before.marked

-- what the pass keeps before item i
pub record LayStep (l : Listing) (before placed : List PlacedItem) (c : Spot) (i : ℕ) : Type 0 where
  pub pass : Passing (LaidItem (plan l (marked_in before))) before placed l.count i
  pub entered : Entered before (entry l) l.count
  pub item : c ≡ cur (plan l (marked_in before)) i
  pub few : l.count ≤ 4096

pub lay_start : (l : Listing) (before : List PlacedItem) → judged_listing l ≡ passed → length before ≡ l.count
    → Entered before (entry l) l.count → LayStep l before before (record { at = 0; free = 0; next = 0 }) 0
unfolding cur
lay_start l before ok e f =
    record { pass = pass_start (LaidItem (plan l (marked_in before))) before l.count e; entered = f; item = refl; few = (some_item l ok).1 }

module _ (l : Listing) (before placed : List PlacedItem) (c : Spot) (i : ℕ) (t : LayStep l before placed c i) where
  abbrev p : Plan
  p = plan l (marked_in before)

  module _ (h : i < l.count) where
    pub lay_room : c.next ≤ 8192
    lay_room = omega (arith, ap (λ (x : Spot). x.next) t.item, at_most p i, t.few)

    abbrev item : PlacedItem
    item = placed_at placed i

    module _ (d : Cursor) (s : spot_of d ≡ begin (fresh c.free item.entry) c) where
      pub mid_is : spot_of d ≡ mid p i
      mid_is = s ∙ rw (t.item, pass_here _ before l.count placed i t.pass h, t.entered i h)

      pub lay_left : d.free - 1 ≤ 3
      lay_left = omega (arith, ap (λ (x : Spot). x.free) mid_is, left_le p i)

      pub lay_more : (0 < d.free) × (d.next.0 ≤ 8193)
      lay_more =
          (omega (arith, ap (λ (x : Spot). x.free) mid_is, mid_free p i), omega (arith, ap (λ (x : Spot). x.next) mid_is, mid_most p i, t.few))

      pub next_is : (k : Class) (g : ItemForm) (r : Spot) → k ≡ class_of (l.kind i) → g ≡ form_of k item.marked (l.operand i) (d.free - 1)
          → r ≡ finish g (d.free - 1) (spot_of d) → r ≡ cur p (i + 1)
      unfolding cur marked_in
      next_is k g r y w z =
          rw add-one
          (z ∙ rw (w, y, pass_here _ before l.count placed i t.pass h)
          (ap (λ (x : Spot). finish (p.form i (x.free - 1)) (x.free - 1) x) mid_is))

      pub lay_step : (v : PlacedItem) → v.at.0 ≡ d.at.0 → v.next.0 ≡ d.next.0 → v.left ≡ d.free - 1 → v.entry ≡ item.entry
          → v.marked ≡ item.marked → (k : Class) (g : ItemForm) (r : Spot) → k ≡ class_of (l.kind i)
          → g ≡ form_of k item.marked (l.operand i) (d.free - 1) → r ≡ finish g (d.free - 1) (spot_of d)
          → LayStep l before (set placed i v) r (i + 1)
      lay_step v at next left entry marked k g r y w z =
          let here = pass_here _ before l.count placed i t.pass h in
          record {
            pass =
                pass_write (LaidItem p) before l.count placed i t.pass h v
                (record {
                  at = at ∙ ap (λ (x : Spot). x.at) mid_is;
                  next = next ∙ ap (λ (x : Spot). x.next) mid_is;
                  left = left ∙ ap (λ (x : Spot). x.free - 1) mid_is;
                  entry = entry ∙ ap (λ (x : PlacedItem). x.entry) here;
                  marked = marked ∙ ap (λ (x : PlacedItem). x.marked) here;
                });
            entered = t.entered;
            item = next_is k g r y w z;
            few = t.few;
          }

  -- no mark changes
  pub lay_marks : marked_in placed ≡ marked_in before
  unfolding marked_in
  lay_marks = fun_ext (λ j. go j (dec_lt j i))
    where
      go : (j : ℕ) → Dec (j < i) → (placed_at placed j).marked ≡ (placed_at before j).marked
      go j (yes h) = (t.pass.done j h).marked
      go j (no h) = ap (λ (x : PlacedItem). x.marked) (t.pass.rest j (omega arith))
