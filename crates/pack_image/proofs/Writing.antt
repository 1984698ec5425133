-- Stores of cells, and one step of the image pass.
-- Assumes nothing.
use Rattle.cell.specs.Refusals.{passed}
use Rattle.cell.specs.Memory.{cell_bytes}
use Rattle.cell.proofs.StoreLaws.{cell_length}
use mathlib.Core.Path.{◌≡◌, refl, sym, ap, ap₂, ◌∙◌}
use mathlib.Core.Bool.{Bool, true, false}
use mathlib.Core.List.{List, ◌∷◌, ◌++◌, append_assoc}
use Prim.Native.Nat.{ℕ, suc, ◌+◌, ◌-◌, ◌*◌, ◌≤◌, ◌<◌}
use native.Mathlib.Nat.{add-zero}
use native.Mathlib.Omega.{arith}
use lib.Dec.{eqb}
use lib.ListN.{length, take, drop, length-append, take-append-drop}
use lib.Seq.{sets, sets-eq, length-take-le, take-append-le, take-take, drop_at}
use Rattle.cell.specs.Choice.{if}
use Rattle.pack_layout.specs.declared.Class.{Class}
use Rattle.pack_layout.specs.declared.ItemForm.{ItemForm}
use Rattle.pack_layout.specs.Bytes.{pack}
use Rattle.pack_layout.specs.declared.Class.TheVariants.{Plain as plain, Literal as literal, Branch as branch, NoKind as no_kind}
use Rattle.pack_layout.specs.Kinds.{class_of, is_branch}
use Rattle.pack_layout.specs.Flags.{bit}
use Rattle.pack_layout.specs.declared.PlacedItem.{PlacedItem}
use Rattle.pack_layout.specs.Placed.{placed_at, marked_in}
use Rattle.pack_layout.specs.Listing.{Listing, judged_listing}
use Rattle.pack_layout.specs.declared.ItemForm.TheVariants.{Alone as alone, Immediate as immediate, InCell as in_cell}
use Rattle.pack_layout.specs.Layout.{Spot, begin, extra, Plan, cur, opens, mid, left, form_at, Laid}
use Rattle.pack_layout.specs.Image.{byte_of, above, opened, joined, word, cells}
use Rattle.pack_layout.specs.Packing.{form_of, branch_value, value_of, marks, layout, value, image, image_cells}
use Rattle.pack_layout.specs.Output.{bytes_of, written, joined_at, opened_at}
use Rattle.pack_layout.proofs.Placing.{left_le, next_after, reach, at_most, at_before, opens_is}
use Rattle.pack_layout.proofs.Image.{image_size}
use Rattle.pack_layout.proofs.Listing.{is_branch_lem, target_below, some_item, kind_below}
use Rattle.pack_layout.proofs.Rounds.{bit_most}

-- a store just below what stands already
module _ (o rest : List ℕ) (a : ℕ) (room : 4 * (a + 1) ≤ length o) where
  abbrev below : List ℕ
  below = take (4 * (a + 1)) o

  below_length : length below ≡ 4 * (a + 1)
  below_length = length-take-le (4 * (a + 1)) o room

  below_take : take (4 * a) (below ++ rest) ≡ take (4 * a) o
  below_take = take-append-le (4 * a) below rest (omega (arith, below_length)) ∙ take-take (4 * a) (4 * (a + 1)) o (omega arith)

  below_drop : drop (4 * a + 4) (below ++ rest) ≡ rest
  below_drop = drop_at below rest (4 * a + 4) (omega (arith, below_length))

  pub prepend : (order x : ℕ) → sets (below ++ rest) (4 * a) (cell_bytes order x) ≡ take (4 * a) o ++ (cell_bytes order x ++ rest)
  prepend order x =
      sets-eq (cell_bytes order x) (below ++ rest) (4 * a) (omega (arith, cell_length order x, length-append below rest, below_length))
      ∙ append_assoc (take (4 * a) (below ++ rest)) (cell_bytes order x) _
      ∙ ap₂ (λ (s t : List ℕ). s ++ (cell_bytes order x ++ t)) below_take
      (ap (λ (k : ℕ). drop (4 * a + k) (below ++ rest)) (cell_length order x) ∙ below_drop)

-- the bytes of an image's cells from index a on, in front of the rest of the output
abbrev pub from : ℕ → ℕ → List ℕ → List ℕ → List ℕ → List ℕ
from order a cells o end = take (4 * a) o ++ (bytes_of order cells ++ end)

store_front : (order : ℕ) (o cells end : List ℕ) (a x : ℕ) → 4 * (a + 1) ≤ length o
    → sets (from order (a + 1) cells o end) (4 * a) (cell_bytes order x) ≡ from order a (x ∷ cells) o end
unfolding bytes_of
store_front order o cells end a x h =
    prepend o (bytes_of order cells ++ end) a h order x
    ∙ ap (λ (s : List ℕ). take (4 * a) o ++ s) (sym (append_assoc (cell_bytes order x) (bytes_of order cells) end))

pub operand_front : (g : ItemForm) (order : ℕ) (o cells end : List ℕ) (a x : ℕ) → 4 * (a + extra g) ≤ length o
    → joined_at g order (from order (a + extra g) cells o end) a x ≡ from order a (joined g x cells) o end
operand_front alone order o cells end a x h = rw add-zero
operand_front immediate order o cells end a x h = rw add-zero
operand_front in_cell order o cells end a x h = store_front order o cells end a x h

pub open_front : (b : Bool) (order : ℕ) (o cells end : List ℕ) (c : Spot) (w : ℕ) → 4 * (begin b c).next ≤ length o
    → opened_at b order (from order (begin b c).next cells o end) (begin b c).at w ≡ from order c.next (opened b w cells) o end
open_front true order o cells end c w h = store_front order o cells end c.next w h
open_front false order o cells end c w h = refl

above_rest : (g : ItemForm) (o : Bool) (v w : ℕ) → above g false v (if o 0 w) ≡ above g o v w
above_rest alone o v w = refl
above_rest immediate o v w = refl
above_rest in_cell o v w = refl

nothing_above : (o : Bool) → ◌≡◌ {A = ℕ} 0 (if o 0 0)
nothing_above true = refl
nothing_above false = refl

-- a settled layout, and room for its image
pub record Source (l : Listing) (placed : List PlacedItem) (o : List ℕ) : Type 0 where
  pub ok : judged_listing l ≡ passed
  pub whole : length placed ≡ l.count
  pub laid : Laid (layout l) placed l.count
  pub marked : marked_in placed ≡ marks l
  pub room : 4 * image_cells l ≤ length o

-- what the pass keeps when the items from i on are written
pub record WriteStep (order base : ℕ) (l : Listing) (placed : List PlacedItem) (o out : List ℕ) (rest i : ℕ) : Type 0 where
  pub source : Source l placed o
  pub inside : i ≤ l.count
  pub size : length out ≡ length o
  pub above_is : rest ≡ if (opens (layout l) i) 0 (word (layout l) l.kind (value base l) (l.count - i) i)
  pub out_is : out
      ≡ from order (cur (layout l) i).next (cells (layout l) l.kind (value base l) (l.count - i) i) o (drop (4 * image_cells l) o)

value_same : (c : Class) (g : ItemForm) (x next to goal base : ℕ) → (c ≡ branch → to ≡ goal) → value_of c g x next to base ≡ value_of c g x next goal base
value_same plain g x next to goal base h = refl
value_same literal g x next to goal base h = refl
value_same branch g x next to goal base h = ap (λ (k : ℕ). branch_value g next k base) (h refl)
value_same no_kind g x next to goal base h = refl

module _ (order base : ℕ) (l : Listing) (placed : List PlacedItem) (o : List ℕ) (source : Source l placed o) where
  pub write_start : WriteStep order base l placed o o 0 l.count
  unfolding word cells bytes_of
  write_start =
      let e : l.count - l.count ≡ 0 = omega arith in
      record {
        source = source;
        inside = omega arith;
        size = refl;
        above_is = rw e (nothing_above (opens (layout l) l.count));
        out_is = rw e (sym (take-append-drop (4 * image_cells l) o));
      }

  module _ (out : List ℕ) (rest j : ℕ) (h : j < l.count) (t : WriteStep order base l placed o out rest (suc j)) where
    abbrev item : PlacedItem
    item = placed_at placed j

    abbrev p : Plan
    p = layout l

    abbrev word_at : ℕ
    word_at = word p l.kind (value base l) (l.count - j) j

    word_is : pack (byte_of (form_at p j) (l.kind j)) (above (form_at p j) false (value base l j) rest) ≡ word_at
    unfolding word
    word_is =
        rw (let e : l.count - j ≡ suc (l.count - suc j) = omega arith in e, t.above_is)
        (ap (pack (byte_of (form_at p j) (l.kind j))) (above_rest (form_at p j) (opens p (suc j)) (value base l j) _))

    ends_inside : (mid p j).next + extra (form_at p j) ≤ image_cells l
    ends_inside = reach p j l.count h

    pub step_out : opened_at (opens p j) order (joined_at (form_at p j) order out (mid p j).next (value base l j)) (mid p j).at word_at
        ≡ from order (cur p j).next (cells p l.kind (value base l) (l.count - j) j) o (drop (4 * image_cells l) o)
    unfolding cells
    step_out =
        let e : l.count - j ≡ suc (l.count - suc j) = omega arith in
        ap (λ (s : List ℕ). opened_at (opens p j) order s (mid p j).at word_at)
        (ap (λ (s : List ℕ). joined_at (form_at p j) order s (mid p j).next (value base l j)) (t.out_is ∙ front)
        ∙ operand_front (form_at p j) order o _ _ (mid p j).next (value base l j) (omega (arith, ends_inside, source.room)))
        ∙ open_front (opens p j) order o _ _ (cur p j) word_at (omega (arith, ends_inside, source.room))
        ∙ rw e
      where
        front : from order (cur p (suc j)).next (cells p l.kind (value base l) (l.count - suc j) (suc j)) o (drop (4 * image_cells l) o)
            ≡ from order ((mid p j).next + extra (form_at p j)) (cells p l.kind (value base l) (l.count - suc j) (suc j)) o (drop (4 * image_cells l) o)
        front =
            ap (λ (a : ℕ). from order a (cells p l.kind (value base l) (l.count - suc j) (suc j)) o (drop (4 * image_cells l) o)) (next_after p j)

    -- what the code reads at the item
    pub form_is : form_of (class_of (l.kind j)) item.marked (l.operand j) item.left ≡ form_at p j
    unfolding marked_in
    form_is =
        rw (source.laid.left j h) (ap (λ (m : ℕ → Bool). form_of (class_of (l.kind j)) (m j) (l.operand j) (left p j)) source.marked)

    pub value_is : (g : ItemForm) → g ≡ form_at p j
        → value_of (class_of (l.kind j)) g (l.operand j) item.next.0
        (if (is_branch (class_of (l.kind j))) (placed_at placed (l.operand j)).at.0 0) base
        ≡ value base l j
    value_is g q =
        rw (q, source.laid.next j h)
        (value_same (class_of (l.kind j)) (form_at p j) (l.operand j) (mid p j).next _ _ base
        (λ b. rw b (source.laid.at (l.operand j) (target_below l source.ok j h b))))

    few : l.count ≤ 4096
    few = (some_item l source.ok).1

    left_low : item.left ≤ 3
    left_low = rw (source.laid.left j h) (left_le p j)

    pub target_inside : is_branch (class_of (l.kind j)) ≡ true
        → (l.operand j < length placed) × ((placed_at placed (l.operand j)).at.0 ≤ 8192)
    target_inside q =
        let k = target_below l source.ok j h (is_branch_lem (class_of (l.kind j)) q) in (
          omega (arith, source.whole),
          rw (source.laid.at (l.operand j) k)
              (omega (arith, at_before p (l.operand j), reach p (l.operand j) l.count k, at_most p l.count, few)),
        )

    pub open_room : (item.at.0 ≤ 8192) × (4 * (item.at.0 + bit (eqb item.left 3)) ≤ length out)
    open_room = (
      omega (arith, source.laid.at j h, at_before p j, ends_inside, at_most p l.count, few),
      omega (arith, source.laid.at j h, at_before p j, ends_inside, t.size, source.room, bit_most (eqb item.left 3)),
    )

    module _ (g : ItemForm) (form : g ≡ form_of (class_of (l.kind j)) item.marked (l.operand j) item.left) where
      pub operand_room : (item.next.0 ≤ 8192) × (4 * (item.next.0 + extra g) ≤ length out)
      operand_room =
          rw (source.laid.next j h, form, form_is)
          (omega (arith, ends_inside, at_most p l.count, few), omega (arith, ends_inside, t.size, source.room))

      pub write_step : (v w r : ℕ) (out1 out2 : List ℕ)
          → v ≡ value_of (class_of (l.kind j)) g (l.operand j) item.next.0
          (if (is_branch (class_of (l.kind j))) (placed_at placed (l.operand j)).at.0 0) base
          → w ≡ pack (byte_of g (l.kind j)) (above g false v rest) → r ≡ if (eqb item.left 3) 0 w
          → out1 ≡ joined_at g order out item.next.0 v → out2 ≡ opened_at (eqb item.left 3) order out1 item.at.0 w → length out2 ≡ length out
          → WriteStep order base l placed o out2 r j
      write_step v w r out1 out2 qv qw qr q1 q2 z =
          let qg : g ≡ form_at p j = form ∙ form_is in
          let qx : v ≡ value base l j = qv ∙ value_is g qg in
          let b : eqb item.left 3 ≡ opens p j = ap (λ (k : ℕ). eqb k 3) (source.laid.left j h) ∙ sym (opens_is p j) in
          let y : w ≡ word_at = qw ∙ rw (qg, qx) word_is in
          record {
            source = source;
            inside = omega arith;
            size = z ∙ t.size;
            above_is = qr ∙ ap₂ (λ (b : Bool) (k : ℕ). if b 0 k) b y;
            out_is =
                q2
                ∙ ap₂ (λ (b : Bool) (k : ℕ). opened_at b order out1 item.at.0 k) b y
                ∙ ap₂ (λ (s : List ℕ) (a : ℕ). opened_at (opens p j) order s a word_at) (q1 ∙ rw (qg, source.laid.next j h, qx))
                (source.laid.at j h)
                ∙ step_out;
          }

  pub write_end : (out : List ℕ) (rest i : ℕ) → i ≤ 0 → WriteStep order base l placed o out rest i → out ≡ written order (image base l) o
  unfolding cur image
  write_end out rest i h t =
      (rw (let e : i ≡ 0 = omega arith in e) at t.out_is)
      ∙ rw (let z : l.count - 0 ≡ l.count = omega arith in z, image_size (layout l) l.kind (value base l) l.count)

pub if_most : (b : Bool) (a m : ℕ) → (b ≡ true → a ≤ m) → if b a 0 ≤ m
if_most true a m h = h refl
if_most false a m h = omega arith

pub byte_small : (g : ItemForm) (k : ℕ) → k < 255 → byte_of g k < 256
byte_small alone k h = omega arith
byte_small immediate k h = omega arith
byte_small in_cell k h = omega arith

-- the loop counts down: its item is the one before i
module _ (order base : ℕ) (l : Listing) (placed : List PlacedItem) (o out : List ℕ) (rest i : ℕ)
    (t : WriteStep order base l placed o out rest i) (some : 0 < i) where
  abbrev j : ℕ
  j = i - 1

  inside : j < l.count
  inside = omega (arith, t.inside)

  down : WriteStep order base l placed o out rest (suc j)
  down = rw (let e : i ≡ suc j = omega arith in e) at t

  pub item_left : (placed_at placed j).left ≤ 3
  item_left = left_low order base l placed o t.source out rest j inside down

  pub item_kind : l.kind j < 255
  item_kind = omega (arith, kind_below l t.source.ok j inside)

  pub item_target : is_branch (class_of (l.kind j)) ≡ true
      → (l.operand j < length placed) × ((placed_at placed (l.operand j)).at.0 ≤ 8192)
  item_target = target_inside order base l placed o t.source out rest j inside down

  pub item_open : (out1 : List ℕ) → length out1 ≡ length out
      → ((placed_at placed j).at.0 ≤ 8192) × (4 * ((placed_at placed j).at.0 + bit (eqb (placed_at placed j).left 3)) ≤ length out1)
  item_open out1 e = rw e (open_room order base l placed o t.source out rest j inside down)

  module _ (g : ItemForm) (form : g ≡ form_of (class_of (l.kind j)) (placed_at placed j).marked (l.operand j) (placed_at placed j).left) where
    pub item_operand : ((placed_at placed j).next.0 ≤ 8192) × (4 * ((placed_at placed j).next.0 + extra g) ≤ length out)
    item_operand = operand_room order base l placed o t.source out rest j inside down g form

    pub item_step : (v w r : ℕ) (out1 out2 : List ℕ)
        → v ≡ value_of (class_of (l.kind j)) g (l.operand j) (placed_at placed j).next.0
        (if (is_branch (class_of (l.kind j))) (placed_at placed (l.operand j)).at.0 0) base
        → w ≡ pack (byte_of g (l.kind j)) (above g false v rest) → r ≡ if (eqb (placed_at placed j).left 3) 0 w
        → out1 ≡ joined_at g order out (placed_at placed j).next.0 v
        → out2 ≡ opened_at (eqb (placed_at placed j).left 3) order out1 (placed_at placed j).at.0 w → length out2 ≡ length out
        → WriteStep order base l placed o out2 r j
    item_step = write_step order base l placed o t.source out rest j inside down g form
