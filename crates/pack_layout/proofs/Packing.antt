-- The image of an accepted listing: the rounds settle, every immediate fits, and the image decodes to its items with no further condition.
-- Assumes nothing.
use mathlib.Core.Path.{◌≡◌, refl, ap, ◌∙◌}
use mathlib.Core.Bool.{Bool, true, false, not, ◌||◌, false≢true}
use Prim.Native.Nat.{ℕ, zero, suc, ◌+◌, ◌*◌, ◌%◌, ◌^◌, ◌≤◌, ◌<◌}
use native.Mathlib.Omega.{arith}
use borrow.Author.Tests.{not-false, eqb-true, ltb-false}
use lib.Dec.{eqb, ltb}
use lib.ListN.{length, get_or}
use Rattle.cell.specs.Refusals.{passed}
use Rattle.cell.specs.declared.Refusal.TheVariants.{Unaligned, Base}
use Rattle.cell.proofs.BooleanLaws.{neither}
use Rattle.cell.proofs.JudgementLaws.{one_clear}
use Rattle.pack_layout.specs.declared.Class.{Class}
use Rattle.pack_layout.specs.declared.ItemForm.{ItemForm}
use Rattle.pack_layout.specs.Bytes.{fits}
use Rattle.pack_layout.specs.Kinds.{class_of, plain, literal, branch, no_kind}
use Rattle.pack_layout.specs.Listing.{Listing}
use Rattle.pack_layout.specs.Layout.{mid, left, form_at, alone, immediate, in_cell}
use Rattle.pack_layout.specs.Image.{byte_of}
use Rattle.pack_layout.specs.Rounds.{settled}
use Rattle.pack_layout.specs.Packing.{taking, form_of, distance, branch_value, value_of, new_in, new_of, plan, distance_at, new, marks, layout, value, image, image_cells, judged_place, Legal}
use Rattle.pack_layout.proofs.Placing.{at_before, reach}
use Rattle.pack_layout.proofs.Image.{Decoded, image_decodes, image_size, cells_below}
use Rattle.pack_layout.proofs.Rounds.{settled_adds_none}
use Rattle.pack_layout.proofs.Listing.{kind_below, target_below}

-- only an unmarked branch is marked
only_taking : (m : Bool) (f : ℕ) (b : Bool) → new_in (taking m f) b ≡ true → m ≡ false
only_taking m zero b e = absurd (false≢true e)
only_taking true (suc f) b e = absurd (false≢true e)
only_taking false (suc f) b e = refl

only_of : (c : Class) (m : Bool) (x f : ℕ) (b : Bool) → new_of c (form_of c m x f) b ≡ true → m ≡ false
only_of plain m x f b e = absurd (false≢true e)
only_of literal m x f b e = absurd (false≢true e)
only_of branch m x f b e = only_taking m f b e
only_of no_kind m x f b e = absurd (false≢true e)

pub only : (l : Listing) (m : ℕ → Bool) (i : ℕ) → new l m i ≡ true → m i ≡ false
only l m i e =
    only_of (class_of (l.kind i)) (m i) (l.operand i) (left (plan l m) i) (fits (left (plan l m) i) (distance_at l m i)) e

-- an immediate literal fits by its form, an immediate branch since the last round marked none
taking_immediate : (m : Bool) (f : ℕ) → taking m f ≡ immediate → m ≡ false
taking_immediate m zero e = cc
taking_immediate true (suc f) e = cc
taking_immediate false (suc f) e = refl

new_immediate : (g : ItemForm) (b : Bool) → g ≡ immediate → new_in g b ≡ false → b ≡ true
new_immediate alone b q e = cc
new_immediate immediate b q e = not-false b e
new_immediate in_cell b q e = cc

fits_of : (c : Class) (m : Bool) (x f next to base : ℕ) → form_of c m x f ≡ immediate
    → new_of c (form_of c m x f) (fits f (distance next to)) ≡ false
    → fits f (value_of c (form_of c m x f) x next to base) ≡ true
fits_of plain m x f next to base q e = cc
fits_of literal m x f next to base q e = not-false (fits f x) (taking_immediate (not (fits f x)) f q)
fits_of branch m x f next to base q e =
    ap (λ (g : ItemForm). fits f (branch_value g next to base)) q ∙ new_immediate (taking m f) (fits f (distance next to)) q e
fits_of no_kind m x f next to base q e = cc

pub immediates_fit : (base : ℕ) (l : Listing) (i : ℕ) → i < l.count → form_at (layout l) i ≡ immediate
    → fits (left (layout l) i) (value base l i) ≡ true
unfolding marks settled
immediates_fit base l i h q =
    fits_of (class_of (l.kind i)) (marks l i) (l.operand i) (left (layout l) i)
    (mid (layout l) i).next (mid (layout l) (l.operand i)).at base q
    (settled_adds_none l.count (new l) (only l) i h)

byte_low : (g : ItemForm) (k : ℕ) → k < 0x5C → byte_of g k < 128
byte_low alone k h = omega arith
byte_low immediate k h = omega arith
byte_low in_cell k h = omega arith

-- an operand cell's value: a literal's, or a target's address
value_below : (c : Class) (g : ItemForm) (x next to base : ℕ) → x < 2 ^ 32 → (c ≡ branch → base + 4 * to < 2 ^ 32)
    → value_of c g x next to base < 2 ^ 32
value_below plain g x next to base h k = omega arith
value_below literal g x next to base h k = h
value_below branch alone x next to base h k = omega arith
value_below branch immediate x next to base h k = omega arith
value_below branch in_cell x next to base h k = k refl
value_below no_kind g x next to base h k = omega arith

-- what -4104 and -4110 leave
pub record Placed (base size : ℕ) : Type 0 where
  pub aligned : base % 4 ≡ 0
  pub above_cells : 0x10 ≤ base
  pub inside : base + 4 * size ≤ 16777216

pub base_of : (base size : ℕ) → judged_place base size ≡ passed → Placed base size
base_of base size e =
    let p = one_clear (not (eqb (base % 4) 0)) Unaligned _ e in
    let q = one_clear (ltb base 0x10 || ltb 16777216 (base + 4 * size)) Base passed p.1 in
    let t = neither (ltb base 0x10) (ltb 16777216 (base + 4 * size)) q.0 in
    record {
      aligned = eqb-true (base % 4) 0 (not-false (eqb (base % 4) 0) p.0);
      above_cells = ltb-false base 0x10 t.0;
      inside = ltb-false 16777216 (base + 4 * size) t.1;
    }

module _ (base : ℕ) (l : Listing) (ok : Legal base l) where
  pub placed : Placed base (image_cells l)
  placed = base_of base (image_cells l) ok.state

  -- an item's EP value is at most the end of the image
  pub ep_inside : (i : ℕ) → i < l.count → (mid (layout l) i).next ≤ image_cells l
  ep_inside i h = omega (arith, reach (layout l) i l.count h)

  pub at_inside : (i : ℕ) → i < l.count → (mid (layout l) i).at < image_cells l
  at_inside i h = omega (arith, at_before (layout l) i, ep_inside i h)

  low : (i : ℕ) → i < l.count → byte_of (form_at (layout l) i) (l.kind i) < 128
  low i h = byte_low (form_at (layout l) i) (l.kind i) (kind_below l ok.input i h)

  -- the listing's image decodes to its items
  pub decoded : (i : ℕ) → i < l.count → Decoded (layout l) l.kind (value base l) l.count (image base l) i
  unfolding image
  decoded = image_decodes (layout l) l.kind (value base l) l.count low (immediates_fit base l)

  pub size_is : length (image base l) ≡ image_cells l
  unfolding image
  size_is = image_size (layout l) l.kind (value base l) l.count

  pub image_below : (j : ℕ) → get_or (image base l) j 0 < 2 ^ 32
  unfolding image
  image_below j =
      cells_below (layout l) l.kind (value base l) l.count (λ i h. omega (arith, low i h))
      (λ i h q. value_below (class_of (l.kind i)) (form_at (layout l) i) (l.operand i) (mid (layout l) i).next
      (mid (layout l) (l.operand i)).at base (ok.cell i h)
      (λ b. omega (arith, placed.inside, at_inside (l.operand i) (target_below l ok.input i h b))))
      l.count 0 (omega arith) j
