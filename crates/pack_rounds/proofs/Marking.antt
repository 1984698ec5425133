-- One step of the mark pass.
-- Assumes nothing.
use Rattle.std.proofs.Common.{◌≡◌, ℕ, zero, suc, ◌+◌, ◌<◌, ◌≤◌, Bool, true, false, ◌||◌, List, length, set, sym, refl, ap, ◌∙◌, add-one, arith}
use Rattle.cell.specs.Refusals.{passed}
use mathlib.Core.Path.{fun_ext}
use mathlib.Core.Bool.{or-true, or-false}
use native.Mathlib.Decide.{dec_lt}
use lib.ListN.{get_or-eq_default}
use Rattle.pack_layout.specs.declared.Class.{Class}
use Rattle.pack_layout.specs.declared.ItemForm.{ItemForm}
use Rattle.pack_layout.specs.declared.PlacedItem.{PlacedItem}
use Rattle.pack_layout.specs.declared.Class.TheVariants.{Plain as plain, Literal as literal, Branch as branch, NoKind as no_kind}
use Rattle.pack_layout.specs.Kinds.{class_of, is_branch}
use Rattle.pack_layout.specs.Bytes.{fits}
use Rattle.pack_layout.specs.Placed.{unplaced, placed_at, marked_in, with_mark}
use Rattle.pack_layout.specs.Listing.{Listing, listed, any, judged_listing}
use Rattle.pack_layout.specs.Layout.{Plan, mid, left, Laid}
use Rattle.pack_layout.specs.Rounds.{rounds}
use Rattle.pack_layout.specs.Packing.{form_of, distance, new_of, plan, new, Marked}
use Rattle.pack_layout.proofs.Placing.{left_le}
use Rattle.pack_layout.proofs.Listing.{is_branch_lem, target_below}
use Rattle.pack_layout.proofs.Rounds.{any_none}
use Rattle.pack_judging.proofs.Passes.{Passing, pass_start, pass_here, pass_write, pass_over}

new_same : (c : Class) (g : ItemForm) (a b : Bool) → (c ≡ branch → a ≡ b) → new_of c g a ≡ new_of c g b
new_same plain g a b h = refl
new_same literal g a b h = refl
new_same branch g a b h = ap (new_of branch g) (h refl)
new_same no_kind g a b h = refl

-- what the code tests at item i, from the array of a layout
module _ (l : Listing) (ok : judged_listing l ≡ passed) (m : ℕ → Bool) (placed : List PlacedItem) (laid : Laid (plan l m) placed l.count)
    (i : ℕ) (h : i < l.count) where
  abbrev item : PlacedItem
  item = placed_at placed i

  abbrev tested : Bool → Bool
  tested mark =
      new_of (class_of (l.kind i)) (form_of (class_of (l.kind i)) mark (l.operand i) item.left)
      (fits item.left (distance item.next.0 (placed_at placed (l.operand i)).at.0))

  pub left_small : item.left ≤ 3
  left_small = rw (laid.left i h) (left_le (plan l m) i)

  pub new_at : tested (m i) ≡ new l m i
  new_at =
      rw (laid.left i h, laid.next i h)
      (new_same (class_of (l.kind i)) _ _ _
      (λ q. ap (λ (to : ℕ). fits (left (plan l m) i) (distance (mid (plan l m) i).next to))
      (laid.at (l.operand i) (target_below l ok i h q))))

  pub test_is : item.marked ≡ m i → (r : Bool) → r ≡ tested item.marked → r ≡ new l m i
  test_is same r q = q ∙ ap tested same ∙ new_at

-- an item that the pass has marked, or left as it was
abbrev pub MarkedItem : Listing → (ℕ → Bool) → ℕ → PlacedItem → PlacedItem → Type 0
MarkedItem l m j before after = after ≡ with_mark (m j || new l m j) before

-- what the pass keeps before item i
pub record MarkStep (l : Listing) (before placed : List PlacedItem) (added : Bool) (i : ℕ) : Type 0 where
  pub pass : Passing (MarkedItem l (marked_in before)) before placed l.count i
  pub laid : Laid (plan l (marked_in before)) before l.count
  pub ok : judged_listing l ≡ passed
  pub some : added ≡ any (new l (marked_in before)) i

pub mark_start : (l : Listing) (before : List PlacedItem) → judged_listing l ≡ passed → length before ≡ l.count
    → Laid (plan l (marked_in before)) before l.count → MarkStep l before before false 0
unfolding any
mark_start l before ok e laid =
    record { pass = pass_start (MarkedItem l (marked_in before)) before l.count e; laid = laid; ok = ok; some = refl }

-- a mark leaves the place of an item
pub place_kept : (p : Plan) (before placed : List PlacedItem) (n : ℕ)
    → ((j : ℕ) → j < n → with_mark true (placed_at placed j) ≡ with_mark true (placed_at before j)) → Laid p before n → Laid p placed n
place_kept p before placed n f laid =
    record {
      at = λ j h. ap (λ (x : PlacedItem). x.at.0) (f j h) ∙ laid.at j h;
      next = λ j h. ap (λ (x : PlacedItem). x.next.0) (f j h) ∙ laid.next j h;
      left = λ j h. ap (λ (x : PlacedItem). x.left) (f j h) ∙ laid.left j h;
    }

module _ (l : Listing) (before placed : List PlacedItem) (added : Bool) (i : ℕ) (t : MarkStep l before placed added i) (h : i < l.count) where
  abbrev m : ℕ → Bool
  m = marked_in before

  laid_still : Laid (plan l m) placed l.count
  laid_still = place_kept (plan l m) before placed l.count (λ j k. go j (dec_lt j i)) t.laid
    where
      go : (j : ℕ) → Dec (j < i) → with_mark true (placed_at placed j) ≡ with_mark true (placed_at before j)
      go j (yes k) = ap (with_mark true) (t.pass.done j k)
      go j (no k) = ap (with_mark true) (t.pass.rest j (omega arith))

  pub mark_left : (placed_at placed i).left ≤ 3
  mark_left = left_small l t.ok m placed laid_still i h

  pub mark_inside : is_branch (class_of (l.kind i)) ≡ true → l.operand i < length placed
  mark_inside q = omega (arith, target_below l t.ok i h (is_branch_lem (class_of (l.kind i)) q), t.pass.size)

  mark_as_before : (placed_at placed i).marked ≡ m i
  unfolding marked_in
  mark_as_before = ap (λ (x : PlacedItem). x.marked) (pass_here _ before l.count placed i t.pass h)

  module _ (r : Bool) (q : r ≡ new_of (class_of (l.kind i)) (form_of (class_of (l.kind i)) (placed_at placed i).marked (l.operand i) (placed_at placed i).left)
      (fits (placed_at placed i).left (distance (placed_at placed i).next.0 (placed_at placed (l.operand i)).at.0))) where
    new_is : new l m i ≡ r
    new_is = sym (test_is l t.ok m placed laid_still i h mark_as_before r q)

    any_more : any (new l m) (i + 1) ≡ (r || added)
    unfolding any
    any_more = rw (add-one i, new_is, t.some)

    pub mark_step : r ≡ true → (v : PlacedItem) → v ≡ with_mark true (placed_at placed i) → MarkStep l before (set placed i v) true (i + 1)
    mark_step e v w =
        record {
          pass =
              pass_write (MarkedItem l m) before l.count placed i t.pass h v
              (w ∙ rw (new_is, e, or-true (m i), pass_here _ before l.count placed i t.pass h));
          laid = t.laid;
          ok = t.ok;
          some = sym (any_more ∙ rw e);
        }

    pub pass_step : r ≡ false → MarkStep l before placed added (i + 1)
    unfolding marked_in
    pass_step e =
        record {
          pass = pass_over (MarkedItem l m) before l.count placed i t.pass h (rw (new_is, e, or-false (m i)));
          laid = t.laid;
          ok = t.ok;
          some = sym (any_more ∙ rw e);
        }

-- past the items there is no kind, and so no mark
pub new_out : (kinds operands : List ℕ) (m : ℕ → Bool) (j : ℕ) → length kinds ≤ j → new (listed kinds operands) m j ≡ false
unfolding class_of
new_out kinds operands m j h = rw (get_or-eq_default kinds 0 h)

both_false : (a b : Bool) → a ≡ false → b ≡ false → (a || b) ≡ false
both_false true b p q = p
both_false false b p q = q

rounds_out : (kinds operands : List ℕ) (r j : ℕ) → length kinds ≤ j → rounds (length kinds) (new (listed kinds operands)) r j ≡ false
unfolding rounds
rounds_out kinds operands zero j h = refl
rounds_out kinds operands (suc r) j h =
    both_false (rounds (length kinds) (new (listed kinds operands)) r j) _ (rounds_out kinds operands r j h)
    (new_out kinds operands (rounds (length kinds) (new (listed kinds operands)) r) j h)

mark_out : (s : List PlacedItem) (j : ℕ) → length s ≤ j → marked_in s j ≡ false
unfolding marked_in
mark_out s j h = ap (λ (x : PlacedItem). x.marked) (get_or-eq_default s unplaced h)

-- the marks of an array are those after r rounds
module _ (kinds operands : List ℕ) where
  abbrev l : Listing
  l = listed kinds operands

  abbrev after : ℕ → ℕ → Bool
  after r = rounds (length kinds) (new l) r

  pub no_mark : (s t : List PlacedItem) → length t ≡ length s → ((j : ℕ) → j < length s → placed_at t j ≡ with_mark false (placed_at s j))
      → marked_in t ≡ after 0
  unfolding rounds marked_in
  no_mark s t e f = fun_ext (λ j. go j (dec_lt j (length s)))
    where
      go : (j : ℕ) → Dec (j < length s) → marked_in t j ≡ false
      go j (yes h) = ap (λ (x : PlacedItem). x.marked) (f j h)
      go j (no h) = mark_out t j (omega arith)

  -- the marks after a round
  marks_at : (s t : List PlacedItem) → Marked l s t (length kinds) → (j : ℕ) → j < length kinds
      → marked_in t j ≡ (marked_in s j || new l (marked_in s) j)
  unfolding marked_in
  marks_at s t f j h = ap (λ (x : PlacedItem). x.marked) (f j h)

  pub one_round : (r : ℕ) (s t : List PlacedItem) → marked_in s ≡ after r → length t ≡ length kinds → Marked l s t (length kinds)
      → marked_in t ≡ after (suc r)
  unfolding rounds
  one_round r s t e z f = fun_ext (λ j. go j (dec_lt j (length kinds)))
    where
      go : (j : ℕ) → Dec (j < length kinds) → marked_in t j ≡ (after r j || new l (after r) j)
      go j (yes h) = marks_at s t f j h ∙ ap (λ (m : ℕ → Bool). m j || new l m j) e
      go j (no h) = mark_out t j (omega arith) ∙ sym (rounds_out kinds operands (suc r) j (omega arith))

  -- a round that adds no mark leaves the marks
  pub same_marks : (s t : List PlacedItem) → length t ≡ length kinds → length s ≡ length kinds → Marked l s t (length kinds)
      → any (new l (marked_in s)) (length kinds) ≡ false → marked_in t ≡ marked_in s
  same_marks s t z w f q = fun_ext (λ j. go j (dec_lt j (length kinds)))
    where
      go : (j : ℕ) → Dec (j < length kinds) → marked_in t j ≡ marked_in s j
      go j (yes h) =
          marks_at s t f j h ∙ ap (λ (b : Bool). marked_in s j || b) (any_none (new l (marked_in s)) (length kinds) q j h) ∙ or-false (marked_in s j)
      go j (no h) = mark_out t j (omega arith) ∙ sym (mark_out s j (omega arith))
