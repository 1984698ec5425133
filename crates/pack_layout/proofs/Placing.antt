-- Where items go: laws of any layout.
-- Assumes nothing.
use mathlib.Core.Path.{◌≡◌, refl, sym, ◌∙◌}
use mathlib.Core.Bool.{Bool, true, false, true≢false, false≢true}
use mathlib.Core.Logic.{⊎_elim}
use Prim.Native.Nat.{ℕ, zero, suc, ◌+◌, ◌-◌, ◌*◌, ◌≤◌, ◌<◌}
use native.Mathlib.Nat.{le_of_suc-le-suc, eq-or-lt_of_le}
use native.Mathlib.Omega.{arith}
use native.Mathlib.Decide.{dec_lt}
use borrow.Author.Tests.{eqb-true, ne_eqb}
use lib.Dec.{eqb}
use Rattle.pack_layout.specs.declared.ItemForm.{ItemForm}
use Rattle.pack_layout.specs.Layout.{Spot, fresh, begin, finish, extra, Plan, cur, opens, mid, left, form_at, alone, immediate, in_cell}
use Rattle.pack_layout.specs.Image.{above}

begin_le : (o : Bool) (c : Spot) → c.free ≤ 3 → (begin o c).free ≤ 4
begin_le true c h = omega arith
begin_le false c h = omega arith

finish_le : (g : ItemForm) (f : ℕ) (d : Spot) → f ≤ 3 → (finish g f d).free ≤ 3
finish_le alone f d h = h
finish_le immediate f d h = omega arith
finish_le in_cell f d h = h

-- an item that opens no cell stands in the cell of the item before it, one byte further, and that item is not immediate
pub record Same (g : ItemForm) (f : ℕ) (d c : Spot) (o : Bool) : Type 0 where
  pub at : (begin o c).at ≡ d.at
  pub next : (begin o c).next ≡ d.next + extra g
  pub left : suc ((begin o c).free - 1) ≡ f
  pub above : (v w : ℕ) → above g o v w ≡ w

same_of : (g : ItemForm) (f : ℕ) (d : Spot) (b : Bool) → fresh (finish g f d).free b ≡ false
    → Same g f d (finish g f d) (fresh (finish g f d).free b)
same_of alone zero d b e = absurd (true≢false e)
same_of alone (suc f) d true e = absurd (true≢false e)
same_of alone (suc f) d false e = record { at = refl; next = omega arith; left = omega arith; above = λ v w. refl }
same_of immediate f d b e = absurd (true≢false e)
same_of in_cell zero d b e = absurd (true≢false e)
same_of in_cell (suc f) d true e = absurd (true≢false e)
same_of in_cell (suc f) d false e = record { at = refl; next = refl; left = omega arith; above = λ v w. refl }

-- the immediate form closes the cell
close_of : (g : ItemForm) (f : ℕ) (d : Spot) (b : Bool) → g ≡ immediate → fresh (finish g f d).free b ≡ true
close_of alone f d b q = cc
close_of immediate f d b q = refl
close_of in_cell f d b q = cc

finish_next : (g : ItemForm) (f : ℕ) (d : Spot) → (finish g f d).next ≡ d.next + extra g
finish_next alone f d = omega arith
finish_next immediate f d = omega arith
finish_next in_cell f d = refl

begin_at : (o : Bool) (c : Spot) → o ≡ true → (begin o c).at ≡ c.next
begin_at true c e = refl
begin_at false c e = absurd (false≢true e)

begin_next : (o : Bool) (c : Spot) → c.next ≤ (begin o c).next
begin_next true c = omega arith
begin_next false c = omega arith

pub begin_most : (o : Bool) (c : Spot) → (begin o c).next ≤ c.next + 1
begin_most true c = omega arith
begin_most false c = omega arith

pub extra_most : (g : ItemForm) → extra g ≤ 1
extra_most alone = omega arith
extra_most immediate = omega arith
extra_most in_cell = omega arith

-- the open cell is one of those placed, once any is
placed_of : (e : Bool) (c : Spot) → (0 < c.free → c.at < c.next) → (begin (fresh c.free e) c).at < (begin (fresh c.free e) c).next
placed_of e c h = go c.free refl e
  where
    go : (f : ℕ) → c.free ≡ f → (e : Bool) → (begin (fresh f e) c).at < (begin (fresh f e) c).next
    go zero q e = omega arith
    go (suc f) q true = omega arith
    go (suc f) q false = h (omega arith)

finish_at : (g : ItemForm) (f : ℕ) (d : Spot) → d.at < d.next → (finish g f d).at < (finish g f d).next
finish_at alone f d h = h
finish_at immediate f d h = h
finish_at in_cell f d h = omega arith

opens_of : (e : Bool) (c : Spot) → c.free ≤ 3 → fresh c.free e ≡ eqb ((begin (fresh c.free e) c).free - 1) 3
opens_of e c h = go c.free refl e
  where
    go : (f : ℕ) → c.free ≡ f → (e : Bool) → fresh f e ≡ eqb ((begin (fresh f e) c).free - 1) 3
    go zero q e = refl
    go (suc f) q true = refl
    go (suc f) q false = sym (ne_eqb _ _ (λ (z : c.free - 1 ≡ 3). omega arith))

pub fresh_entry : (f : ℕ) (e : Bool) → e ≡ true → fresh f e ≡ true
fresh_entry zero e q = refl
fresh_entry (suc f) e q = q

module _ (p : Plan) where
  pub entry_opens : (i : ℕ) → p.entry i ≡ true → opens p i ≡ true
  entry_opens i q = fresh_entry (cur p i).free (p.entry i) q

  three : (i : ℕ) → (cur p i).free ≤ 3
  unfolding cur
  three zero = omega arith
  three (suc i) =
      finish_le (form_at p i) (left p i) (mid p i) (omega (arith, begin_le (opens p i) (cur p i) (three i)))

  pub left_le : (i : ℕ) → left p i ≤ 3
  left_le i = omega (arith, begin_le (opens p i) (cur p i) (three i))

  -- three bytes are left exactly behind an item that opens a cell
  pub opens_is : (i : ℕ) → opens p i ≡ eqb (left p i) 3
  opens_is i = opens_of (p.entry i) (cur p i) (three i)

  pub opens_left : (i : ℕ) → opens p i ≡ true → left p i ≡ 3
  opens_left i q = eqb-true (left p i) 3 (sym (opens_is i) ∙ q)

  pub same : (i : ℕ) → opens p (suc i) ≡ false → Same (form_at p i) (left p i) (mid p i) (cur p (suc i)) (opens p (suc i))
  unfolding cur
  same i e = same_of (form_at p i) (left p i) (mid p i) (p.entry (suc i)) e

  pub closes : (i : ℕ) → form_at p i ≡ immediate → opens p (suc i) ≡ true
  unfolding cur
  closes i q = close_of (form_at p i) (left p i) (mid p i) (p.entry (suc i)) q

  -- the next cell after an item is the one after its EP value's and its operand cell
  pub next_after : (i : ℕ) → (cur p (suc i)).next ≡ (mid p i).next + extra (form_at p i)
  unfolding cur
  next_after i = finish_next (form_at p i) (left p i) (mid p i)

  pub run_on : (i : ℕ) → opens p (suc i) ≡ true → (mid p (suc i)).at ≡ (mid p i).next + extra (form_at p i)
  run_on i q = begin_at (opens p (suc i)) (cur p (suc i)) q ∙ next_after i

  pub reach : (i j : ℕ) → i < j → (mid p i).next + extra (form_at p i) ≤ (cur p j).next
  reach i zero h = absurd (omega arith)
  reach i (suc j) h =
      ⊎_elim (λ (e : i ≡ j). rw e (omega (arith, next_after j)))
      (λ (e : i < j). omega (arith, reach i j e, next_after j, begin_next (opens p j) (cur p j)))
      (eq-or-lt_of_le (le_of_suc-le-suc h))

  pub at_most : (i : ℕ) → (cur p i).next ≤ 2 * i
  unfolding cur
  at_most zero = omega arith
  at_most (suc i) =
      omega (arith, at_most i, finish_next (form_at p i) (left p i) (mid p i), begin_most (opens p i) (cur p i), extra_most (form_at p i))

  open_placed : (i : ℕ) → 0 < (cur p i).free → (cur p i).at < (cur p i).next
  unfolding cur
  open_placed zero h = absurd (omega arith)
  open_placed (suc i) h =
      finish_at (form_at p i) (left p i) (mid p i) (placed_of (p.entry i) (cur p i) (open_placed i))

  -- an item's cell comes before the index of its EP value
  pub at_before : (i : ℕ) → (mid p i).at < (mid p i).next
  at_before i = placed_of (p.entry i) (cur p i) (open_placed i)

  pub ordered : (i j : ℕ) → i < j → opens p j ≡ true → (mid p i).at < (mid p j).at
  ordered i j h q = omega (arith, at_before i, reach i j h, begin_at (opens p j) (cur p j) q)

  -- no two cells are opened at one index
  pub one_entry : (i j : ℕ) → opens p i ≡ true → opens p j ≡ true → (mid p i).at ≡ (mid p j).at → i ≡ j
  one_entry i j a b e = go (dec_lt i j) (dec_lt j i)
    where
      go : Dec (i < j) → Dec (j < i) → i ≡ j
      go (yes h) k = absurd (omega (arith, ordered i j h b))
      go (no h) (yes k) = absurd (omega (arith, ordered j i k a))
      go (no h) (no k) = omega arith
