-- What an accepted listing has: kinds below 5Ch, plain operands 0, targets among the items; and its entries.
-- Assumes nothing.
use mathlib.Core.Path.{◌≡◌, refl, sym, ap, ◌∙◌}
use mathlib.Core.Bool.{Bool, true, false, not, ◌||◌, true≢false}
use mathlib.Core.List.{[], ◌∷◌}
use Prim.Native.Nat.{ℕ, zero, suc, ◌+◌, ◌≤◌, ◌<◌}
use native.Mathlib.Decide.{dec_lt}
use native.Mathlib.Omega.{arith}
use borrow.Author.Tests.{eqb-true, leb-false, ltb-false, eqb-false, eq-eqb, not-false}
use lib.Dec.{eqb, leb, ltb}
use Rattle.cell.specs.Refusals.{judge, passed}
use Rattle.cell.specs.declared.Refusal.TheVariants as refusal
use Rattle.cell.proofs.BooleanLaws.{neither}
use Rattle.cell.proofs.JudgementLaws.{both_pass, one_clear}
use Rattle.pack_layout.specs.declared.Class.{Class}
use Rattle.pack_layout.specs.Kinds.{class_of, is_branch, plain, literal, branch, no_kind}
use Rattle.pack_layout.specs.Grounds.{item_count}
use Rattle.pack_layout.specs.Listing.{Listing, any, targets, calls, after_call, entry, judged, judged_from, judged_listing}
use Rattle.pack_layout.proofs.Classes.{high_is_none}

-- every kind is below 5Ch
pub kind_low : (k : ℕ) → (class_of k ≡ no_kind → ⊥) → k < 0x5C
kind_low k h = go (dec_lt k 0x5C)
  where
    go : Dec (k < 0x5C) → k < 0x5C
    go (yes l) = l
    go (no l) = absurd (h (sym (high_is_none k (omega arith))))

-- an item that is not refused
judged_kind : (c : Class) (n x : ℕ) → judged c n x ≡ passed → c ≡ no_kind → ⊥
judged_kind plain n x e q = let z : ◌≡◌ {A = ℕ} 0 1 = cc in omega arith
judged_kind literal n x e q = let z : ◌≡◌ {A = ℕ} 0 1 = cc in omega arith
judged_kind branch n x e q = let z : ◌≡◌ {A = ℕ} 0 1 = cc in omega arith
judged_kind no_kind n x e q = let z : ◌≡◌ {A = ℕ} 0 1 = cc in omega arith

judged_target : (c : Class) (n x : ℕ) → judged c n x ≡ passed → c ≡ branch → x < n
judged_target plain n x e q = absurd (let z : ◌≡◌ {A = ℕ} 0 1 = cc in omega arith)
judged_target literal n x e q = absurd (let z : ◌≡◌ {A = ℕ} 0 1 = cc in omega arith)
judged_target branch n x e q = leb-false n x (one_clear (leb n x) refusal.Target passed e).0
judged_target no_kind n x e q = absurd (let z : ◌≡◌ {A = ℕ} 0 1 = cc in omega arith)

judged_plain : (c : Class) (n x : ℕ) → judged c n x ≡ passed → c ≡ plain → x ≡ 0
judged_plain plain n x e q = eqb-true x 0 (not-false (eqb x 0) (one_clear (not (eqb x 0)) refusal.PlainOperand passed e).0)
judged_plain literal n x e q = absurd (let z : ◌≡◌ {A = ℕ} 0 1 = cc in omega arith)
judged_plain branch n x e q = absurd (let z : ◌≡◌ {A = ℕ} 0 1 = cc in omega arith)
judged_plain no_kind n x e q = absurd (let z : ◌≡◌ {A = ℕ} 0 1 = cc in omega arith)

any_some : (p : ℕ → Bool) (n i : ℕ) → i < n → p i ≡ true → any p n ≡ true
unfolding any
any_some p zero i h e = absurd (omega arith)
any_some p (suc n) i h e = go (p n) refl (dec_lt i n) (λ l. any_some p n i l e)
  where
    go : (b : Bool) → p n ≡ b → Dec (i < n) → (i < n → any p n ≡ true) → (b || any p n) ≡ true
    go true q d f = refl
    go false q (yes l) f = f l
    go false q (no l) f = absurd (true≢false (sym e ∙ ap p (let t : i ≡ n = omega arith in t) ∙ q))

or_right : (a b : Bool) → b ≡ true → (a || b) ≡ true
or_right true b e = refl
or_right false b e = e

targets_own : (c : Class) (x : ℕ) → c ≡ branch → targets c x x ≡ true
targets_own c x q = rw q (eq-eqb x x refl)

-- item 0, a branch's target and the item after a call are entries
pub first_entry : (l : Listing) → entry l 0 ≡ true
unfolding entry
first_entry l = refl

pub target_entry : (l : Listing) (i : ℕ) → i < l.count → class_of (l.kind i) ≡ branch → entry l (l.operand i) ≡ true
unfolding entry
target_entry l i h q =
    or_right (after_call l.kind (l.operand i)) _
    (any_some (λ j. targets (class_of (l.kind j)) (l.operand j) (l.operand i)) l.count i h
    (targets_own (class_of (l.kind i)) (l.operand i) q))

pub call_entry : (l : Listing) (i : ℕ) → calls (l.kind i) ≡ true → entry l (suc i) ≡ true
unfolding entry
call_entry l i q = rw q

pub is_branch_lem : (c : Class) → is_branch c ≡ true → c ≡ branch
is_branch_lem plain q = cc
is_branch_lem literal q = cc
is_branch_lem branch q = refl
is_branch_lem no_kind q = cc

module _ (l : Listing) (ok : judged_listing l ≡ passed) where
  items_from_lem : (k i : ℕ) → judged_from l k i ≡ passed → (j : ℕ) → i ≤ j → j < i + k
      → judged (class_of (l.kind j)) l.count (l.operand j) ≡ passed
  unfolding judged_from
  items_from_lem zero i e j a b = absurd (omega arith)
  items_from_lem (suc k) i e j a b = go (dec_lt i j) (both_pass _ _ e) (λ q c. items_from_lem k (suc i) q j c (omega arith))
    where
      go : Dec (i < j) → (judged (class_of (l.kind i)) l.count (l.operand i) ≡ passed) × (judged_from l k (suc i) ≡ passed)
          → (judged_from l k (suc i) ≡ passed → suc i ≤ j → judged (class_of (l.kind j)) l.count (l.operand j) ≡ passed)
          → judged (class_of (l.kind j)) l.count (l.operand j) ≡ passed
      go (yes c) q f = f q.1 c
      go (no c) q f = rw (let t : j ≡ i = omega arith in t) q.0

  item_judged : (i : ℕ) → i < l.count → judged (class_of (l.kind i)) l.count (l.operand i) ≡ passed
  unfolding judged_listing
  item_judged i h = items_from_lem l.count 0 (both_pass (judge (item_count l.count ∷ [])) (judged_from l l.count 0) ok).1 i (omega arith) (omega arith)

  pub kind_below : (i : ℕ) → i < l.count → l.kind i < 0x5C
  kind_below i h = kind_low (l.kind i) (judged_kind _ _ _ (item_judged i h))

  pub target_below : (i : ℕ) → i < l.count → class_of (l.kind i) ≡ branch → l.operand i < l.count
  target_below i h q = judged_target _ _ _ (item_judged i h) q

  pub plain_operand_lem : (i : ℕ) → i < l.count → class_of (l.kind i) ≡ plain → l.operand i ≡ 0
  plain_operand_lem i h q = judged_plain _ _ _ (item_judged i h) q

  pub is_kind_lem : (i : ℕ) → i < l.count → class_of (l.kind i) ≡ no_kind → ⊥
  is_kind_lem i h = judged_kind _ _ _ (item_judged i h)

  pub some_item : (0 < l.count) × (l.count ≤ 4096)
  unfolding judged_listing
  some_item =
      let e = one_clear (eqb l.count 0 || ltb 4096 l.count) refusal.ItemCount passed (both_pass _ (judged_from l l.count 0) ok).0 in
      let t = neither (eqb l.count 0) (ltb 4096 l.count) e.0 in
      (nonzero l.count (eqb-false l.count 0 t.0), ltb-false 4096 l.count t.1)
    where
      nonzero : (n : ℕ) → (n ≡ 0 → ⊥) → 0 < n
      nonzero zero h = absurd (h refl)
      nonzero (suc n) h = omega arith
