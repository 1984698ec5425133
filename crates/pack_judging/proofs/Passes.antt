-- Passes over the working array, and the one that finds the entries.
-- Assumes nothing.
use mathlib.Core.Path.{◌≡◌, refl, sym, ap, ◌∙◌}
use mathlib.Core.Bool.{Bool, true, false, ◌||◌, or-true, or-false}
use mathlib.Core.Logic.{⊎_elim}
use mathlib.Core.List.{List}
use Prim.Native.Nat.{ℕ, suc, ◌+◌, ◌≤◌, ◌<◌}
use native.Mathlib.Nat.{le_of_suc-le-suc, eq-or-lt_of_le}
use native.Mathlib.Numerals.{add-one}
use native.Mathlib.Decide.{ℕ_discrete}
use native.Mathlib.Omega.{arith}
use borrow.Author.Tests.{eq-eqb, ne_eqb}
use lib.ListN.{length, get_or, set, length-set}
use lib.Seq.{get_or-set_same, get_or-set_other}
use Rattle.pack_layout.specs.declared.PlacedItem.{PlacedItem}
use Rattle.pack_layout.specs.Kinds.{is_branch, class_of}
use Rattle.pack_layout.specs.Placed.{unplaced, placed_at, Entered, with_entry, EntriesAlone}
use Rattle.pack_layout.specs.Listing.{Listing, listed, any, targets, after_call, Checked}
use Rattle.pack_layout.proofs.Listing.{is_branch_lem, target_below}

-- a pass that writes item after item: what it says of each item before i holds, and the others are as before
pub record Passing (R : ℕ → PlacedItem → PlacedItem → Type 0) (before placed : List PlacedItem) (n i : ℕ) : Type 0 where
  pub inside : i ≤ n
  pub size : length placed ≡ n
  pub done : (j : ℕ) → j < i → R j (placed_at before j) (placed_at placed j)
  pub rest : (j : ℕ) → i ≤ j → placed_at placed j ≡ placed_at before j

module _ (R : ℕ → PlacedItem → PlacedItem → Type 0) (before : List PlacedItem) (n : ℕ) where
  pub pass_start : length before ≡ n → Passing R before before n 0
  pass_start e = record { inside = omega arith; size = e; done = λ j h. absurd (omega arith); rest = λ j h. refl }

  module _ (placed : List PlacedItem) (i : ℕ) (t : Passing R before placed n i) (h : i < n) where
    -- the item whose turn it is, as before
    pub pass_here : placed_at placed i ≡ placed_at before i
    pass_here = t.rest i (omega arith)

    split : (s : List PlacedItem) → ((j : ℕ) → j < i → R j (placed_at before j) (placed_at s j)) → R i (placed_at before i) (placed_at s i)
        → (j : ℕ) → j < i + 1 → R j (placed_at before j) (placed_at s j)
    split s f here j k =
        ⊎_elim (λ (e : j ≡ i). rw e here) (λ (e : j < i). f j e)
        (eq-or-lt_of_le (le_of_suc-le-suc (let z : suc j ≤ suc i = omega arith in z)))

    pub pass_write : (v : PlacedItem) → R i (placed_at before i) v → Passing R before (set placed i v) n (i + 1)
    pass_write v r =
        record {
          inside = omega arith;
          size = length-set placed i v ∙ t.size;
          done =
              split (set placed i v)
              (λ j k. rw (get_or-set_other placed i j v unplaced (λ (e : j ≡ i). omega arith)) (t.done j k))
              (rw (get_or-set_same placed i v unplaced (omega (arith, t.size))) r);
          rest = λ j k. get_or-set_other placed i j v unplaced (λ (e : j ≡ i). omega arith) ∙ t.rest j (omega arith);
        }

    pub pass_over : R i (placed_at before i) (placed_at before i) → Passing R before placed n (i + 1)
    pass_over r =
        record {
          inside = omega arith;
          size = t.size;
          done = split placed t.done (rw pass_here r);
          rest = λ j k. t.rest j (omega arith);
        }

-- an entry written leaves the rest of each item
pub entry_alone : (b s : List PlacedItem) (i : ℕ) (v : PlacedItem) → i < length s
    → with_entry false v ≡ with_entry false (placed_at s i) → EntriesAlone b s → EntriesAlone b (set s i v)
entry_alone b s i v h w f j = go (ℕ_discrete j i)
  where
    go : Dec (j ≡ i) → with_entry false (placed_at (set s i v) j) ≡ with_entry false (placed_at b j)
    go (yes e) = rw e (ap (with_entry false) (get_or-set_same s i v unplaced h) ∙ w ∙ f i)
    go (no e) = ap (with_entry false) (get_or-set_other s i j v unplaced e) ∙ f j

-- the target of a branch is an item
pub target_inside : (kinds operands : List ℕ) (j : ℕ) → Checked kinds operands → j < length kinds
    → is_branch (class_of (get_or kinds j 0)) ≡ true → get_or operands j 0 < length kinds
target_inside kinds operands j ok h q = target_below (listed kinds operands) ok.input j h (is_branch_lem (class_of (get_or kinds j 0)) q)

-- the entries with the targets of the first j items
abbrev pub entry_with : Listing → ℕ → ℕ → Bool
entry_with l j i = after_call l.kind i || any (λ j. targets (class_of (l.kind j)) (l.operand j) i) j

module _ (l : Listing) (j : ℕ) where
  entry_more : (i : ℕ) → entry_with l (j + 1) i
      ≡ (after_call l.kind i || (targets (class_of (l.kind j)) (l.operand j) i || any (λ j. targets (class_of (l.kind j)) (l.operand j) i) j))
  unfolding any
  entry_more i = rw add-one

  -- an item that is no branch adds no entry
  pub entry_same : is_branch (class_of (l.kind j)) ≡ false → (i : ℕ) → entry_with l (j + 1) i ≡ entry_with l j i
  entry_same q i = entry_more i ∙ rw q

  -- a branch adds its target
  pub entry_target : is_branch (class_of (l.kind j)) ≡ true → entry_with l (j + 1) (l.operand j) ≡ true
  entry_target q = entry_more (l.operand j) ∙ rw (q, eq-eqb (l.operand j) (l.operand j) refl) (or-true (after_call l.kind (l.operand j)))

  pub entry_other : is_branch (class_of (l.kind j)) ≡ true → (i : ℕ) → (i ≡ l.operand j → ⊥) → entry_with l (j + 1) i ≡ entry_with l j i
  entry_other q i h = entry_more i ∙ rw (q, ne_eqb (l.operand j) i (λ (e : l.operand j ≡ i). h (sym e)))

  pub targets_same : (s : List PlacedItem) (n : ℕ) → is_branch (class_of (l.kind j)) ≡ false → Entered s (entry_with l j) n
      → Entered s (entry_with l (j + 1)) n
  targets_same s n q f i h = f i h ∙ sym (entry_same q i)

  pub targets_more : (s : List PlacedItem) (n : ℕ) (v : PlacedItem) → is_branch (class_of (l.kind j)) ≡ true → l.operand j < length s
      → v.entry ≡ true → Entered s (entry_with l j) n → Entered (set s (l.operand j) v) (entry_with l (j + 1)) n
  targets_more s n v q b w f i h = go (ℕ_discrete i (l.operand j))
    where
      go : Dec (i ≡ l.operand j) → (placed_at (set s (l.operand j) v) i).entry ≡ entry_with l (j + 1) i
      go (yes e) =
          rw e (ap (λ (x : PlacedItem). x.entry) (get_or-set_same s (l.operand j) v unplaced b) ∙ w ∙ sym (entry_target q))
      go (no e) =
          ap (λ (x : PlacedItem). x.entry) (get_or-set_other s (l.operand j) i v unplaced e) ∙ f i h ∙ sym (entry_other q i e)

pub targets_none : (l : Listing) (s : List PlacedItem) (n : ℕ) → Entered s (after_call l.kind) n → Entered s (entry_with l 0) n
unfolding any
targets_none l s n f i h = f i h ∙ sym (or-false (after_call l.kind i))
