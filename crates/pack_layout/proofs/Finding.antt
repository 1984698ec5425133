-- Entries by address: the address of an entry finds that entry, and what an address finds is an entry there.
-- Assumes nothing.
use mathlib.Core.Path.{◌≡◌, refl, sym, ap, ◌∙◌}
use mathlib.Core.Bool.{Bool, true, false, ◌&&◌, true≢false}
use Prim.Native.Nat.{ℕ, zero, suc, ◌<◌}
use native.Mathlib.Decide.{dec_lt}
use native.Mathlib.Omega.{arith}
use borrow.Author.Tests.{eqb-true, eq-eqb}
use lib.Dec.{eqb}
use Rattle.std.specs.Prelude.{None, Some}
use Rattle.cell.specs.Choice.{if}
use Rattle.cell.proofs.BooleanLaws.{both_true}
use Rattle.pack_layout.specs.declared.ItemNumber.{ItemNumber}
use Rattle.pack_layout.specs.Listing.{Listing, entry}
use Rattle.pack_layout.specs.Packing.{layout, address_of, entry_below, entry_at}
use Rattle.pack_layout.proofs.Placing.{entry_opens, one_entry}

pub record Found (base : ℕ) (l : Listing) (k a j : ℕ) : Type 0 where
  pub item : j < k
  pub entered : entry l j ≡ true
  pub there : address_of base l j ≡ a

and_true : (a b : Bool) → a ≡ true → b ≡ true → (a && b) ≡ true
and_true true b p q = q
and_true false b p q = p

module _ (base : ℕ) (l : Listing) where
  found_below : (k a j : ℕ) → entry_below base l k a ≡ Some (record { 0 = j }) → Found base l k a j
  unfolding entry_below
  found_below zero a j e = absurd (let z : ◌≡◌ {A = ℕ} 0 1 = cc in omega arith)
  found_below (suc k) a j e = go (entry l k && eqb (address_of base l k) a) refl e (λ q. found_below k a j q)
    where
      here : (entry l k ≡ true) × (eqb (address_of base l k) a ≡ true) → k ≡ j → Found base l (suc k) a j
      here q i =
          record {
            item = omega arith;
            entered = rw (← i) q.0;
            there = rw (← i) (eqb-true _ _ q.1);
          }

      go : (b : Bool) → (entry l k && eqb (address_of base l k) a) ≡ b → if b (Some (record { 0 = k })) (entry_below base l k a) ≡ Some (record { 0 = j })
          → (entry_below base l k a ≡ Some (record { 0 = j }) → Found base l k a j) → Found base l (suc k) a j
      go true q e f =
          let r : ◌≡◌ {A = ItemNumber} (record { 0 = k }) (record { 0 = j }) = cc in
          here (both_true (entry l k) (eqb (address_of base l k) a) q) (ap (λ (x : ItemNumber). x.0) r)
      go false q e f = let r = f e in record { item = omega (arith, r.item); entered = r.entered; there = r.there }

  finds_below : (k j : ℕ) → j < k → entry l j ≡ true → entry_below base l k (address_of base l j) ≡ Some (record { 0 = j })
  unfolding entry_below
  finds_below zero j h e = absurd (omega arith)
  finds_below (suc k) j h e = go (entry l k && eqb (address_of base l k) (address_of base l j)) refl (dec_lt j k) (λ c. finds_below k j c e)
    where
      only : (entry l k ≡ true) × (eqb (address_of base l k) (address_of base l j) ≡ true) → k ≡ j
      only q =
          one_entry (layout l) k j (entry_opens (layout l) k q.0) (entry_opens (layout l) j e)
          (omega (arith, eqb-true (address_of base l k) (address_of base l j) q.1))

      last : k ≡ j → (entry l k && eqb (address_of base l k) (address_of base l j)) ≡ true
      last q = rw q (and_true (entry l j) (eqb (address_of base l j) (address_of base l j)) e (eq-eqb (address_of base l j) (address_of base l j) refl))

      go : (b : Bool) → (entry l k && eqb (address_of base l k) (address_of base l j)) ≡ b → Dec (j < k)
          → (j < k → entry_below base l k (address_of base l j) ≡ Some (record { 0 = j }))
          → if b (Some (record { 0 = k })) (entry_below base l k (address_of base l j)) ≡ Some (record { 0 = j })
      go true q d f = ap (λ (x : ℕ). Some (record { 0 = x })) (only (both_true (entry l k) (eqb (address_of base l k) (address_of base l j)) q))
      go false q (yes c) f = f c
      go false q (no c) f = absurd (true≢false (sym (last (omega arith)) ∙ q))

  -- what an address leads to is an entry that is placed there
  pub found : (a j : ℕ) → entry_at base l a ≡ Some (record { 0 = j }) → Found base l l.count a j
  unfolding entry_at
  found a j e = found_below l.count a j e

  -- and every entry's address leads to it
  pub finds : (j : ℕ) → j < l.count → entry l j ≡ true → entry_at base l (address_of base l j) ≡ Some (record { 0 = j })
  unfolding entry_at
  finds j h e = finds_below l.count j h e

  -- an address that leads nowhere is no entry's
  pub finds_none : (a : ℕ) → entry_at base l a ≡ None → (j : ℕ) → j < l.count → entry l j ≡ true → address_of base l j ≡ a → ⊥
  finds_none a e j h q s =
      let f : entry_at base l a ≡ Some (record { 0 = j }) = rw (← s) (finds j h q) in
      let z : ◌≡◌ {A = ℕ} 0 1 = cc in
      omega arith
