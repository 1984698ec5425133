-- Cells of a span, bytes of a table, and what the check of a place tells.
use mathlib.Core.Path.{◌≡◌, refl, sym, ◌∙◌}
use mathlib.Core.Bool.{Bool, true, false, ◌&&◌}
use Prim.Native.Nat.{ℕ, ◌+◌, ◌-◌, ◌*◌, ◌/◌, ◌%◌, ◌^◌, ◌<◌, ◌≤◌}
use native.Mathlib.Omega.{arith}
use lib.Dec.{ltb, leb, eqb}
use borrow.Author.Tests.{ltb-true, ltb-false, leb-true, leb-false, eqb-true, eqb-false, lt-ltb, le-ltb}
use Rattle.cell.specs.Number.{difference}
use Rattle.cell.specs.Place.{Checked, good, address}
use Rattle.std.specs.Prelude.{Ok, Err}
use Rattle.std.specs.Int.{w32, rotate_right}
use Rattle.std.specs.Int.Bits.{or_shifted_r}
use Rattle.cell.specs.declared.Fault.TheVariants as fault
use Rattle.cell.proofs.BooleanLaws.{both_true}
use Rattle.machine.specs.Places.{Width, end_in, span_at, within, in_table, allowed, table_allows, aligned_as, fault_at, open_to, place_of}
use Rattle.machine.specs.declared.Span.{Span}
use Rattle.machine.specs.declared.Guarded.{Guarded}
use Rattle.machine.specs.declared.Machine.{Machine}
use Rattle.machine.specs.declared.Access.{Access}

-- a distance, rotated right by two bits
abbrev turned : ℕ → ℕ
turned d = d / 4 + d % 4 * 2 ^ 30

rotated : (d : ℕ) → d < 2 ^ 32 → rotate_right w32 d 2 ≡ turned d
rotated d h =
    let high : d * 2 ^ 30 % 2 ^ 32 ≡ d % 4 * 2 ^ 30 = omega arith in
    rw high (or_shifted_r (d % 4) 30 (d / 4) (omega (arith, h)) ∙ omega arith)

turned_below : (d cells : ℕ) → d % 4 ≡ 0 → d < 4 * cells → turned d < cells
turned_below d cells w h = omega (arith, w, h)

turned_beyond : (d cells : ℕ) → 4 * cells ≤ d → cells ≤ turned d
turned_beyond d cells h = omega (arith, h)

turned_past : (d cells : ℕ) → (d % 4 ≡ 0 → ⊥) → cells ≤ 2 ^ 30 → cells ≤ turned d
turned_past d cells n h = omega (arith, n, h)

-- the distance between two numbers, in 32 bits
distance_down : (from to : ℕ) → to ≤ from → from < 2 ^ 32 → difference from to ≡ from - to
unfolding difference
distance_down from to l h = omega (arith, l, h)

distance_round : (from to : ℕ) → from < to → to < 2 ^ 32 → difference from to ≡ from + 2 ^ 32 - to
unfolding difference
distance_round from to l h = omega (arith, l, h)

difference_below : (from to : ℕ) → difference from to < 2 ^ 32
unfolding difference
difference_below from to = omega arith

-- the distance from the highest cell, turned, is below the count just for the addresses of the cells
module _ (last cells a : ℕ) (w : last % 4 ≡ 0) (b : 4 * cells ≤ last + 4) (h : last < 2 ^ 32) (k : a < 2 ^ 32) where
  beyond : a < last + 4 → last < a → (a % 4 ≡ 0 → ⊥)
  beyond l g e = omega (arith, w, l, g, e)

  -- an address above the highest cell
  above : last < a → cells ≤ turned (difference last a)
  above g = rw (distance_round last a g k) (go (eqb (a % 4) 0) refl)
    where
      go : (u : Bool) → eqb (a % 4) 0 ≡ u → cells ≤ turned (last + 2 ^ 32 - a)
      go true r = turned_beyond (last + 2 ^ 32 - a) cells (omega (arith, w, b, g, k, eqb-true (a % 4) 0 r))
      go false r =
          turned_past (last + 2 ^ 32 - a) cells (λ z. eqb-false (a % 4) 0 r (omega (arith, w, g, k, z))) (omega (arith, w, b, h))

  -- and one below the lowest
  below : a ≤ last → a + 4 * cells < last + 4 → cells ≤ turned (difference last a)
  below l g = rw (distance_down last a l h) (go (eqb (a % 4) 0) refl)
    where
      go : (u : Bool) → eqb (a % 4) 0 ≡ u → cells ≤ turned (last - a)
      go true r = turned_beyond (last - a) cells (omega (arith, w, l, g, eqb-true (a % 4) 0 r))
      go false r = turned_past (last - a) cells (λ z. eqb-false (a % 4) 0 r (omega (arith, w, l, z))) (omega (arith, w, b, h))

  turned_within : ltb (turned (difference last a)) cells ≡ (within (span_at last cells) a && eqb (a % 4) 0)
  turned_within = go (leb (last + 4) (a + 4 * cells)) (ltb a (last + 4)) (eqb (a % 4) 0) (leb a last) refl refl refl refl
    where
      go : (s t u v : Bool) → leb (last + 4) (a + 4 * cells) ≡ s → ltb a (last + 4) ≡ t → eqb (a % 4) 0 ≡ u → leb a last ≡ v
          → ltb (turned (difference last a)) cells ≡ ((s && t) && u)
      go true true true true p q r v =
          rw (distance_down last a (leb-true a last v) h)
          (lt-ltb _ _
          (turned_below (last - a) cells (omega (arith, w, leb-true a last v, eqb-true (a % 4) 0 r))
          (omega (arith, leb-true a last v, leb-true (last + 4) (a + 4 * cells) p, w, eqb-true (a % 4) 0 r))))
      go true true true false p q r v = absurd (beyond (ltb-true a (last + 4) q) (leb-false a last v) (eqb-true (a % 4) 0 r))
      go true true false true p q r v =
          rw (distance_down last a (leb-true a last v) h)
          (le-ltb _ _
          (turned_past (last - a) cells (λ z. eqb-false (a % 4) 0 r (omega (arith, w, leb-true a last v, z))) (omega (arith, w, b, h))))
      go true true false false p q r v = le-ltb _ _ (above (leb-false a last v))
      go true false u true p q r v = absurd (let l = ltb-false a (last + 4) q in omega (arith, l, leb-true a last v))
      go true false u false p q r v = le-ltb _ _ (above (leb-false a last v))
      go false t u true p q r v = le-ltb _ _ (below (leb-true a last v) (leb-false (last + 4) (a + 4 * cells) p))
      go false t u false p q r v = le-ltb _ _ (above (leb-false a last v))

  pub rotated_within : ltb (rotate_right w32 (difference last a) 2) cells ≡ (within (span_at last cells) a && eqb (a % 4) 0)
  rotated_within = rw (rotated (difference last a) (difference_below last a)) turned_within

-- the distance from a table's first byte is below its number of bytes just for its bytes
pub guards_byte : (table : Guarded) (a : ℕ) → table.first.0 + table.bytes ≤ 2 ^ 32 → table.first.0 < 2 ^ 32 → a < 2 ^ 32
    → ltb (difference a table.first.0) table.bytes ≡ in_table table a
guards_byte table a g f k = go (leb table.first.0 a) (ltb a (table.first.0 + table.bytes)) refl refl
  where
    go : (s t : Bool) → leb table.first.0 a ≡ s → ltb a (table.first.0 + table.bytes) ≡ t
        → ltb (difference a table.first.0) table.bytes ≡ (s && t)
    go true true p q =
        rw (distance_down a table.first.0 (leb-true table.first.0 a p) k)
        (lt-ltb (a - table.first.0) table.bytes (omega (arith, leb-true table.first.0 a p, ltb-true a (table.first.0 + table.bytes) q)))
    go true false p q =
        rw (distance_down a table.first.0 (leb-true table.first.0 a p) k)
        (le-ltb (a - table.first.0) table.bytes (omega (arith, leb-true table.first.0 a p, ltb-false a (table.first.0 + table.bytes) q)))
    go false t p q =
        let l = leb-false table.first.0 a p in
        rw (distance_round a table.first.0 l f)
        (le-ltb (a + 2 ^ 32 - table.first.0) table.bytes (omega (arith, g, l)))

-- what is known of a cell of a span that lies in memory
pub record Found (span : Span) (len a : ℕ) : Type 0 where
  pub inside : a < len
  pub both : (within span a && eqb (a % 4) 0) ≡ true

pub found : (span : Span) (len a : ℕ) (t : Bool) → end_in span ≤ len → t ≡ (within span a && eqb (a % 4) 0) → t ≡ true → Found span len a
found span len a t e p q =
    let w = both_true (within span a) (eqb (a % 4) 0) (sym p ∙ q) in
    let b = both_true (leb (end_in span) (a + 4 * span.cells.0)) (ltb a (end_in span)) w.0 in
    record { inside = omega (arith, e, ltb-true a (end_in span) b.1); both = sym p ∙ q }

-- where the table is not asked
pub open_read : (c : Checked) → open_to c true ≡ c
open_read (Ok _) = refl
open_read (Err f) = refl

-- what the check of a place tells, by what it has found
module _ (machine : Machine) (width : Width) (access : Access) (len a : ℕ) where
  pub place_good : a < len → (allowed machine access a && aligned_as width a) ≡ true → table_allows machine access a ≡ true
      → place_of machine width access len a ≡ good
  unfolding place_of
  place_good h e t = simp (lt-ltb a len h, e, t)

  pub place_guarded : a < len → (allowed machine access a && aligned_as width a) ≡ true → table_allows machine access a ≡ false
      → place_of machine width access len a ≡ Err fault.Table
  unfolding place_of
  place_guarded h e t = simp (lt-ltb a len h, e, t)

  pub place_off : a < len → (allowed machine access a && aligned_as width a) ≡ false → place_of machine width access len a ≡ Err (fault_at access a)
  unfolding place_of
  place_off h e = simp (lt-ltb a len h, e)

  pub place_outside : len ≤ a → place_of machine width access len a ≡ Err (fault.Range (address a))
  unfolding place_of
  place_outside h = simp (le-ltb a len h)
