-- Whether ROLL's cells meet a range.
use mathlib.Core.Path.{◌≡◌, refl, sym, ◌∙◌, ap}
use mathlib.Core.Bool.{Bool, true, false, ◌&&◌, ◌||◌, or-false}
use mathlib.Core.List.{List}
use Prim.Native.Nat.{ℕ, zero, suc, ◌+◌, ◌*◌, ◌<◌, ◌≤◌}
use native.Mathlib.Decide.{dec_lt}
use native.Mathlib.Omega.{arith}
use borrow.Author.Tests.{lt-ltb, le-ltb}
use lib.Dec.{ltb}
use Rattle.cell.specs.Memory.{cell_at}
use Rattle.machine.specs.Effects.{roll_stores, rolled}
use Rattle.machine.specs.Commits.{touches}

-- the test of one range of bytes against another
pub test_true : (a w lo hi : ℕ) → a < hi → lo < a + w → (ltb a hi && ltb lo (a + w)) ≡ true
test_true a w lo hi h k = simp (lt-ltb _ _ h, lt-ltb _ _ k)

pub test_left : (a w lo hi : ℕ) → hi ≤ a → (ltb a hi && ltb lo (a + w)) ≡ false
test_left a w lo hi h = simp (le-ltb _ _ h)

pub test_right : (a w lo hi : ℕ) → a < hi → a + w ≤ lo → (ltb a hi && ltb lo (a + w)) ≡ false
test_right a w lo hi h k = simp (lt-ltb _ _ h, le-ltb _ _ k)

or_true : (a b : Bool) → a ≡ true → (a || b) ≡ true
or_true a b e = rw e

or_left_false : (a b : Bool) → a ≡ false → (a || b) ≡ b
or_left_false a b e = rw e

module _ (order : ℕ) (m : List ℕ) (top last lo hi : ℕ) (some : lo < hi) where
  -- one cell more, above w bytes from the top on
  more : (w : ℕ) → ((ltb (top + w) hi && ltb lo ((top + w) + 4)) || (ltb top hi && ltb lo (top + w))) ≡ (ltb top hi && ltb lo (top + (w + 4)))
  more w = go (dec_lt (top + w) hi) (dec_lt lo (top + w)) (dec_lt lo (top + w + 4)) (dec_lt top hi)
    where
      go : Dec (top + w < hi) → Dec (lo < top + w) → Dec (lo < top + w + 4) → Dec (top < hi)
          → ((ltb (top + w) hi && ltb lo ((top + w) + 4)) || (ltb top hi && ltb lo (top + w))) ≡ (ltb top hi && ltb lo (top + (w + 4)))
      go (yes a) b (yes c) d =
          or_true _ _ (test_true (top + w) 4 lo hi a c) ∙ sym (test_true top (w + 4) lo hi (omega arith) (omega arith))
      go (yes a) b (no c) d =
          or_left_false _ _ (test_right (top + w) 4 lo hi a (omega arith))
          ∙ test_right top w lo hi (omega arith) (omega arith)
          ∙ sym (test_right top (w + 4) lo hi (omega arith) (omega arith))
      go (no a) b c (no d) =
          or_left_false _ _ (test_left (top + w) 4 lo hi (omega arith))
          ∙ test_left top w lo hi (omega arith)
          ∙ sym (test_left top (w + 4) lo hi (omega arith))
      go (no a) b c (yes d) =
          or_left_false _ _ (test_left (top + w) 4 lo hi (omega arith))
          ∙ test_true top w lo hi d (omega arith)
          ∙ sym (test_true top (w + 4) lo hi d (omega arith))

  roll_touches : (u : ℕ) → touches lo hi (roll_stores order m top last u) ≡ (ltb top hi && ltb lo (top + (4 * u + 4)))
  unfolding touches roll_stores
  roll_touches zero = or-false _
  roll_touches (suc u) =
      ap (λ (b : Bool). (ltb (top + 4 * suc u) hi && ltb lo ((top + 4 * suc u) + 4)) || b)
      (roll_touches u ∙ ap (λ (x : ℕ). ltb top hi && ltb lo (top + x)) (let e : 4 * u + 4 ≡ 4 * suc u = omega arith in e))
      ∙ more (4 * suc u)

-- ROLL writes the cells from the top one to the deepest, or none
pub rolled_touches : (order : ℕ) (m : List ℕ) (top u lo hi : ℕ) → lo < hi
    → (ltb 0 u && (ltb top hi && ltb lo (top + (4 * u + 4)))) ≡ touches lo hi (rolled order m top u)
unfolding touches
rolled_touches order m top zero lo hi h = refl
rolled_touches order m top (suc u) lo hi h =
    ap (λ (b : Bool). b && (ltb top hi && ltb lo (top + (4 * suc u + 4)))) (lt-ltb 0 (suc u) (omega arith))
    ∙ sym (roll_touches order m top (cell_at order m (top + 4 * suc u)) lo hi h (suc u))
