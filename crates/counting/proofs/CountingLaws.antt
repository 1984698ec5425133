-- The laws of specs/Counting, and the test as the code makes it.
use mathlib.Core.Path.{◌≡◌, refl, sym, ◌∙◌, ap}
use mathlib.Core.Bool.{Bool, true, false}
use mathlib.Core.Logic.{◌⊎◌, inl, inr}
use Prim.Native.Nat.{ℕ, zero, suc, ◌+◌, ◌-◌, ◌*◌, ◌^◌, ◌<◌, ◌≤◌}
use native.Mathlib.Nat.{mul-le-mul_right, eq-or-lt_of_le}
use native.Mathlib.Omega.{arith}
use lib.Dec.{leb, ltb, eqb}
use lib.IntN.{pos, ◌+ℤ◌, sub_ℕ}
use borrow.Author.Tests.{leb-true, leb-false, eq-eqb, ne_eqb, lt-leb, le-leb, lt-ltb, le-ltb}
use Rattle.cell.specs.Number.{sum, difference, negated}
use Rattle.counting.specs.Counting.{signed, off_circle, plus_ends, Cases, LoopIsByOne, ByZeroGoesOn, index_after, CountsUp, CountsDown}

pub cases : Cases
unfolding plus_ends sum difference
cases = (refl, refl, refl)

-- the exact sum, upwards and downwards
above_off : (x : ℕ) → off_circle (pos x) ≡ leb (2 ^ 32) x
above_off x = rw (le-ltb x 0 (omega arith))

below_off : (u b : ℕ) → u < 2 ^ 32 → off_circle (sub_ℕ u b) ≡ ltb u b
below_off u b h = go (ltb u b) refl
  where
    go : (t : Bool) → ltb u b ≡ t → off_circle (sub_ℕ u b) ≡ ltb u b
    go true e = rw e
    go false e = rw e (above_off (u - b) ∙ lt-leb (2 ^ 32) (u - b) (omega arith))

module _ (u n : ℕ) where
  up : n < 2 ^ 31 → off_circle (pos u +ℤ signed n) ≡ leb (2 ^ 32) (u + n)
  up h = rw (lt-leb 0x80000000 n (omega arith)) (above_off (u + n))

  down : u < 2 ^ 32 → 2 ^ 31 ≤ n → n < 2 ^ 32 → off_circle (pos u +ℤ signed n) ≡ ltb u (2 ^ 32 - n)
  down l h b =
      rw (le-leb 0x80000000 n (omega arith), lt-ltb n 0x100000000 (omega arith)) (below_off u (suc (0x100000000 - suc n)) l
      ∙ ap (ltb u) (let e : suc (0x100000000 - suc n) ≡ 2 ^ 32 - n = omega arith in e))

-- two tests that hold alike
le_is_eq : (a b x y : ℕ) → (a ≤ b → x ≡ y) → (x ≡ y → a ≤ b) → leb a b ≡ eqb x y
le_is_eq a b x y f g = go (leb a b) refl
  where
    go : (t : Bool) → leb a b ≡ t → leb a b ≡ eqb x y
    go true e = e ∙ sym (eq-eqb x y (f (leb-true a b e)))
    go false e = e ∙ sym (ne_eqb x y (λ q. let l = g q in omega (arith, leb-false a b e)))

pub difference_below : (a b : ℕ) → difference a b < 2 ^ 32
unfolding difference
difference_below a b = omega arith

-- as the code tests, from the new index
same_tests : (a b c d : ℕ) → (a ≤ b → c ≤ d) → (c ≤ d → a ≤ b) → leb a b ≡ leb c d
same_tests a b c d f g = go (leb a b) (leb c d) refl refl
  where
    go : (s t : Bool) → leb a b ≡ s → leb c d ≡ t → leb a b ≡ leb c d
    go true true p q = p ∙ sym q
    go false false p q = p ∙ sym q
    go true false p q = absurd (let h = f (leb-true a b p) in omega (arith, leb-false c d q))
    go false true p q = absurd (let h = g (leb-true c d q) in omega (arith, leb-false a b p))

module _ (index limit n : ℕ) (h : index < 2 ^ 32) (l : limit < 2 ^ 32) where
  pub up_behind : n < 2 ^ 31 → plus_ends index limit n ≡ ltb (difference (sum index n) limit) n
  unfolding plus_ends sum difference
  up_behind b =
      up (difference index limit) n b
      ∙ same_tests (2 ^ 32) (difference index limit + n) (suc (difference (sum index n) limit)) n (λ p. omega arith) (λ p. omega arith)

  pub down_behind : 2 ^ 31 ≤ n → n < 2 ^ 32 → plus_ends index limit n ≡ leb n (difference (sum index n) limit)
  unfolding plus_ends sum difference
  down_behind d b =
      down (difference index limit) n (difference_below index limit) d b
      ∙ same_tests (suc (difference index limit)) (2 ^ 32 - n) n (difference (sum index n) limit) (λ p. omega arith) (λ p. omega arith)

pub loop_is_by_one : LoopIsByOne
unfolding plus_ends sum difference
loop_is_by_one index limit h l =
    up (difference index limit) 1 (omega arith)
    ∙ le_is_eq (2 ^ 32) (difference index limit + 1) (sum index 1) limit (λ p. omega arith) (λ p. omega arith)

pub by_zero_goes_on : ByZeroGoesOn
unfolding plus_ends
by_zero_goes_on index limit =
    up (difference index limit) 0 (omega arith) ∙ lt-leb (2 ^ 32) (difference index limit + 0) (omega (arith, difference_below index limit))

other_way : (a b : ℕ) → a < 2 ^ 32 → b < 2 ^ 32 → 0 < difference b a → difference a b ≡ 2 ^ 32 - difference b a
unfolding difference
other_way a b h l p = omega arith

negated_is : (n : ℕ) → 0 < n → n ≤ 2 ^ 31 → negated n ≡ 2 ^ 32 - n
unfolding negated
negated_is n z b = omega arith

index_below : (index n j : ℕ) → index < 2 ^ 32 → index_after index n j < 2 ^ 32
unfolding index_after sum
index_below index n zero h = h
index_below index n (suc j) h = omega arith

-- one step brings the index nearer to the limit, if it is that far away
step_up : (a l n : ℕ) → a < 2 ^ 32 → l < 2 ^ 32 → n ≤ difference l a → difference l (sum a n) + n ≡ difference l a
unfolding sum difference
step_up a l n h k p = omega arith

step_down : (a l n : ℕ) → a < 2 ^ 32 → l < 2 ^ 32 → n ≤ 2 ^ 31 → n ≤ difference a l → difference (sum a (2 ^ 32 - n)) l + n ≡ difference a l
unfolding sum difference
step_down a l n h k b p = omega arith

-- what is left to the limit after j steps of k
left_up : (index limit n k j : ℕ) → index < 2 ^ 32 → limit < 2 ^ 32 → difference limit index ≡ k * n → j ≤ k
    → difference limit (index_after index n j) + j * n ≡ k * n
unfolding index_after
left_up index limit n k zero h l e p = omega arith
left_up index limit n k (suc j) h l e p =
    let q = left_up index limit n k j h l e (omega arith) in
    let m : suc j * n ≤ k * n = mul-le-mul_right n p in
    omega (arith, step_up (index_after index n j) limit n (index_below index n j h) l (omega arith))

left_down : (index limit n k j : ℕ) → index < 2 ^ 32 → limit < 2 ^ 32 → n ≤ 2 ^ 31 → difference index limit ≡ k * n → j ≤ k
    → difference (index_after index (2 ^ 32 - n) j) limit + j * n ≡ k * n
unfolding index_after
left_down index limit n k zero h l b e p = omega arith
left_down index limit n k (suc j) h l b e p =
    let q = left_down index limit n k j h l b e (omega arith) in
    let m : suc j * n ≤ k * n = mul-le-mul_right n p in
    omega (arith, step_down (index_after index (2 ^ 32 - n) j) limit n (index_below index (2 ^ 32 - n) j h) l b (omega arith))

pub counts_up : CountsUp
unfolding plus_ends
counts_up index limit n k j h l z b e p =
    up (difference i limit) n b ∙ le_is_eq (2 ^ 32) (difference i limit + n) (suc j) k (ends (eq-or-lt_of_le p)) ended
  where
    i : ℕ
    i = index_after index n j

    rest : difference limit i + j * n ≡ k * n
    rest = left_up index limit n k j h l e (omega arith)

    round : difference i limit ≡ 2 ^ 32 - difference limit i
    round = other_way i limit (index_below index n j h) l (omega (arith, rest, mul-le-mul_right n p))

    ends : (suc j ≡ k) ⊎ (suc j < k) → 2 ^ 32 ≤ difference i limit + n → suc j ≡ k
    ends (inl q) r = q
    ends (inr q) r = absurd (omega (arith, rest, round, mul-le-mul_right n q))

    ended : suc j ≡ k → 2 ^ 32 ≤ difference i limit + n
    ended q = omega (arith, rest, round, ap (λ (m : ℕ). m * n) q)

pub counts_down : CountsDown
unfolding plus_ends
counts_down index limit n k j h l z b e p =
    rw (negated_is n z b)
    (down (difference i limit) (2 ^ 32 - n) (difference_below i limit) (omega arith) (omega arith)
    ∙ ap (ltb (difference i limit)) (let q : 2 ^ 32 - (2 ^ 32 - n) ≡ n = omega arith in q)
    ∙ le_is_eq (suc (difference i limit)) n j k (ends (eq-or-lt_of_le p)) ended)
  where
    i : ℕ
    i = index_after index (2 ^ 32 - n) j

    rest : difference i limit + j * n ≡ k * n
    rest = left_down index limit n k j h l b e p

    ends : (j ≡ k) ⊎ (j < k) → difference i limit < n → j ≡ k
    ends (inl q) r = q
    ends (inr q) r = absurd (omega (arith, rest, mul-le-mul_right n q))

    ended : j ≡ k → difference i limit < n
    ended q = omega (arith, rest, ap (λ (m : ℕ). m * n) q)
