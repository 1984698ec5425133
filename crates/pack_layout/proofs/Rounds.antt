-- Rounds of marking settle: n rounds are enough for n items, and the settled marks are those of a round that adds none.
-- Assumes nothing.
use mathlib.Core.Path.{◌≡◌, refl, sym, ap, ◌∙◌}
use mathlib.Core.Bool.{Bool, true, false, ◌||◌, true≢false}
use Prim.Native.Nat.{ℕ, zero, suc, ◌+◌, ◌-◌, ◌≤◌, ◌<◌}
use native.Mathlib.Decide.{dec_lt}
use native.Mathlib.Omega.{arith}
use Rattle.cell.specs.Choice.{if}
use Rattle.pack_layout.specs.Flags.{bit}
use Rattle.pack_layout.specs.Listing.{any}
use Rattle.pack_layout.specs.Rounds.{rounds, adds, settle}

unfoldable pub count : (ℕ → Bool) → ℕ → ℕ
count p zero = 0
count p (suc i) = bit (p i) + count p i

pub bit_most : (b : Bool) → bit b ≤ 1
bit_most true = omega arith
bit_most false = omega arith

pub count_most : (p : ℕ → Bool) (n : ℕ) → count p n ≤ n
unfolding count
count_most p zero = omega arith
count_most p (suc n) = omega (arith, bit_most (p n), count_most p n)

-- all of the counting: marks that are new add to the count
more_of : (a b c : Bool) (x y : ℕ) → (b ≡ true → a ≡ false) → x + bit c ≤ y → bit a + x + bit (b || c) ≤ bit (a || b) + y
more_of true true c x y h l = absurd (true≢false (h refl))
more_of true false c x y h l = omega arith
more_of false true c x y h l = omega arith
more_of false false c x y h l = omega arith

more : (m p : ℕ → Bool) → ((i : ℕ) → p i ≡ true → m i ≡ false)
    → (n : ℕ) → count m n + bit (any p n) ≤ count (λ i. m i || p i) n
unfolding count any
more m p only zero = omega arith
more m p only (suc n) = more_of (m n) (p n) (any p n) (count m n) (count (λ i. m i || p i) n) (only n) (more m p only n)

pub any_none : (p : ℕ → Bool) (n : ℕ) → any p n ≡ false → (i : ℕ) → i < n → p i ≡ false
unfolding any
any_none p zero e i h = absurd (omega arith)
any_none p (suc n) e i h = go (p n) refl e (λ a l. any_none p n a i l) (dec_lt i n)
  where
    go : (b : Bool) → p n ≡ b → (b || any p n) ≡ false → (any p n ≡ false → i < n → p i ≡ false) → Dec (i < n) → p i ≡ false
    go true q e f d = absurd (true≢false e)
    go false q e f (yes l) = f e l
    go false q e f (no l) = ap p (let t : i ≡ n = omega arith in t) ∙ q

module _ (n : ℕ) (new : (ℕ → Bool) → ℕ → Bool) (only : (m : ℕ → Bool) (i : ℕ) → new m i ≡ true → m i ≡ false) where
  pub grows : (r : ℕ) → adds n new r ≡ true → count (rounds n new r) n + 1 ≤ count (rounds n new (suc r)) n
  unfolding rounds
  grows r e = rw e at (more (rounds n new r) (new (rounds n new r)) (only (rounds n new r)) n)

  quiet_from : (k r : ℕ) → r + k ≡ n → r ≤ count (rounds n new r) n → adds n new (settle n new k r) ≡ false
  unfolding settle
  quiet_from zero r e h = go (adds n new r) refl
    where
      go : (b : Bool) → adds n new r ≡ b → b ≡ false
      go true q = absurd (omega (arith, grows r q, count_most (rounds n new (suc r)) n))
      go false q = refl
  quiet_from (suc k) r e h = go (adds n new r) refl (λ q. quiet_from k (suc r) (omega arith) (omega (arith, grows r q)))
    where
      go : (b : Bool) → adds n new r ≡ b → (adds n new r ≡ true → adds n new (settle n new k (suc r)) ≡ false)
          → adds n new (if b (settle n new k (suc r)) r) ≡ false
      go true q h = h q
      go false q h = q

  -- the round taken adds no mark
  pub quiet : adds n new (settle n new n 0) ≡ false
  quiet = quiet_from n 0 (omega arith) (omega arith)

  pub settled_adds_none : (i : ℕ) → i < n → new (rounds n new (settle n new n 0)) i ≡ false
  settled_adds_none = any_none (new (rounds n new (settle n new n 0))) n quiet

-- n rounds are enough
settle_at_most : (n : ℕ) (new : (ℕ → Bool) → ℕ → Bool) (k r : ℕ) → settle n new k r ≤ r + k
unfolding settle
settle_at_most n new zero r = omega arith
settle_at_most n new (suc k) r = go (adds n new r) (settle_at_most n new k (suc r))
  where
    go : (b : Bool) → settle n new k (suc r) ≤ suc r + k → if b (settle n new k (suc r)) r ≤ r + suc k
    go true h = omega arith
    go false h = omega arith

pub settle_most : (n : ℕ) (new : (ℕ → Bool) → ℕ → Bool) → settle n new n 0 ≤ n
settle_most n new = omega (arith, settle_at_most n new n 0)

-- what a loop over rounds keeps: r rounds were run, each added a mark, and the round taken is still ahead
pub record AtRound (n : ℕ) (new : (ℕ → Bool) → ℕ → Bool) (r : ℕ) : Type 0 where
  pub marked : r ≤ count (rounds n new r) n
  pub ahead : settle n new (n - r) r ≡ settle n new n 0

module _ (n : ℕ) (new : (ℕ → Bool) → ℕ → Bool) (only : (m : ℕ → Bool) (i : ℕ) → new m i ≡ true → m i ≡ false) where
  pub first_round : AtRound n new 0
  first_round = record { marked = omega arith; ahead = ap (λ (k : ℕ). settle n new k 0) (let e : n - 0 ≡ n = omega arith in e) }

  pub room : (r : ℕ) → AtRound n new r → adds n new r ≡ true → suc r ≤ n
  room r a q = omega (arith, a.marked, grows n new only r q, count_most (rounds n new (suc r)) n)

  settle_more : (k r : ℕ) → adds n new r ≡ true → settle n new (suc k) r ≡ settle n new k (suc r)
  unfolding settle
  settle_more k r q = rw q

  settle_stop : (k r : ℕ) → adds n new r ≡ false → settle n new k r ≡ r
  unfolding settle
  settle_stop zero r q = refl
  settle_stop (suc k) r q = rw q

  pub next_round : (r : ℕ) → AtRound n new r → adds n new r ≡ true → AtRound n new (suc r)
  next_round r a q =
      record {
        marked = omega (arith, a.marked, grows n new only r q);
        ahead =
            sym (settle_more (n - suc r) r q)
            ∙ ap (λ (k : ℕ). settle n new k r) (let e : suc (n - suc r) ≡ n - r = omega (arith, room r a q) in e)
            ∙ a.ahead;
      }

  pub last_round : (r : ℕ) → AtRound n new r → adds n new r ≡ false → settle n new n 0 ≡ r
  last_round r a q = sym a.ahead ∙ settle_stop (n - r) r q
