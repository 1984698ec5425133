-- The item that begins a cell, found in the array by its address.
-- Assumes nothing.
use mathlib.Core.Path.{◌≡◌, refl, sym, ap, ◌∙◌}
use mathlib.Core.Bool.{Bool, true, false, ◌&&◌}
use mathlib.Core.List.{List, [], ◌∷◌}
use Prim.Native.Nat.{ℕ, zero, suc, ◌+◌, ◌*◌, ◌/◌, ◌%◌, ◌^◌, ◌≤◌, ◌<◌}
use native.Mathlib.Decide.{dec_lt, ℕ_discrete}
use native.Mathlib.Omega.{arith}
use borrow.Author.Tests.{eq-eqb, ne_eqb}
use lib.Dec.{eqb}
use lib.ListN.{length, get_or, get_or-eq_default}
use Rattle.cell.specs.Choice.{if}
use Rattle.cell.specs.Number.{difference}
use Rattle.pack_layout.specs.Kinds.{class_of}
use Rattle.pack_layout.specs.Reading.{reader, first_at}
use Rattle.unpack_reading.specs.Arrays.{item_in, operand_in}

-- what a list has at one of its places does not depend on the number given for the others
default : (l : List ℕ) (i a b : ℕ) → i < length l → get_or l i a ≡ get_or l i b
default [] i a b h = absurd (omega arith)
default (x ∷ l) zero a b h = refl
default (x ∷ l) (suc i) a b h = default l i a b (omega arith)

pub in_none : (base : ℕ) (firsts : List ℕ) (a : ℕ) → (difference a base % 4 ≡ 0 → ⊥) → 4096 ≡ item_in base firsts a
in_none base firsts a h = rw (ne_eqb (difference a base % 4) 0 h)

pub in_behind : (base : ℕ) (firsts : List ℕ) (a : ℕ) → length firsts ≤ difference a base / 4 → 4096 ≡ item_in base firsts a
in_behind base firsts a h = go (eqb (difference a base % 4) 0)
  where
    go : (b : Bool) → 4096 ≡ if b (get_or firsts (difference a base / 4) 4096) 4096
    go true = sym (get_or-eq_default firsts 4096 h)
    go false = refl

pub in_cell : (base : ℕ) (firsts : List ℕ) (a d : ℕ) → d ≡ difference a base → d % 4 ≡ 0 → d / 4 < length firsts
    → get_or firsts (d / 4) 0 ≡ item_in base firsts a
in_cell base firsts a d e m h = rw (← e, eq-eqb (d % 4) 0 m) (default firsts (d / 4) 0 4096 h)

-- the operands of the first i items are found, the others as they were
pub record Turned (kinds held firsts : List ℕ) (base : ℕ) (operands : List ℕ) (i : ℕ) : Type 0 where
  pub inside : i ≤ length held
  pub same_length : length operands ≡ length held
  pub found : (j : ℕ) → j < i → get_or operands j 0 ≡ operand_in (class_of (get_or kinds j 0)) base firsts (get_or held j 0)
  pub left : (j : ℕ) → i ≤ j → get_or operands j 0 ≡ get_or held j 0

-- no item begins a cell at an address that is none of theirs
none_at : (img : List ℕ) (base k a : ℕ) → ((j : ℕ) → j < k → base + 4 * (reader img j).at ≡ a → ⊥) → first_at img base k a ≡ 4096
unfolding first_at
none_at img base zero a h = refl
none_at img base (suc k) a h =
    rw (ne_eqb (base + 4 * (reader img k).at) a (h k (omega arith))) (go (reader img k).first (none_at img base k a (λ j b. h j (omega arith))))
  where
    go : (t : Bool) → first_at img base k a ≡ 4096 → if (t && false) k (first_at img base k a) ≡ 4096
    go true e = e
    go false e = e

-- the array gives what is read
pub item_is : (img : List ℕ) (base n : ℕ) (firsts : List ℕ) (a : ℕ) → ((c : ℕ) → c < length firsts → get_or firsts c 0 ≡ first_at img base n (base + 4 * c))
    → ((j : ℕ) → j < n → (reader img j).at < length firsts) → base + 4 * length firsts ≤ 16777216 → a < 2 ^ 32
    → item_in base firsts a ≡ first_at img base n a
unfolding difference
item_is img base n firsts a f inside room below = go (difference a base) refl (ℕ_discrete (difference a base % 4) 0) (dec_lt (difference a base / 4) (length firsts))
  where
    apart : ((c : ℕ) → c < length firsts → base + 4 * c ≡ a → ⊥) → first_at img base n a ≡ 4096
    apart h = none_at img base n a (λ j b. h (reader img j).at (inside j b))

    go : (d : ℕ) → d ≡ difference a base → Dec (difference a base % 4 ≡ 0) → Dec (difference a base / 4 < length firsts) → item_in base firsts a ≡ first_at img base n a
    go d e (no q) w = sym (in_none base firsts a q) ∙ sym (apart (λ c b z. q (omega arith)))
    go d e (yes q) (no w) = sym (in_behind base firsts a (omega arith)) ∙ sym (apart (λ c b z. w (omega arith)))
    go d e (yes q) (yes w) =
        sym (in_cell base firsts a d e (omega arith) (omega arith)) ∙ f (d / 4) (omega arith)
        ∙ ap (first_at img base n) (let z : base + 4 * (d / 4) ≡ a = omega arith in z)
