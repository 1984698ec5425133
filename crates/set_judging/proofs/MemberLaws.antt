-- The modules of a list of numbers, from each number on.
use mathlib.Core.Path.{◌≡◌, refl, ◌∙◌}
use mathlib.Core.List.{List, [], ◌∷◌}
use Prim.Native.Nat.{ℕ, zero, suc, ◌+◌, ◌*◌, ◌/◌, ◌≤◌, ◌<◌}
use native.Mathlib.Numerals.{add-one}
use native.Mathlib.Omega.{arith}
use lib.ListN.{length, drop}
use Rattle.set_judging.specs.declared.Member.{Member}
use Rattle.set_judging.specs.Members.{members_of, member_at}

-- a third as many modules as numbers
pub members_length : (numbers : List ℕ) → length (members_of numbers) ≡ length numbers / 3
members_length [] = refl
members_length (a ∷ []) = refl
members_length (a ∷ place ∷ []) = refl
members_length (a ∷ place ∷ size ∷ rest) = let e = members_length rest in omega (arith, e)

-- module k behind three other numbers is the one before it without them
pub at_next : (a place size : ℕ) (rest : List ℕ) (k : ℕ) → member_at (a ∷ place ∷ size ∷ rest) (suc k) ≡ member_at rest k
at_next a place size rest k =
    let e : 3 * suc k ≡ suc (suc (suc (3 * k))) = omega arith in
    let f : suc (suc (suc (3 * k))) + 1 ≡ suc (suc (suc (3 * k + 1))) = omega arith in
    let g : suc (suc (suc (3 * k))) + 2 ≡ suc (suc (suc (3 * k + 2))) = omega arith in
    rw (e, f, g)

-- from module k on: it, and those after it
from_one : (numbers : List ℕ) (k : ℕ) → 3 * k + 3 ≤ length numbers
    → drop k (members_of numbers) ≡ member_at numbers k ∷ drop (suc k) (members_of numbers)
from_one [] k h = absurd (omega arith)
from_one (a ∷ []) k h = absurd (omega arith)
from_one (a ∷ place ∷ []) k h = absurd (omega arith)
from_one (a ∷ place ∷ size ∷ rest) zero h = refl
from_one (a ∷ place ∷ size ∷ rest) (suc k) h = from_one rest k (omega arith) ∙ rw (at_next a place size rest k)

pub members_from : (numbers : List ℕ) (k : ℕ) → 3 * k + 3 ≤ length numbers
    → drop k (members_of numbers) ≡ member_at numbers k ∷ drop (k + 1) (members_of numbers)
members_from numbers k h = rw (add-one k) (from_one numbers k h)

-- behind the last there is none
pub members_none : (numbers : List ℕ) (k : ℕ) → length numbers < 3 * k + 3 → drop k (members_of numbers) ≡ []
members_none [] zero h = refl
members_none [] (suc k) h = refl
members_none (a ∷ []) zero h = refl
members_none (a ∷ []) (suc k) h = refl
members_none (a ∷ place ∷ []) zero h = refl
members_none (a ∷ place ∷ []) (suc k) h = refl
members_none (a ∷ place ∷ size ∷ rest) zero h = absurd (omega arith)
members_none (a ∷ place ∷ size ∷ rest) (suc k) h = members_none rest k (omega arith)

-- a fact about each module of a list
pub data Each (P : Member → Type 0) : List Member → Type 0 where
  none : Each P []
  more : {x : Member} {xs : List Member} → P x → Each P xs → Each P (x ∷ xs)

pub each_at : (P : Member → Type 0) (numbers : List ℕ) → Each P (members_of numbers) → (k : ℕ) → 3 * k + 3 ≤ length numbers
    → P (member_at numbers k)
each_at P [] s k h = absurd (omega arith)
each_at P (a ∷ []) s k h = absurd (omega arith)
each_at P (a ∷ place ∷ []) s k h = absurd (omega arith)
each_at P (a ∷ place ∷ size ∷ rest) (more p s) zero h = p
each_at P (a ∷ place ∷ size ∷ rest) (more p s) (suc k) h = rw (at_next a place size rest k) (each_at P rest s k (omega arith))
