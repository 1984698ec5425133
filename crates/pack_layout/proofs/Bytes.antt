-- A shift uncovers what was packed, and the immediate rule for any number of bytes.
-- Assumes nothing.
use mathlib.Core.Path.{◌≡◌, refl, ap, ◌∙◌}
use mathlib.Core.Bool.{true, ◌&&◌}
use mathlib.Core.Logic.{◌⊎◌, inl, inr}
use mathlib.Core.List.{List, [], ◌∷◌}
use Prim.Native.Nat.{ℕ, zero, suc, ◌+◌, ◌-◌, ◌/◌, ◌%◌, ◌^◌, ◌≤◌, ◌<◌}
use native.Mathlib.Nat.{sub-add_cancel}
use native.Mathlib.Omega.{arith}
use borrow.Author.Tests.{ltb-true, leb-true, eqb-true, le-leb, lt-leb}
use lib.Dec.{leb, ltb}
use lib.ListN.{length}
use Rattle.cell.specs.Shift.{asr8}
use Rattle.cell.proofs.BooleanLaws.{both_true, either_true}
use Rattle.pack_layout.specs.Bytes.{half, fits, pack, packs, shifts, AllBelow}

-- the low byte of a packed cell
pub pack_low : (b x : ℕ) → b < 256 → pack b x % 256 ≡ b
unfolding pack
pack_low b x h = omega arith

pub pack_below : (b x : ℕ) → b < 256 → pack b x < 2 ^ 32
unfolding pack
pack_below b x h = omega arith

-- fits as a case
abbrev pub Fits : ℕ → ℕ → Type 0
Fits zero x = x ≡ 0
Fits (suc f) x = (x < half f) ⊎ ((2 ^ 32 ≤ x + half f) × (x < 2 ^ 32))

pub fits_case : (f x : ℕ) → fits f x ≡ true → Fits f x
unfolding fits
fits_case zero x e = eqb-true x 0 e
fits_case (suc f) x e = go (either_true (ltb x (half f)) (leb (2 ^ 32) (x + half f) && ltb x (2 ^ 32)) e)
  where
    both : (leb (2 ^ 32) (x + half f) ≡ true) × (ltb x (2 ^ 32) ≡ true) → Fits (suc f) x
    both q = inr (leb-true _ _ q.0, ltb-true _ _ q.1)

    go : (ltb x (half f) ≡ true) ⊎ ((leb (2 ^ 32) (x + half f) && ltb x (2 ^ 32)) ≡ true) → Fits (suc f) x
    go (inl p) = inl (ltb-true _ _ p)
    go (inr p) = both (both_true (leb (2 ^ 32) (x + half f)) (ltb x (2 ^ 32)) p)

asr_low : (y : ℕ) → y < 0x80000000 → asr8 y ≡ y / 256
unfolding asr8
asr_low y h = simp (lt-leb _ _ h) (omega arith)

asr_high : (y : ℕ) → 0x80000000 ≤ y → asr8 y ≡ y / 256 + 0xFF000000
unfolding asr8
asr_high y h = simp (le-leb _ _ h)

asr_pack : (b x : ℕ) → b < 256 → Fits 3 x → asr8 (pack b x) ≡ x
unfolding pack
asr_pack b x h (inl p) = rw (asr_low (pack b x) (omega arith)) (omega arith)
asr_pack b x h (inr p) = rw (asr_high (pack b x) (omega arith)) (omega arith)

pub half_pos : (f : ℕ) → 0 < half f
half_pos zero = omega arith
half_pos (suc f) = omega (arith, half_pos f)

fits_suc : (f x : ℕ) → Fits f x → Fits (suc f) x
fits_suc zero x e = inl (omega arith)
fits_suc (suc f) x (inl p) = inl (omega arith)
fits_suc (suc f) x (inr p) = inr (omega arith)

pub fits_zero : (f : ℕ) → Fits f 0
fits_zero zero = refl
fits_zero (suc f) = inl (half_pos f)

fits_add : (k f x : ℕ) → Fits f x → Fits (k + f) x
fits_add zero f x h = let e : 0 + f ≡ f = omega arith in rw e h
fits_add (suc k) f x h = let e : suc k + f ≡ suc (k + f) = omega arith in rw e (fits_suc (k + f) x (fits_add k f x h))

fits_le : (f g x : ℕ) → f ≤ g → Fits f x → Fits g x
fits_le f g x l h = rw (sub-add_cancel l) at (fits_add (g - f) f x h)

half_le : (f : ℕ) → f < 3 → half f ≤ 2 ^ 23
half_le zero h = omega arith
half_le (suc zero) h = omega arith
half_le (suc (suc zero)) h = omega arith
half_le (suc (suc (suc f))) h = absurd (omega arith)

-- what fits f bytes, under an opcode below 80h, fits one more
pub fits_pack : (f b x : ℕ) → f ≤ 3 → b < 128 → Fits f x → Fits (suc f) (pack b x)
unfolding pack
fits_pack zero b x l h e = inl (omega arith)
fits_pack (suc f) b x l h (inl p) = inl (omega (arith, half_le f l))
fits_pack (suc f) b x l h (inr p) = inr (omega (arith, half_le f l))

-- one shift uncovers a value that fits the bytes above the lowest
pub asr_above : (f b x : ℕ) → f ≤ 3 → b < 256 → Fits f x → asr8 (pack b x) ≡ x
asr_above f b x l h e = asr_pack b x h (fits_le f 3 x l e)

shifts_first : (k y : ℕ) → shifts (suc k) y ≡ shifts k (asr8 y)
shifts_first zero y = refl
shifts_first (suc k) y = ap asr8 (shifts_first k y)

fits_packs : (bs : List ℕ) (f v : ℕ) → length bs + f ≤ 4 → AllBelow 128 bs → Fits f v → Fits (length bs + f) (packs bs v)
fits_packs [] f v l low h = let e : 0 + f ≡ f = omega arith in rw e h
fits_packs (b ∷ bs) f v l low h =
    let e : suc (length bs) + f ≡ suc (length bs + f) = omega arith in
    rw e (fits_pack (length bs + f) b (packs bs v) (omega arith) low.0 (fits_packs bs f v (omega arith) low.1 h))

unpack : (bs : List ℕ) (f v : ℕ) → length bs + f ≤ 4 → AllBelow 128 bs → Fits f v → shifts (length bs) (packs bs v) ≡ v
unpack [] f v l low h = refl
unpack (b ∷ bs) f v l low h =
    shifts_first (length bs) (pack b (packs bs v))
    ∙ ap (shifts (length bs))
    (asr_above (length bs + f) b (packs bs v) (omega arith) (omega (arith, low.0)) (fits_packs bs f v (omega arith) low.1 h))
    ∙ unpack bs f v (omega arith) low.1 h

-- document 01, Four questions, asks for the immediate rule at any f: a value that fits the f bytes above 4 - f opcodes is what A holds after them
pub immediate_rule : (bs : List ℕ) (f v : ℕ) → length bs + f ≡ 4 → AllBelow 128 bs → fits f v ≡ true → shifts (length bs) (packs bs v) ≡ v
immediate_rule bs f v e low h = unpack bs f v (omega arith) low (fits_case f v h)
