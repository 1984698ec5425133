-- Values in a few signed bytes, and the bytes of a cell as A uncovers them.
use Rattle.std.specs.Prelude.{Bool, ◌&&◌, ◌||◌, List, [], ◌∷◌, ℕ, zero, suc, ◌+◌, ◌*◌, ◌%◌, ◌^◌, ◌<◌, leb, ltb, eqb}
use Rattle.cell.specs.Shift.{asr8}

-- half of what f + 1 bytes tell apart
abbrev pub half : ℕ → ℕ
half zero = 128
half (suc f) = 256 * half f

-- the cell x, as a signed number, fits f signed bytes, for any f: it is at least -half and below half. No byte holds 0 only.
unfoldable pub fits : ℕ → ℕ → Bool
fits zero x = eqb x 0
fits (suc f) x = ltb x (half f) || (leb (2 ^ 32) (x + half f) && ltb x (2 ^ 32))

-- a cell with the byte b lowest and, above it, the low three bytes of x
unfoldable pub pack : ℕ → ℕ → ℕ
pack b x = b + 256 * (x % 2 ^ 24)

-- a cell of the bytes bs, the first lowest, below as many low bytes of v as there is room for
abbrev pub packs : List ℕ → ℕ → ℕ
packs [] v = v
packs (b ∷ bs) v = pack b (packs bs v)

-- A after k cycles
abbrev pub shifts : ℕ → ℕ → ℕ
shifts zero y = y
shifts (suc k) y = asr8 (shifts k y)

abbrev pub AllBelow : ℕ → List ℕ → Type 0
AllBelow m [] = Unit {0}
AllBelow m (b ∷ bs) = (b < m) × AllBelow m bs
