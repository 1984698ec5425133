-- When a counting loop ends (document 02, (e)). The cells are the places of a circle: there are 2^32, and behind the last comes the first. How far the
-- index stands above the limit, counted upwards, is a number from 0 to 2^32 - 1. (+LOOP) adds its step to it, exactly, and ends where the sum is no such
-- number: there the step has gone over the border between the limit and the place below it.
use Rattle.std.specs.Prelude.{◌≡◌, Bool, true, false, ◌||◌, ℕ, zero, suc, ◌-◌, ◌*◌, ◌^◌, ◌<◌, ◌≤◌, eqb, ℤ, pos, ◌+ℤ◌, ◌-ℤ◌}
use Rattle.std.specs.Int.Signed.{lt_z, le_z}
use Rattle.cell.specs.Choice.{if}
use Rattle.cell.specs.Number.{sum, difference, negated, negative}

-- a cell as a signed number
abbrev pub signed : ℕ → ℤ
signed n = if (negative n) (pos n -ℤ pos (2 ^ 32)) (pos n)

-- no distance on the circle: below 0, or 2^32 and more
abbrev pub off_circle : ℤ → Bool
off_circle z = lt_z z (pos 0) || le_z (pos (2 ^ 32)) z

-- (+LOOP) by n ends
unfoldable pub plus_ends : ℕ → ℕ → ℕ → Bool
plus_ends index limit n = off_circle (pos (difference index limit) +ℤ signed n)

-- (LOOP) ends
abbrev pub loop_ends : ℕ → ℕ → Bool
loop_ends index limit = eqb (sum index 1) limit

-- the document's two cases, from 7FFFFFFFh by 1; and down by 4 to the limit
abbrev pub Cases : Type 0
Cases =
    (plus_ends 0x7FFFFFFF 0x80000000 1 ≡ true) × (plus_ends 0x7FFFFFFF 0 1 ≡ false) × (plus_ends 0x80000004 0x80000000 (2 ^ 32 - 4) ≡ false)

-- (LOOP) ends exactly where (+LOOP) by 1 does
abbrev pub LoopIsByOne : Type 0
LoopIsByOne = (index limit : ℕ) → index < 2 ^ 32 → limit < 2 ^ 32 → plus_ends index limit 1 ≡ loop_ends index limit

-- a step of 0 never ends a loop
abbrev pub ByZeroGoesOn : Type 0
ByZeroGoesOn = (index limit : ℕ) → plus_ends index limit 0 ≡ false

-- the index after j steps by n
unfoldable pub index_after : ℕ → ℕ → ℕ → ℕ
index_after index n zero = index
index_after index n (suc j) = sum (index_after index n j) n

-- counting up by n, where the limit is k steps away: of these steps the last, which reaches the limit, ends the loop, and no other
abbrev pub CountsUp : Type 0
CountsUp =
    (index limit n k j : ℕ) → index < 2 ^ 32 → limit < 2 ^ 32 → 0 < n → n < 2 ^ 31 → difference limit index ≡ k * n → j < k
    → plus_ends (index_after index n j) limit n ≡ eqb (suc j) k

-- counting down by n, where the limit is k steps away: these steps go on, the last of them to the limit, and the next one, below it, ends the loop
abbrev pub CountsDown : Type 0
CountsDown =
    (index limit n k j : ℕ) → index < 2 ^ 32 → limit < 2 ^ 32 → 0 < n → n ≤ 2 ^ 31 → difference index limit ≡ k * n → j ≤ k
    → plus_ends (index_after index (negated n) j) limit (negated n) ≡ eqb j k
