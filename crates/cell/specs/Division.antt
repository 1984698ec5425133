-- The three divisions. Document 01, The processor: floored for /, MOD and /MOD, symmetric for S/REM, of unsigned numbers for U/MOD. The quotient of
-- -2^31 and -1 wraps to -2^31. The divisor is not 0: the instructions raise -10 before they divide.
use Rattle.std.specs.Prelude.{ℕ, ◌/◌, ◌%◌, Bool, not, ◌&&◌, ◌==◌}
use Rattle.cell.specs.Choice.{if}
use Rattle.cell.specs.Number.{sum, difference, negated, negative, magnitude}
use Rattle.cell.specs.declared.Quotient.{Quotient}

-- n with the sign that s says
abbrev pub signed : Bool → ℕ → ℕ
signed s n = if s (negated n) n

-- the signs of two cells differ
abbrev pub apart : ℕ → ℕ → Bool
apart a b = if (negative a) (not (negative b)) (negative b)

-- U/MOD
abbrev pub unsigned_of : ℕ → ℕ → Quotient
unsigned_of a b = record { quotient = a / b; remainder = a % b }

-- S/REM: the magnitudes are divided; the remainder has the dividend's sign
unfoldable pub symmetric_of : ℕ → ℕ → Quotient
symmetric_of a b =
    record {
      quotient = signed (apart a b) (magnitude a / magnitude b);
      remainder = signed (negative a) (magnitude a % magnitude b);
    }

-- toward minus infinity: one less than toward zero where something remains and the signs differ
abbrev pub lowered : Bool → ℕ → Quotient → Quotient
lowered t b q = if t (record { quotient = difference q.quotient 1; remainder = sum q.remainder b }) q

-- / MOD /MOD
unfoldable pub floored_of : ℕ → ℕ → Quotient
floored_of a b = lowered (not ((symmetric_of a b).remainder == 0) && apart a b) b (symmetric_of a b)
