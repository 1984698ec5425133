-- Cells as numbers. Document 01, The processor: a cell has 32 bits; arithmetic and steps of addresses wrap around at 2^32; true is FFFFFFFFh
-- and false 0. A negative number n stands as 2^32 + n.
use Rattle.std.specs.Prelude.{ℕ, ◌+◌, ◌-◌, ◌*◌, ◌/◌, ◌%◌, ◌^◌, Bool, ◌==◌, bit_xor, nat_le, nat_lt}
use Rattle.cell.specs.Choice.{if}

-- a + b, a - b, a * b, modulo 2^32
unfoldable pub sum : ℕ → ℕ → ℕ
sum a b = (a + b) % 2 ^ 32

unfoldable pub difference : ℕ → ℕ → ℕ
difference a b = (a + (2 ^ 32 - b)) % 2 ^ 32

unfoldable pub product : ℕ → ℕ → ℕ
product a b = a * b % 2 ^ 32

unfoldable pub negated : ℕ → ℕ
negated a = (2 ^ 32 - a) % 2 ^ 32

-- a cell taken as a signed number is below 0
abbrev pub negative : ℕ → Bool
negative a = nat_le 0x80000000 a

-- a < b as signed numbers: the order of the cells with 2^31 added
unfoldable pub less : ℕ → ℕ → Bool
less a b = nat_lt ((a + 0x80000000) % 2 ^ 32) ((b + 0x80000000) % 2 ^ 32)

-- the distance from 0 of a cell taken as a signed number
abbrev pub magnitude : ℕ → ℕ
magnitude a = if (negative a) (negated a) a

abbrev pub greater : ℕ → ℕ → ℕ
greater a b = if (less a b) b a

abbrev pub lesser : ℕ → ℕ → ℕ
lesser a b = if (less b a) b a

abbrev pub flag : Bool → ℕ
flag t = if t 0xFFFFFFFF 0

abbrev pub inverted : ℕ → ℕ
inverted a = 0xFFFFFFFF - a

-- shifts by u bits, taken as unsigned: 0 from 32 on
unfoldable pub shifted_left : ℕ → ℕ → ℕ
shifted_left a u = if (nat_lt u 32) (a * 2 ^ u % 2 ^ 32) 0

unfoldable pub shifted_right : ℕ → ℕ → ℕ
shifted_right a u = if (nat_lt u 32) (a / 2 ^ u) 0

-- 2/: one bit to the right, the sign kept
unfoldable pub halved : ℕ → ℕ
halved a = a / 2 + if (negative a) 0x80000000 0

-- C@ and C! in order 1 reach the byte at the other end of its cell: bits 0 and 1 of the address are inverted
abbrev pub byte_address : ℕ → ℕ → ℕ
byte_address order a = if (order == 0) a (bit_xor 3 a)
