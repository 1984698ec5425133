-- The shift of A from one opcode to the next. Document 01, The processor, on cycles.
use Rattle.std.specs.Prelude.{ℕ, ◌+◌, ◌/◌, nat_le}
use Rattle.cell.specs.Choice.{if}

-- a cell, shifted right by one byte; a cell of 80000000h or more is negative and takes in ones
unfoldable pub asr8 : ℕ → ℕ
asr8 x = x / 256 + if (nat_le 0x80000000 x) 0xFF000000 0
