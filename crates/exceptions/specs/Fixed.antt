-- What has a fixed place or a fixed number: the machine's own cells, and the reasons of its own stops.
use Rattle.std.specs.Prelude.{ℕ, ◌-◌, ◌^◌}

-- the machine's own reasons
abbrev pub bad_stack : ℕ
bad_stack = 2 ^ 32 - 258

abbrev pub bad_handler : ℕ
bad_handler = 2 ^ 32 - 259

-- the cells at 0h, 4h, 8h and Ch: 'THROW, MEMORY, 'BAD, -ADDRESS
abbrev pub handler_cell : ℕ
handler_cell = 0

abbrev pub memory_cell : ℕ
memory_cell = 4

abbrev pub bad_cell : ℕ
bad_cell = 8

abbrev pub address_cell : ℕ
address_cell = 12
