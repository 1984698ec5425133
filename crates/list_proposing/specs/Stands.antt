-- What a stand of the code stands for: a position of the list machine, once memory is given.
use Rattle.std.specs.Prelude.{Bool, List, ℕ}
use Rattle.machine.specs.declared.Registers.{Registers}
use Rattle.pack_layout.specs.declared.ItemNumber.{ItemNumber}
use Rattle.list_machine.specs.ListMachine as lists
use Rattle.list_proposing.specs.declared.Stand.{Stand}

-- where the machine stands, with the memory m
abbrev pub position_of : List ℕ → Stand → lists.Position
position_of m s = record { item = s.item.0; ran = s.ran; memory = m; sp = s.sp; rp = s.rp }

-- the registers at an address, with the stack pointers of s
abbrev pub registers_for : ℕ → ℕ → Stand → Registers
registers_for ep a s = record { ep = ep; a = a; sp = s.sp; rp = s.rp }

-- in front of an item, with the stack pointers of r
abbrev pub arrived : ItemNumber → Bool → Registers → Stand
arrived item ran r = record { item = item; ran = ran; sp = r.sp; rp = r.rp }
