-- Stack writes stay in their areas. Document 02, (a): what the data stack writes lies in the data area, what the return stack writes in the return area, and what a
-- throw pushes in the data area or the held cell. So a byte off all three, that no instruction names and that is not one of 0h to Fh, where a throw leaves
-- its address and its EP, is never changed.
use Rattle.cell.specs.Refusals.{passed}
use Rattle.cell.specs.Place.{good}
use Rattle.std.specs.Prelude.{◌≡◌, Bool, true, false, ◌&&◌, List, [], ◌∷◌, ℕ, ◌+◌, ◌-◌, ◌%◌, ◌≤◌, ◌<◌, ltb, leb, length, get_or}
use Prim.{Unit}
use Rattle.cell.specs.Choice.{if}
use Rattle.machine.specs.Places.{Width, one_byte, one_cell, place_of}
use Rattle.machine.specs.Effects.{Store, Effect, act, raise}
use Rattle.machine.specs.Commits.{touches}
use Rattle.throws.specs.Throws.{CycleState}
use Rattle.machine.specs.declared.Table.{Table}
use Rattle.machine.specs.declared.Machine.{Machine}
use Rattle.machine.specs.declared.Registers.{Registers}
use Rattle.machine.specs.declared.Access.{Access}
use Rattle.machine.specs.declared.Access.TheVariants.{DataRead, DataWrite, ReturnRead, ReturnWrite, NamedRead, NamedWrite, Stream, Push}
use Rattle.instruction.specs.Plain.{plain_at}
use Rattle.instruction.specs.Taking.{taking_at}
use Rattle.instruction.specs.Dispatch.{OperandClass, next, plain, taking, operand_class, decode_of}
use Rattle.instruction.specs.declared.Instruction.{Instruction}
use Rattle.cycles.specs.Cycles.{shifted, cycle_of, cycles_of}
use Rattle.cycles.specs.Counts.{begun}
use Rattle.areas.specs.Areas.{held_under_data, held_under_return, bytes_with, none}
use Rattle.bounds.specs.Bounds.{judge_bounded, machine_of}
use Rattle.areas.specs.declared.Area.{Area}
use Rattle.areas.specs.declared.Areas.{Areas}

-- areas that were taken, and a table with them, for a memory's length and a byte order
pub record Given (len order : ℕ) (areas : Areas) (table : Table) : Type 0 where
  pub passed : judge_bounded len order areas table ≡ passed
  pub some : none areas ≡ false

-- a cell of an area, with the cells held under it
pub record CellOf (held : ℕ) (area : Area) (a : ℕ) : Type 0 where
  pub from : area.top.0 ≤ a + bytes_with held area
  pub up : a + 4 ≤ area.top.0

-- where a store lies by its access: the data stack's in the data area, the return stack's in the return area, a push in the data area or the held cell
abbrev pub CellFor : Areas → Access → ℕ → Type 0
CellFor areas DataRead a = CellOf held_under_data areas.stack a
CellFor areas DataWrite a = CellOf 0 areas.stack a
CellFor areas ReturnRead a = CellOf held_under_return areas.returns a
CellFor areas ReturnWrite a = CellOf held_under_return areas.returns a
CellFor areas NamedRead a = Unit {0}
CellFor areas NamedWrite a = Unit {0}
CellFor areas Stream a = Unit {0}
CellFor areas Push a = CellOf held_under_data areas.stack a

-- a place that is found good lies there
abbrev pub PlacesStay : Type 0
PlacesStay =
    (len order : ℕ) (areas : Areas) (table : Table) → Given len order areas table → (access : Access) (a : ℕ)
    → place_of (machine_of order areas table len) one_cell access len a ≡ good
    → CellFor areas access a

-- stores at a place that an operand names: those of !, +! and C!
abbrev pub is_named : Width → Access → Bool
is_named one_byte access = true
is_named one_cell DataRead = false
is_named one_cell DataWrite = false
is_named one_cell ReturnRead = false
is_named one_cell ReturnWrite = false
is_named one_cell NamedRead = true
is_named one_cell NamedWrite = true
is_named one_cell Stream = true
is_named one_cell Push = false

unfoldable pub named : List Store → List Store
named [] = []
named (s ∷ ss) = if (is_named s.width s.access) (s ∷ named ss) (named ss)

-- the stores that the instruction of a cycle asks for
abbrev pub stores_of : Effect → List Store
stores_of (act x) = x.stores
stores_of (raise f) = []

abbrev pub stores_by : Machine → List ℕ → Registers → Instruction → OperandClass → List Store
stores_by machine m r i next = []
stores_by machine m r i plain = stores_of (plain_at machine i m r)
stores_by machine m r i (taking form t) = stores_of (taking_at machine form t m r)

abbrev pub stores_in : Machine → List ℕ → Registers → List Store
stores_in machine m r = let i = decode_of (r.a % 256) in stores_by machine m (shifted r) i (operand_class i)

-- a cycle whose instruction names the byte at a
abbrev pub names : Machine → List ℕ → Registers → ℕ → Bool
names machine m r a = touches a (a + 1) (named (stores_in machine m r))

-- a byte of an area, with the cells held under it
abbrev pub in_area : ℕ → Area → ℕ → Bool
in_area held area a = leb (area.top.0 - bytes_with held area) a && ltb a area.top.0

-- a byte off data area, held cell and return area, and not of 0h to Fh
pub record Off (areas : Areas) (a : ℕ) : Type 0 where
  pub data_area : in_area held_under_data areas.stack a ≡ false
  pub return_area : in_area held_under_return areas.returns a ≡ false
  pub above : 0x10 ≤ a

-- a cycle, thrown or not
abbrev pub StackWritesStay : Type 0
StackWritesStay =
    (order : ℕ) (areas : Areas) (table : Table) (m : List ℕ) (r : Registers) (a : ℕ)
    → Given (length m) order areas table
    → Off areas a
    → names (machine_of order areas table (length m)) m r a ≡ false
    → get_or (cycle_of (machine_of order areas table (length m)) m r).memory a 0 ≡ get_or m a 0

-- the state after k cycles
abbrev pub after : Machine → List ℕ → Registers → ℕ → CycleState
after machine m r k = cycles_of machine k (begun m r)

-- n cycles
abbrev pub RunWritesStay : Type 0
RunWritesStay =
    (order : ℕ) (areas : Areas) (table : Table) (m : List ℕ) (r : Registers) (a n : ℕ)
    → Given (length m) order areas table
    → Off areas a
    → ((k : ℕ) → k < n
    → names (machine_of order areas table (length m)) (after (machine_of order areas table (length m)) m r k).memory
    (after (machine_of order areas table (length m)) m r k).result.registers a ≡ false)
    → get_or (after (machine_of order areas table (length m)) m r n).memory a 0 ≡ get_or m a 0
