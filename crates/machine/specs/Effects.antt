-- What an instruction asks for, before anything is written. Document 01, The processor: an instruction reads its operands, and
-- then has the places that it writes judged; whichever fails first is its fault.
use Rattle.std.specs.Prelude.{List, [], ◌∷◌, ℕ, zero, suc, ◌+◌, ◌*◌, Option, Some, None, Result, Ok, Err}
use Prim.{Unit}
use Rattle.cell.specs.Memory.{cell_at, byte0}
use Rattle.cell.specs.declared.Fault.{Fault}
use Rattle.cell.specs.Place.{Fetched}
use Rattle.machine.specs.Places.{Width, one_byte, one_cell, access_to}
use Rattle.machine.specs.declared.Access.{Access}
use Rattle.machine.specs.declared.Access.TheVariants.{DataWrite, ReturnWrite, NamedWrite}
use Rattle.machine.specs.declared.Write.{Write}
use Rattle.machine.specs.declared.Then.{Then}
use Rattle.machine.specs.declared.Then.TheVariants.{GoOn, Jump, Halt, Throw}
use Rattle.machine.specs.declared.Request.{Request}
use Rattle.machine.specs.declared.CellStore.{CellStore}
use Rattle.machine.specs.declared.TwoStores.{TwoStores}
use Rattle.machine.specs.declared.TwoReturns.{TwoReturns}
use Rattle.machine.specs.declared.ThreeStores.{ThreeStores}
use Rattle.machine.specs.declared.ByteStore.{ByteStore}
use Rattle.machine.specs.declared.RollStores.{RollStores}

-- one place to be written, and the value
pub record Store : Type 0 where
  pub width : Width
  pub access : Access
  pub at : ℕ
  pub value : ℕ

-- what follows the writes: the next instruction, a jump to an address (then NEXT), a stop with a reason, or the throw of THROW
pub data Control : Type 0 where
  go_on : Control
  jump : ℕ → Control
  halt : ℕ → Control
  throwing : Control

-- the new stack pointers, the stores in order, and what follows
pub record Action : Type 0 where
  pub sp : ℕ
  pub rp : ℕ
  pub stores : List Store
  pub control : Control

-- an action, or the fault that the instruction raises
pub data Effect : Type 0 where
  act : Action → Effect
  raise : Fault → Effect

-- a fetched cell is handed on; a fault is raised, and nothing after it is looked at
abbrev pub fetched : Fetched → (ℕ → Effect) → Effect
fetched (Ok x) k = k x
fetched (Err f) k = raise f

-- a cell written
abbrev pub cell_store : Access → ℕ → ℕ → Store
cell_store access a x = record { width = one_cell; access = access; at = a; value = x }

-- ROLL's stores, deepest first: the item below each goes into its cell, and `last` into the top one
unfoldable pub roll_stores : ℕ → List ℕ → ℕ → ℕ → ℕ → List Store
roll_stores order m top last zero = cell_store DataWrite top last ∷ []
roll_stores order m top last (suc u) =
    cell_store DataWrite (top + 4 * suc u) (cell_at order m (top + 4 * u)) ∷ roll_stores order m top last u

-- ROLL by 0 moves nothing
abbrev pub rolled : ℕ → List ℕ → ℕ → ℕ → List Store
rolled order m top zero = []
rolled order m top (suc u) = roll_stores order m top (cell_at order m (top + 4 * suc u)) (suc u)

abbrev pub control_of : Then → Control
control_of GoOn = go_on
control_of (Jump a) = jump a.0
control_of (Halt x) = halt x
control_of Throw = throwing

abbrev pub effect_of : ℕ → ℕ → List Store → Then → Effect
effect_of sp rp stores then = act (record { sp = sp; rp = rp; stores = stores; control = control_of then })

-- the effect that a request of the code stands for, by what its stores stand for
abbrev pub requested : {S : Type 0} → (S → List Store) → Request S → Effect
requested listed q = effect_of q.sp q.rp (listed q.stores) q.then

-- what the code of an instruction answers: a request, or the fault of its reading
abbrev pub asked : {S : Type 0} → (S → List Store) → Result (Request S) Fault → Effect
asked listed (Ok q) = requested listed q
asked listed (Err f) = raise f

abbrev pub store_of : Access → Write → Store
store_of access w = cell_store access w.at.0 w.value

abbrev pub no_store : Unit {0} → List Store
no_store s = []

abbrev pub one_store : CellStore → List Store
one_store s = store_of (access_to s.target) s.write ∷ []

abbrev pub maybe_store : Option CellStore → List Store
maybe_store (Some s) = one_store s
maybe_store None = []

abbrev pub two_stores : TwoStores → List Store
two_stores s = store_of DataWrite s.first ∷ store_of DataWrite s.second ∷ []

abbrev pub two_returns : TwoReturns → List Store
two_returns s = store_of ReturnWrite s.first ∷ store_of ReturnWrite s.second ∷ []

abbrev pub three_stores : ThreeStores → List Store
three_stores s = store_of DataWrite s.first ∷ store_of DataWrite s.second ∷ store_of DataWrite s.third ∷ []

abbrev pub byte_store : ByteStore → List Store
byte_store s = record { width = one_byte; access = NamedWrite; at = s.at.0; value = byte0 s.value } ∷ []

-- ROLL's values are those of the memory m, before its stores
abbrev pub rolled_stores : ℕ → List ℕ → RollStores → List Store
rolled_stores order m s = rolled order m s.top.0 s.depth.0
