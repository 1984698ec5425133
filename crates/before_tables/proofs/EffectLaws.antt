-- What a machine and a machine of before find and ask for, over what was told of a fault: judgements, fetches and effects are the same, but for the names of faults
-- for which the same is thrown.
use Rattle.std.specs.Prelude.{Ok, Err}
use mathlib.Core.Path.{◌≡◌}
use mathlib.Core.Bool.{Bool, true, false, ◌&&◌}
use mathlib.Core.List.{List, [], ◌∷◌}
use Prim.Native.Nat.{ℕ}
use Rattle.cell.specs.Choice.{if}
use Rattle.cell.specs.Place.{read, Checked, Fetched}
use Rattle.cell.specs.declared.Address.{Address}
use Rattle.cell.specs.declared.Fault.{Fault}
use Rattle.cell.specs.declared.Fault.TheVariants.{Range, Alignment, Divisor, Illegal, Library}
use Rattle.machine.specs.Places.{Width, one_byte, one_cell, fetch_of, fetch_byte_of}
use Rattle.exceptions.specs.Exceptions.{exception_of}
use Rattle.machine.specs.Effects.{Store, Action, Effect, act, raise, fetched}
use Rattle.machine.specs.Commits.{first_bad}
use Rattle.machine.specs.declared.Machine.{Machine}
use Rattle.machine.specs.declared.Access.{Access}
use Rattle.machine.specs.declared.Access.TheVariants.{DataRead, DataWrite, ReturnRead, ReturnWrite, NamedRead, NamedWrite, Stream, Push}
use Rattle.machine.specs.declared.Exception.{Exception}
use Rattle.before_tables.specs.Places.{Reading}

-- a fault of the machine, and a fault of before: the same is thrown for both
abbrev pub Told : Machine → (Fault → Exception) → Fault → Fault → Type 0
Told machine before f g = exception_of machine f ≡ before g

-- two judgements of a place
pub data Judges (machine : Machine) (before : Fault → Exception) : Checked → Checked → Type 0 where
  good : Judges machine before (Ok tt) (Ok tt)
  bad : {f g : Fault} → Told machine before f g → Judges machine before (Err f) (Err g)

-- two fetches
pub data Fetches (machine : Machine) (before : Fault → Exception) : Fetched → Fetched → Type 0 where
  cell : {x : ℕ} → Fetches machine before (Ok x) (Ok x)
  fails : {f g : Fault} → Told machine before f g → Fetches machine before (Err f) (Err g)

-- a byte is named by an operand, for no stack is made of bytes
abbrev pub named : Width → Access → Bool
named one_cell access = true
named one_byte DataRead = false
named one_byte DataWrite = false
named one_byte ReturnRead = false
named one_byte ReturnWrite = false
named one_byte NamedRead = true
named one_byte NamedWrite = true
named one_byte Stream = false
named one_byte Push = false

unfoldable pub all_named : List Store → Bool
all_named [] = true
all_named (s ∷ ss) = named s.width s.access && all_named ss

-- two effects: one action, or faults for which the same is thrown
pub data Asks (machine : Machine) (before : Fault → Exception) : Effect → Effect → Type 0 where
  acts : {x : Action} → all_named x.stores ≡ true → Asks machine before (act x) (act x)
  raises : {f g : Fault} → Told machine before f g → Asks machine before (raise f) (raise g)

-- a memory that a reading of before reads as the machine does, and whose faults are told alike
pub record Alike (machine : Machine) (before : Fault → Exception) (m : List ℕ) (reads : Reading) : Type 0 where
  pub cells : (access : Access) (a : ℕ) → Fetches machine before (fetch_of machine access m a) (reads.cell access a)
  pub bytes : (a : ℕ) → Fetches machine before (fetch_byte_of machine NamedRead m a) (reads.byte a)
  pub range : (a : Address) → Told machine before (Range a) (Range a)
  pub unaligned : (a : Address) → Told machine before (Alignment a) (Alignment a)
  pub divisor : Told machine before Divisor Divisor
  pub illegal : Told machine before Illegal Illegal
  pub library : Told machine before Library Library

module _ {machine : Machine} {before : Fault → Exception} where
  pub reads : {c d : Checked} (x : ℕ) → Judges machine before c d → Fetches machine before (read c x) (read d x)
  reads x good = cell
  reads x (bad t) = fails t

  pub firsts : {c d e f : Checked} → Judges machine before c d → Judges machine before e f
      → Judges machine before (first_bad c e) (first_bad d f)
  firsts good q = q
  firsts (bad t) q = bad t

  pub either : (t : Bool) {d e f g : Effect} → Asks machine before d e → Asks machine before f g
      → Asks machine before (if t d f) (if t e g)
  either true p q = p
  either false p q = q

  pub binds : {g h : Fetched} {j k : ℕ → Effect} → Fetches machine before g h → ((x : ℕ) → Asks machine before (j x) (k x))
      → Asks machine before (fetched g j) (fetched h k)
  binds (cell {x}) f = f x
  binds (fails t) f = raises t
