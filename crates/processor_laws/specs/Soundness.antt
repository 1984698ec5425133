-- A sound machine: its memory is made of bytes and its registers are cells. And the effects that keep it so.
use Rattle.cell.specs.Place.{Fetched}
use Rattle.std.specs.Prelude.{List, [], ◌∷◌, ℕ, ◌<◌, ◌^◌, Ok, Err}
use Prim.{Unit}
use Rattle.cell.specs.Memory.{Bytewise}
use Rattle.cell.specs.declared.Fault.{Fault}
use Rattle.machine.specs.Places.{Width, one_byte, one_cell}
use Rattle.machine.specs.Effects.{Store, Control, go_on, jump, halt, throwing, Action, Effect, act, raise}
use Rattle.machine.specs.Commits.{Stepped}
use Rattle.throws.specs.Throws.{CycleState}
use Rattle.machine.specs.declared.Registers.{Registers}

-- every byte of memory is below 256, every register below 2^32
pub record Sound (m : List ℕ) (r : Registers) : Type 0 where
  pub bytes : Bytewise m
  pub ep : r.ep < 2 ^ 32
  pub a : r.a < 2 ^ 32
  pub sp : r.sp < 2 ^ 32
  pub rp : r.rp < 2 ^ 32

-- after an instruction, and after a cycle
abbrev pub SoundStepped : Stepped → Type 0
SoundStepped s = Sound s.memory s.step.registers

abbrev pub SoundState : CycleState → Type 0
SoundState t = Sound t.memory t.result.registers

-- a fetch that answers with a cell, if it does not fail
abbrev pub Below : Fetched → Type 0
Below (Ok x) = x < 2 ^ 32
Below (Err f) = Unit

-- a value that its place can hold; of a cell's value the four bytes are stored, whatever it is
abbrev pub FitsWidth : Width → ℕ → Type 0
FitsWidth one_byte x = x < 256
FitsWidth one_cell x = Unit

abbrev pub AllHold : List Store → Type 0
AllHold [] = Unit
AllHold (s ∷ ss) = FitsWidth s.width s.value × AllHold ss

-- a jump leads to a cell's value
abbrev pub Leads : Control → Type 0
Leads go_on = Unit
Leads (jump a) = a < 2 ^ 32
Leads (halt x) = Unit
Leads throwing = Unit

pub record Limited (x : Action) : Type 0 where
  pub sp : x.sp < 2 ^ 32
  pub rp : x.rp < 2 ^ 32
  pub stores : AllHold x.stores
  pub control : Leads x.control

-- an effect that keeps a sound machine sound
pub data Bounded : Effect → Type 0 where
  acts : {x : Action} → Limited x → Bounded (act x)
  raises : {f : Fault} → Bounded (raise f)
