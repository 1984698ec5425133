-- The commit of an effect. Document 01, The processor: all places that an effect writes are judged before any is written, and the
-- first bad one in that order is the fault; an instruction with a fault has changed neither memory nor SP, RP and EP.
use Rattle.std.specs.Prelude.{List, [], ◌∷◌, Bool, false, ◌&&◌, ◌||◌, ℕ, ◌+◌, ltb, length, set, Result, Ok, Err}
use Rattle.cell.specs.Memory.{store_cell}
use Rattle.cell.specs.declared.Fault.{Fault}
use Rattle.cell.specs.Place.{Checked, good}
use Rattle.machine.specs.Places.{Width, one_byte, one_cell, place_of}
use Rattle.machine.specs.Effects.{Store, Control, go_on, jump, halt, throwing, Action, Effect, act, raise}
use Rattle.machine.specs.declared.Machine.{Machine}
use Rattle.machine.specs.declared.Registers.{Registers}
use Rattle.machine.specs.declared.Then.{Then}
use Rattle.machine.specs.declared.Then.TheVariants as then
use Rattle.machine.specs.declared.Step.{Step}
use Rattle.machine.specs.declared.Outcome.{Outcome}
use Rattle.machine.specs.declared.Outcome.TheVariants.{Went, Next, Raise, Halt, Throw}

-- the first bad place among those to be written
abbrev pub first_bad : Checked → Checked → Checked
first_bad (Ok _) next = next
first_bad (Err f) next = Err f

unfoldable pub places_of : Machine → ℕ → List Store → Checked
places_of machine len [] = good
places_of machine len (s ∷ ss) = first_bad (place_of machine s.width s.access len s.at) (places_of machine len ss)

-- one store made
abbrev pub put_store : Machine → List ℕ → Width → ℕ → ℕ → List ℕ
put_store machine m one_byte a x = set m a x
put_store machine m one_cell a x = store_cell machine.order m a x

-- the stores made, in order
unfoldable pub stored_of : Machine → List ℕ → List Store → List ℕ
stored_of machine m [] = m
stored_of machine m (s ∷ ss) = stored_of machine (put_store machine m s.width s.at s.value) ss

-- memory, and the step that the instruction made
pub record Stepped : Type 0 where
  pub memory : List ℕ
  pub step : Step

abbrev pub stepped : List ℕ → Step → Stepped
stepped m s = record { memory = m; step = s }

-- what follows, in the registers
abbrev pub controlled : Control → Registers → Step
controlled go_on r = record { registers = r; outcome = Went }
controlled (jump a) r = record { registers = record { ep = a; a = r.a; sp = r.sp; rp = r.rp }; outcome = Next }
controlled (halt x) r = record { registers = r; outcome = Halt x }
controlled throwing r = record { registers = r; outcome = Throw }

-- what a commit answers, as a step: a fault is raised, with the registers as they were
abbrev pub step_of : Registers → Result Step Fault → Step
step_of r (Ok s) = s
step_of r (Err f) = record { registers = r; outcome = Raise f }

abbrev pub raised : List ℕ → Registers → Fault → Stepped
raised m r f = record { memory = m; step = record { registers = r; outcome = Raise f } }

-- an action whose places were judged
abbrev pub carried_out : Machine → List ℕ → Registers → Action → Checked → Stepped
carried_out machine m r x (Err f) = raised m r f
carried_out machine m r x (Ok _) =
    record {
      memory = stored_of machine m x.stores;
      step = controlled x.control (record { ep = r.ep; a = r.a; sp = x.sp; rp = x.rp });
    }

-- what the code's value says of what follows
abbrev pub outcome_of : Then → Outcome
outcome_of then.GoOn = Went
outcome_of (then.Jump a) = Next
outcome_of (then.Halt x) = Halt x
outcome_of then.Throw = Throw

abbrev pub ep_of : Then → ℕ → ℕ
ep_of then.GoOn ep = ep
ep_of (then.Jump a) ep = a.0
ep_of (then.Halt x) ep = ep
ep_of then.Throw ep = ep

abbrev pub settled_of : ℕ → ℕ → ℕ → ℕ → Then → Step
settled_of ep a sp rp then =
    record { registers = record { ep = ep_of then ep; a = a; sp = sp; rp = rp }; outcome = outcome_of then }

unfoldable pub commit_of : Machine → List ℕ → Registers → Effect → Stepped
commit_of machine m r (raise f) = raised m r f
commit_of machine m r (act x) = carried_out machine m r x (places_of machine (length m) x.stores)

-- the bytes that a store writes
abbrev pub width_of : Width → ℕ
width_of one_byte = 1
width_of one_cell = 4

-- whether stores write a byte from lo up to, and without, hi
unfoldable pub touches : ℕ → ℕ → List Store → Bool
touches lo hi [] = false
touches lo hi (s ∷ ss) = (ltb s.at hi && ltb lo (s.at + width_of s.width)) || touches lo hi ss
