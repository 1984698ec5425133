-- A sound machine stays sound: through stores, a commit, a throw, a NEXT and a stop.
use Rattle.std.specs.Prelude.{Ok, Err}
use Rattle.cell.specs.Place.{Checked, Fetched}
use mathlib.Core.Bool.{Bool, true, false}
use mathlib.Core.List.{List, [], ◌∷◌}
use Prim.Native.Nat.{ℕ, ◌%◌, ◌^◌, ◌<◌}
use lib.Dec.{eqb}
use lib.ListN.{length}
use Rattle.cell.specs.Choice.{if}
use Rattle.cell.specs.Memory.{Bytewise, store_cell, cell_at}
use Rattle.cell.specs.Number.{difference}
use Rattle.cell.proofs.MemoryLaws.{set_bytewise, store_bytewise}
use Rattle.machine.specs.declared.Exception.{Exception}
use Rattle.machine.specs.declared.Exception.TheVariants.{Range, Alignment, DataOverflow, DataUnderflow, ReturnOverflow, ReturnUnderflow, ReadOnly, Divisor, Illegal, Library}
use Rattle.exceptions.specs.Exceptions.{exception_of, exception_code}
use Rattle.machine.specs.Places.{Width, one_byte, one_cell, place_of, fetch_of}
use Rattle.machine.specs.Effects.{Store, Control, go_on, jump, halt, throwing, Action, Effect, act, raise}
use Rattle.machine.specs.Commits.{Stepped, put_store, stored_of, places_of, controlled, carried_out, commit_of}
use Rattle.exceptions.specs.Fixed.{handler_cell, bad_cell, address_cell, bad_stack}
use Rattle.throws.specs.Throws.{cycle_state, handed, handler_of, noted, pushed, throw_of, throwing_of, nexted, next_of, finished, finish_of}
use Rattle.machine.specs.declared.Machine.{Machine}
use Rattle.machine.specs.declared.Registers.{Registers}
use Rattle.machine.specs.declared.Access.TheVariants.{Stream, Push}
use Rattle.machine.specs.declared.Outcome.{Outcome}
use Rattle.machine.specs.declared.Outcome.TheVariants as outcome
use Rattle.machine.specs.declared.Ended.{Ended}
use Rattle.machine.specs.declared.Ended.TheVariants.{Went, Stopped}
use Rattle.processor_laws.specs.Soundness.{Sound, SoundStepped, SoundState, Below, FitsWidth, AllHold, Leads, Limited, Bounded, acts}
use Rattle.processor_laws.proofs.NumberBounds.{sum_below, difference_below}
use Rattle.processor_laws.proofs.EffectBounds.{fetch_below}

-- another memory of bytes, the same registers
remembers : {m m2 : List ℕ} {r : Registers} → Bytewise m2 → Sound m r → Sound m2 r
remembers b s = record { bytes = b; ep = s.ep; a = s.a; sp = s.sp; rp = s.rp }

controlled_sound : (c : Control) (m : List ℕ) (r : Registers) → Leads c → Sound m r → Sound m (controlled c r).registers
controlled_sound go_on m r h s = s
controlled_sound (jump a) m r h s = record { bytes = s.bytes; ep = h; a = s.a; sp = s.sp; rp = s.rp }
controlled_sound (halt x) m r h s = s
controlled_sound throwing m r h s = s

module _ (machine : Machine) where
  put_bytewise : (m : List ℕ) (w : Width) (a x : ℕ) → FitsWidth w x → Bytewise m → Bytewise (put_store machine m w a x)
  put_bytewise m one_byte a x h b = set_bytewise m a x b h
  put_bytewise m one_cell a x h b = store_bytewise machine.order m a x b

  pub stored_bytewise : (m : List ℕ) (ss : List Store) → AllHold ss → Bytewise m → Bytewise (stored_of machine m ss)
  unfolding stored_of
  stored_bytewise m [] h b = b
  stored_bytewise m (s ∷ ss) h b = stored_bytewise (put_store machine m s.width s.at s.value) ss h.1 (put_bytewise m s.width s.at s.value h.0 b)

  carried_sound : (m : List ℕ) (r : Registers) (x : Action) (c : Checked) → Limited x → Sound m r
      → SoundStepped (carried_out machine m r x c)
  carried_sound m r x (Err f) l s = s
  carried_sound m r x (Ok _) l s =
      controlled_sound x.control (stored_of machine m x.stores) (record { ep = r.ep; a = r.a; sp = x.sp; rp = x.rp }) l.control
      (record { bytes = stored_bytewise m x.stores l.stores s.bytes; ep = s.ep; a = s.a; sp = l.sp; rp = l.rp })

  pub commit_sound : (m : List ℕ) (r : Registers) (e : Effect) → Bounded e → Sound m r → SoundStepped (commit_of machine m r e)
  unfolding commit_of
  commit_sound m r (raise f) b s = s
  commit_sound m r (act x) (acts l) s = carried_sound m r x (places_of machine (length m) x.stores) l s

  handed_sound : (m : List ℕ) (r : Registers) (e : Ended) (h : ℕ) (g : Fetched) → Below g → Sound m r → SoundState (handed m r e h g)
  handed_sound m r e h (Ok x) b s = record { bytes = s.bytes; ep = sum_below h 4; a = b; sp = s.sp; rp = s.rp }
  handed_sound m r e h (Err f) b s = s

  handler_sound : (m : List ℕ) (r : Registers) (e : Ended) → Sound m r → SoundState (handler_of machine m r e)
  unfolding handler_of
  handler_sound m r e s =
      let stored : List ℕ = store_cell machine.order m bad_cell r.ep in
      let h : ℕ = cell_at machine.order stored handler_cell in
      let b : Bytewise stored = store_bytewise machine.order m bad_cell r.ep s.bytes in
      handed_sound stored r e h (fetch_of machine Stream stored h) (fetch_below machine stored b Stream h) (remembers b s)

  noted_bytewise : (m : List ℕ) (e : Exception) → Bytewise m → Bytewise (noted machine m e)
  noted_bytewise m (Range a) b = store_bytewise machine.order m address_cell a.0 b
  noted_bytewise m (Alignment a) b = store_bytewise machine.order m address_cell a.0 b
  noted_bytewise m DataOverflow b = b
  noted_bytewise m DataUnderflow b = b
  noted_bytewise m ReturnOverflow b = b
  noted_bytewise m ReturnUnderflow b = b
  noted_bytewise m ReadOnly b = b
  noted_bytewise m Divisor b = b
  noted_bytewise m Illegal b = b
  noted_bytewise m Library b = b

  pushed_sound : (m : List ℕ) (r : Registers) (e : Exception) (sp : ℕ) (c : Checked) → sp < 2 ^ 32 → Sound m r
      → SoundState (pushed machine m r e sp c)
  pushed_sound m r e sp (Err f) h s = s
  pushed_sound m r e sp (Ok _) h s =
      let b = store_bytewise machine.order (noted machine m e) sp (exception_code e) (noted_bytewise m e s.bytes) in
      handler_sound _ _ _ (record { bytes = b; ep = s.ep; a = s.a; sp = h; rp = s.rp })

  throw_sound : (m : List ℕ) (r : Registers) (e : Exception) → Sound m r → SoundState (throw_of machine m r e)
  unfolding throw_of
  throw_sound m r e s =
      let sp : ℕ = difference r.sp 4 in
      pushed_sound m r e sp (place_of machine one_cell Push (length m) sp) (difference_below r.sp 4) s

  throwing_sound : (m : List ℕ) (r : Registers) → Sound m r → SoundState (throwing_of machine m r)
  unfolding throwing_of
  throwing_sound m r s = go (eqb (r.sp % 4) 0)
    where
      go : (t : Bool) → SoundState (if t (handler_of machine m r Went) (cycle_state m r (Stopped bad_stack)))
      go true = handler_sound m r Went s
      go false = s

  nexted_sound : (m : List ℕ) (r : Registers) (g : Fetched) → Below g → Sound m r → SoundState (nexted machine m r g)
  nexted_sound m r (Ok x) b s = record { bytes = s.bytes; ep = sum_below r.ep 4; a = b; sp = s.sp; rp = s.rp }
  nexted_sound m r (Err f) b s = throw_sound m r (exception_of machine f) s

  pub next_sound : (m : List ℕ) (r : Registers) → Sound m r → SoundState (next_of machine m r)
  unfolding next_of
  next_sound m r s = nexted_sound m r (fetch_of machine Stream m r.ep) (fetch_below machine m s.bytes Stream r.ep) s

  finished_sound : (m : List ℕ) (r : Registers) (o : Outcome) → Sound m r → SoundState (finished machine m r o)
  finished_sound m r outcome.Went s = s
  finished_sound m r outcome.Next s = next_sound m r s
  finished_sound m r (outcome.Raise f) s = throw_sound m r (exception_of machine f) s
  finished_sound m r (outcome.Halt x) s = s
  finished_sound m r outcome.Throw s = throwing_sound m r s

  pub finish_sound : (s : Stepped) → SoundStepped s → SoundState (finish_of machine s)
  unfolding finish_of
  finish_sound s h = finished_sound s.memory s.step.registers s.step.outcome h
