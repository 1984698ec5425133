-- Memory keeps its length: through stores, a commit, a throw, a NEXT and a stop.
use Rattle.std.specs.Prelude.{Ok, Err}
use Rattle.cell.specs.Place.{Checked, Fetched}
use mathlib.Core.Path.{◌≡◌, refl, ◌∙◌}
use mathlib.Core.Bool.{Bool, true, false}
use mathlib.Core.List.{List, [], ◌∷◌}
use Prim.Native.Nat.{ℕ, ◌%◌}
use lib.Dec.{eqb}
use lib.ListN.{length, length-set}
use Rattle.cell.specs.Choice.{if}
use Rattle.cell.specs.Memory.{store_cell, cell_at}
use Rattle.cell.specs.Number.{difference}
use Rattle.cell.proofs.MemoryLaws.{store_length}
use Rattle.machine.specs.declared.Exception.{Exception}
use Rattle.machine.specs.declared.Exception.TheVariants.{Range, Alignment, DataOverflow, DataUnderflow, ReturnOverflow, ReturnUnderflow, ReadOnly, Divisor, Illegal, Library}
use Rattle.exceptions.specs.Exceptions.{exception_of, exception_code}
use Rattle.machine.specs.Places.{Width, one_byte, one_cell, place_of, fetch_of}
use Rattle.machine.specs.Effects.{Store, Action, Effect, act, raise}
use Rattle.machine.specs.Commits.{Stepped, put_store, stored_of, places_of, carried_out, commit_of}
use Rattle.exceptions.specs.Fixed.{handler_cell, bad_cell, bad_stack}
use Rattle.throws.specs.Throws.{cycle_state, handed, handler_of, noted, pushed, throw_of, throwing_of, nexted, next_of, finished, finish_of}
use Rattle.machine.specs.declared.Machine.{Machine}
use Rattle.machine.specs.declared.Registers.{Registers}
use Rattle.machine.specs.declared.Access.TheVariants.{Stream, Push}
use Rattle.machine.specs.declared.Outcome.{Outcome}
use Rattle.machine.specs.declared.Outcome.TheVariants as outcome
use Rattle.machine.specs.declared.Ended.{Ended}
use Rattle.machine.specs.declared.Ended.TheVariants.{Went, Stopped}

module _ (machine : Machine) where
  put_length : (m : List ℕ) (w : Width) (a x : ℕ) → length (put_store machine m w a x) ≡ length m
  put_length m one_byte a x = simp length-set
  put_length m one_cell a x = store_length machine.order m a x

  pub stored_length : (m : List ℕ) (ss : List Store) → length (stored_of machine m ss) ≡ length m
  unfolding stored_of
  stored_length m [] = refl
  stored_length m (s ∷ ss) = stored_length (put_store machine m s.width s.at s.value) ss ∙ put_length m s.width s.at s.value

  carried_length : (m : List ℕ) (r : Registers) (x : Action) (c : Checked) → length (carried_out machine m r x c).memory ≡ length m
  carried_length m r x (Err f) = refl
  carried_length m r x (Ok _) = stored_length m x.stores

  pub commit_length : (m : List ℕ) (r : Registers) (e : Effect) → length (commit_of machine m r e).memory ≡ length m
  unfolding commit_of
  commit_length m r (raise f) = refl
  commit_length m r (act x) = carried_length m r x (places_of machine (length m) x.stores)

  handed_length : (m : List ℕ) (r : Registers) (e : Ended) (h : ℕ) (g : Fetched) → length (handed m r e h g).memory ≡ length m
  handed_length m r e h (Ok x) = refl
  handed_length m r e h (Err f) = refl

  handler_length : (m : List ℕ) (r : Registers) (e : Ended) → length (handler_of machine m r e).memory ≡ length m
  unfolding handler_of
  handler_length m r e =
      let stored : List ℕ = store_cell machine.order m bad_cell r.ep in
      let h : ℕ = cell_at machine.order stored handler_cell in
      handed_length stored r e h (fetch_of machine Stream stored h) ∙ store_length machine.order m bad_cell r.ep

  pub noted_length : (m : List ℕ) (e : Exception) → length (noted machine m e) ≡ length m
  noted_length m (Range a) = store_length machine.order m _ _
  noted_length m (Alignment a) = store_length machine.order m _ _
  noted_length m DataOverflow = refl
  noted_length m DataUnderflow = refl
  noted_length m ReturnOverflow = refl
  noted_length m ReturnUnderflow = refl
  noted_length m ReadOnly = refl
  noted_length m Divisor = refl
  noted_length m Illegal = refl
  noted_length m Library = refl

  pushed_length : (m : List ℕ) (r : Registers) (e : Exception) (sp : ℕ) (c : Checked) → length (pushed machine m r e sp c).memory ≡ length m
  pushed_length m r e sp (Err f) = refl
  pushed_length m r e sp (Ok _) =
      handler_length _ _ _ ∙ store_length machine.order (noted machine m e) sp (exception_code e) ∙ noted_length m e

  pub throw_length : (m : List ℕ) (r : Registers) (e : Exception) → length (throw_of machine m r e).memory ≡ length m
  unfolding throw_of
  throw_length m r e =
      let sp : ℕ = difference r.sp 4 in
      pushed_length m r e sp (place_of machine one_cell Push (length m) sp)

  pub throwing_length : (m : List ℕ) (r : Registers) → length (throwing_of machine m r).memory ≡ length m
  unfolding throwing_of
  throwing_length m r = go (eqb (r.sp % 4) 0)
    where
      go : (t : Bool) → length (if t (handler_of machine m r Went) (cycle_state m r (Stopped bad_stack))).memory ≡ length m
      go true = handler_length m r Went
      go false = refl

  nexted_length : (m : List ℕ) (r : Registers) (g : Fetched) → length (nexted machine m r g).memory ≡ length m
  nexted_length m r (Ok x) = refl
  nexted_length m r (Err f) = throw_length m r (exception_of machine f)

  pub next_length : (m : List ℕ) (r : Registers) → length (next_of machine m r).memory ≡ length m
  unfolding next_of
  next_length m r = nexted_length m r (fetch_of machine Stream m r.ep)

  finished_length : (m : List ℕ) (r : Registers) (o : Outcome) → length (finished machine m r o).memory ≡ length m
  finished_length m r outcome.Went = refl
  finished_length m r outcome.Next = next_length m r
  finished_length m r (outcome.Raise f) = throw_length m r (exception_of machine f)
  finished_length m r (outcome.Halt x) = refl
  finished_length m r outcome.Throw = throwing_length m r

  pub finish_length : (s : Stepped) → length (finish_of machine s).memory ≡ length s.memory
  unfolding finish_of
  finish_length s = finished_length s.memory s.step.registers s.step.outcome
