-- A run keeps the memory's length.
use Rattle.std.specs.Prelude.{Ok, Err, Some, None}
use Rattle.cell.specs.Place.{Checked}
use mathlib.Core.Path.{◌≡◌, refl, ◌∙◌}
use mathlib.Core.Bool.{Bool, true, false, not}
use Prim.{Unit, tt}
use Prim.Native.Nat.{ℕ, zero, suc}
use lib.Dec.{ltb}
use lib.ListN.{length}
use Rattle.cell.specs.Choice.{if}
use Rattle.cell.specs.Number.{difference}
use Rattle.machine.specs.Places.{one_cell, place_of}
use Rattle.exceptions.specs.Exceptions.{exception_of}
use Rattle.machine.specs.declared.Exception.{Exception}
use Rattle.machine.specs.Effects.{Control, go_on, jump, halt, throwing, Action, Effect, act, raise}
use Rattle.machine.specs.Commits.{places_of}
use Rattle.throws.specs.Throws.{CycleState, throw_of, throwing_of}
use Rattle.machine.specs.declared.Machine.{Machine}
use Rattle.machine.specs.declared.Access.TheVariants.{Push}
use Rattle.machine.specs.declared.Ended.{Ended}
use Rattle.machine.specs.declared.Ended.TheVariants.{Went, Threw, Stopped}
use Rattle.length_laws.proofs.LengthLaws.{stored_length, throw_length, throwing_length}
use Rattle.pack_layout.specs.Listing.{Listing}
use Rattle.pack_layout.specs.Layout.{form_at}
use Rattle.pack_layout.specs.Packing.{layout, entry_at, Entry}
use Rattle.list_machine.specs.declared.Outside.{Outside}
use Rattle.list_machine.specs.declared.Outside.TheVariants.{WritesImage, NoEntry, PastEnd}
use Rattle.list_machine.specs.ListMachine.{Position, Carried, on, stopped, outside, is_immediate, push_of, thrown_to, acted_to, moved_to, entered_at, effect_at, writes_image, registers_at, handler_at, handled_by, handled, thrown, followed, acted, carried_by, carry_out}
use Rattle.list_machine.specs.Runs.{Course, goes_on, stopped_by, stood_outside, Run, further_by, further_in, further, run_of}

-- what an item comes to has a memory of n bytes
abbrev Long : ℕ → Carried → Type 0
Long n (on q) = length q.memory ≡ n
Long n (stopped x q) = length q.memory ≡ n
Long n (outside why) = Unit

if_long : (n : ℕ) (b : Bool) (why : Outside) (c : Carried) → Long n c → Long n (if b (outside why) c)
if_long n true why c h = tt
if_long n false why c h = h

entered_long : (n : ℕ) (why : Outside) (e : Entry) (q : Position) → length q.memory ≡ n → Long n (entered_at why e q)
entered_long n why (Some i) q h = h
entered_long n why None q h = tt

ran_long : (n : ℕ) (b : Bool) (i : ℕ) (ran : Bool) (q : Position) → length q.memory ≡ n
    → Long n (if b (on (moved_to i ran q)) (outside PastEnd))
ran_long n true i ran q h = h
ran_long n false i ran q h = tt

module _ (machine : Machine) (base : ℕ) (l : Listing) where
  handled_by_long : (n : ℕ) (p : Position) (t : CycleState) (e : Ended) → length t.memory ≡ n → Long n (handled_by machine base l p t e)
  handled_by_long n p t (Stopped x) h = h
  handled_by_long n p t Went h = entered_long n _ (entry_at base l (handler_at machine base l t)) (thrown_to p t) h
  handled_by_long n p t (Threw f) h = entered_long n _ (entry_at base l (handler_at machine base l t)) (thrown_to p t) h

  thrown_long : (p : Position) (e : Exception) → Long (length p.memory) (thrown machine base l p e)
  thrown_long p e =
      let t : CycleState = throw_of machine p.memory (registers_at machine base l p) e in
      if_long (length p.memory)
      (writes_image machine base l (push_of (difference p.sp 4) e (place_of machine one_cell Push (length p.memory) (difference p.sp 4))))
      WritesImage (handled machine base l p t)
      (handled_by_long (length p.memory) p t t.result.ended (throw_length machine p.memory (registers_at machine base l p) e))

  followed_long : (n : ℕ) (c : Control) (p : Position) → length p.memory ≡ n → Long n (followed machine base l c p)
  followed_long n go_on p h = ran_long n (ltb (suc p.item) l.count) (suc p.item) (not (is_immediate (form_at (layout l) p.item))) p h
  followed_long n (jump a) p h = entered_long n NoEntry (entry_at base l a) p h
  followed_long n (halt x) p h = h
  followed_long n throwing p h =
      let t : CycleState = throwing_of machine p.memory (registers_at machine base l p) in
      handled_by_long n p t t.result.ended (throwing_length machine p.memory (registers_at machine base l p) ∙ h)

  acted_long : (p : Position) (x : Action) (c : Checked) → Long (length p.memory) (acted machine base l p x c)
  acted_long p x (Err f) = thrown_long p (exception_of machine f)
  acted_long p x (Ok _) =
      if_long (length p.memory) (writes_image machine base l x.stores) WritesImage (followed machine base l x.control (acted_to machine p x))
      (followed_long (length p.memory) x.control (acted_to machine p x) (stored_length machine p.memory x.stores))

  carried_long : (p : Position) (e : Effect) → Long (length p.memory) (carried_by machine base l p e)
  carried_long p (raise f) = thrown_long p (exception_of machine f)
  carried_long p (act x) = acted_long p x (places_of machine (length p.memory) x.stores)

  carry_long : (p : Position) → Long (length p.memory) (carry_out machine base l p)
  unfolding carry_out
  carry_long p = carried_long p (effect_at machine base l p)

  further_by_long : (n : ℕ) (s : Run) (c : Carried) → length s.position.memory ≡ n → Long n c
      → length (further_by machine base l s c).position.memory ≡ n
  further_by_long n s (on p) h g = g
  further_by_long n s (stopped x p) h g = g
  further_by_long n s (outside why) h g = h

  further_in_long : (s : Run) (c : Course) → length (further_in machine base l s c).position.memory ≡ length s.position.memory
  further_in_long s goes_on = further_by_long _ s (carry_out machine base l s.position) refl (carry_long s.position)
  further_in_long s (stopped_by x) = refl
  further_in_long s (stood_outside why) = refl

  pub run_long : (k : ℕ) (s : Run) → length (run_of machine base l k s).position.memory ≡ length s.position.memory
  unfolding run_of further
  run_long zero s = refl
  run_long (suc k) s = further_in_long (run_of machine base l k s) (run_of machine base l k s).course ∙ run_long k s
