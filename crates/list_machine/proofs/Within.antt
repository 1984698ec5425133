-- An item that leads on leads to an item of the listing.
use Rattle.std.specs.Prelude.{Ok, Err, Some, None}
use Rattle.cell.specs.Place.{Checked}
use mathlib.Core.Path.{◌≡◌, refl}
use mathlib.Core.Bool.{Bool, true, false, not}
use Prim.{Unit, tt}
use Prim.Native.Nat.{ℕ, suc, ◌<◌}
use borrow.Author.Tests.{ltb-true}
use lib.Dec.{ltb}
use lib.ListN.{length}
use Rattle.cell.specs.Choice.{if}
use Rattle.cell.specs.Number.{difference}
use Rattle.machine.specs.Places.{one_cell, place_of}
use Rattle.exceptions.specs.Exceptions.{exception_of}
use Rattle.machine.specs.declared.Exception.{Exception}
use Rattle.machine.specs.Effects.{Control, go_on, jump, halt, throwing, Action, Effect, act, raise}
use Rattle.machine.specs.Commits.{places_of}
use Rattle.throws.specs.Throws.{CycleState, throw_of, throwing_of}
use Rattle.machine.specs.declared.Machine.{Machine}
use Rattle.machine.specs.declared.Access.TheVariants.{Push}
use Rattle.machine.specs.declared.Ended.{Ended}
use Rattle.machine.specs.declared.Ended.TheVariants.{Went, Threw, Stopped}
use Rattle.pack_layout.specs.Listing.{Listing}
use Rattle.pack_layout.specs.Layout.{form_at}
use Rattle.pack_layout.specs.Packing.{layout, entry_at, Entry}
use Rattle.pack_layout.proofs.Finding.{found}
use Rattle.list_machine.specs.declared.Outside.{Outside}
use Rattle.list_machine.specs.declared.Outside.TheVariants.{WritesImage, NoEntry, PastEnd}
use Rattle.list_machine.specs.ListMachine.{Position, Carried, on, stopped, outside, is_immediate, push_of, thrown_to, acted_to, moved_to, entered_at, effect_at, writes_image, transferred, registers_at, handler_at, handled_by, handled, thrown, ran_on, followed, acted, carried_by, carry_out}

abbrev pub Within : ℕ → Carried → Type 0
Within n (on q) = q.item < n
Within n (stopped x q) = Unit
Within n (outside why) = Unit

if_within : (n : ℕ) (b : Bool) (why : Outside) (c : Carried) → Within n c → Within n (if b (outside why) c)
if_within n true why c h = tt
if_within n false why c h = h

entered_within : (n : ℕ) (why : Outside) (e : Entry) (q : Position) → ((j : ℕ) → e ≡ Some (record { 0 = j }) → j < n) → Within n (entered_at why e q)
entered_within n why (Some i) q h = h i.0 refl
entered_within n why None q h = tt

module _ (machine : Machine) (base : ℕ) (l : Listing) where
  transferred_within : (why : Outside) (a : ℕ) (q : Position) → Within l.count (transferred machine base l why a q)
  transferred_within why a q = entered_within l.count why (entry_at base l a) q (λ j e. (found base l a j e).item)

  handled_by_within : (p : Position) (t : CycleState) (e : Ended) → Within l.count (handled_by machine base l p t e)
  handled_by_within p t (Stopped x) = tt
  handled_by_within p t Went = transferred_within _ (handler_at machine base l t) (thrown_to p t)
  handled_by_within p t (Threw f) = transferred_within _ (handler_at machine base l t) (thrown_to p t)

  handled_within : (p : Position) (t : CycleState) → Within l.count (handled machine base l p t)
  handled_within p t = handled_by_within p t t.result.ended

  thrown_within : (p : Position) (e : Exception) → Within l.count (thrown machine base l p e)
  thrown_within p e =
      if_within l.count
      (writes_image machine base l (push_of (difference p.sp 4) e (place_of machine one_cell Push (length p.memory) (difference p.sp 4))))
      WritesImage (handled machine base l p (throw_of machine p.memory (registers_at machine base l p) e))
      (handled_within p (throw_of machine p.memory (registers_at machine base l p) e))

  ran_on_within : (p : Position) → Within l.count (ran_on machine base l p)
  ran_on_within p = go (ltb (suc p.item) l.count) refl
    where
      go : (b : Bool) → ltb (suc p.item) l.count ≡ b
          → Within l.count (if b (on (moved_to (suc p.item) (not (is_immediate (form_at (layout l) p.item))) p)) (outside PastEnd))
      go true q = ltb-true (suc p.item) l.count q
      go false q = tt

  followed_within : (c : Control) (p : Position) → Within l.count (followed machine base l c p)
  followed_within go_on p = ran_on_within p
  followed_within (jump a) p = transferred_within NoEntry a p
  followed_within (halt x) p = tt
  followed_within throwing p = handled_within p (throwing_of machine p.memory (registers_at machine base l p))

  acted_within : (p : Position) (x : Action) (c : Checked) → Within l.count (acted machine base l p x c)
  acted_within p x (Err f) = thrown_within p (exception_of machine f)
  acted_within p x (Ok _) =
      if_within l.count (writes_image machine base l x.stores) WritesImage (followed machine base l x.control (acted_to machine p x))
      (followed_within x.control (acted_to machine p x))

  carried_within : (p : Position) (e : Effect) → Within l.count (carried_by machine base l p e)
  carried_within p (raise f) = thrown_within p (exception_of machine f)
  carried_within p (act x) = acted_within p x (places_of machine (length p.memory) x.stores)

  pub carry_within : (p : Position) → Within l.count (carry_out machine base l p)
  unfolding carry_out
  carry_within p = carried_within p (effect_at machine base l p)
