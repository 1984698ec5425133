-- An effect committed by the processor and carried out by the list machine.
use Rattle.std.specs.Prelude.{Ok, Err, Some, None}
use Rattle.cell.specs.Place.{Checked, good}
use mathlib.Core.Path.{◌≡◌, refl}
use mathlib.Core.Bool.{Bool, true, false, not}
use mathlib.Core.List.{List}
use Prim.Native.Nat.{ℕ, suc, ◌+◌, ◌*◌, ◌<◌}
use borrow.Author.Tests.{ltb-true}
use lib.Dec.{ltb}
use lib.ListN.{length}
use Rattle.cell.specs.Choice.{if}
use Rattle.machine.specs.Effects.{Control, go_on, jump, halt, throwing, Action, Effect, act, raise}
use Rattle.machine.specs.Commits.{Stepped, stepped, places_of, stored_of, controlled, carried_out, commit_of}
use Rattle.throws.specs.Throws.{cycle_state, next_of, finish_of}
use Rattle.machine.specs.declared.Machine.{Machine}
use Rattle.machine.specs.declared.Registers.{Registers}
use Rattle.machine.specs.declared.Outcome.{Outcome}
use Rattle.machine.specs.declared.Outcome.TheVariants.{Went, Next, Raise, Halt, Throw}
use Rattle.machine.specs.declared.Ended.TheVariants as ended
use Rattle.length_laws.proofs.LengthLaws.{stored_length}
use Rattle.pack_layout.specs.Listing.{Listing}
use Rattle.pack_layout.specs.Layout.{form_at}
use Rattle.pack_layout.specs.Packing.{layout, image_cells, ep_value, entry_at, Legal, Entry}
use Rattle.pack_layout.proofs.Placing.{entry_opens}
use Rattle.pack_layout.proofs.Finding.{found}
use Rattle.list_machine.specs.declared.Outside.TheVariants.{WritesImage, NoEntry, PastEnd}
use Rattle.list_machine.specs.ListMachine.{Position, on, outside, is_immediate, acted_to, moved_to, entered_at, writes_image, followed, acted, carried_by}
use Rattle.demand3.specs.Demand3.{Holds}
use Rattle.demand3.proofs.Frame.{stores_frame}
use Rattle.demand3.proofs.Image.{still_holds, next_enters}
use Rattle.demand3.proofs.Meets.{Meets, registers_for}
use Rattle.exceptions.specs.Exceptions.{exception_of}
use Rattle.demand3.proofs.Throwing.{throw_meets, throwing_meets}

abbrev pub is_went : Outcome → Bool
is_went Went = true
is_went Next = false
is_went (Raise f) = false
is_went (Halt x) = false
is_went Throw = false

abbrev pub stands_at : ℕ → Bool → List ℕ → ℕ → ℕ → Position
stands_at i ran m sp rp = record { item = i; ran = ran; memory = m; sp = sp; rp = rp }

-- what an instruction does to a step that went: nothing, past the operand cell, or NEXT. a is A after the shift
pub record Way (machine : Machine) (base : ℕ) (l : Listing) (i a : ℕ) (onward : Stepped → Stepped) : Type 0 where
  pub kept : (m : List ℕ) (r : Registers) (o : Outcome) → is_went o ≡ false
      → onward (stepped m (record { registers = r; outcome = o })) ≡ stepped m (record { registers = r; outcome = o })
  pub went : (m : List ℕ) (sp rp : ℕ) → Holds machine base l m → suc i < l.count
      → finish_of machine (onward (stepped m (record { registers = record { ep = ep_value base l i; a = a; sp = sp; rp = rp }; outcome = Went })))
      ≡ cycle_state m
      (registers_for base l (record { item = suc i; ran = not (is_immediate (form_at (layout l) i)); memory = m; sp = sp; rp = rp }))
      ended.Went

module _ (machine : Machine) (base : ℕ) (l : Listing) (ok : Legal base l) (i a : ℕ) (inside : i < l.count) (onward : Stepped → Stepped)
    (w : Way machine base l i a onward) where
  -- the registers at the item, A shifted
  abbrev here : ℕ → ℕ → Registers
  here sp rp = record { ep = ep_value base l i; a = a; sp = sp; rp = rp }

  jump_meets : (ran : Bool) (m : List ℕ) (sp rp to : ℕ) → Holds machine base l m
      → Meets machine base l (followed machine base l (jump to) (stands_at i ran m sp rp))
      (next_of machine m (record { ep = to; a = a; sp = sp; rp = rp }))
  jump_meets ran m sp rp to holds = go (entry_at base l to) refl
    where
      go : (n : Entry) → entry_at base l to ≡ n
          → Meets machine base l (entered_at NoEntry n (stands_at i ran m sp rp)) (next_of machine m (record { ep = to; a = a; sp = sp; rp = rp }))
      go None q = tt
      go (Some j) q =
          let f = found base l to j.0 q in
          rw (← f.there, next_enters machine base l ok m holds j.0 sp rp a f.item (entry_opens (layout l) j.0 f.entered))
          (record { memory = refl; registers = refl; goes = refl; sound = record { item = f.item; holds = holds } })

  -- what follows the stores
  followed_meets : (ran : Bool) (m : List ℕ) (sp rp : ℕ) (c : Control) → Holds machine base l m
      → Meets machine base l (followed machine base l c (stands_at i ran m sp rp)) (finish_of machine (onward (stepped m (controlled c (here sp rp)))))
  unfolding finish_of
  followed_meets ran m sp rp go_on holds = go (ltb (suc i) l.count) refl
    where
      go : (b : Bool) → ltb (suc i) l.count ≡ b
          → Meets machine base l (if b (on (moved_to (suc i) (not (is_immediate (form_at (layout l) i))) (stands_at i ran m sp rp))) (outside PastEnd))
          (finish_of machine (onward (stepped m (record { registers = here sp rp; outcome = Went }))))
      go false q = tt
      go true q =
          let h : suc i < l.count = ltb-true (suc i) l.count q in
          rw (w.went m sp rp holds h)
          (record { memory = refl; registers = refl; goes = refl; sound = record { item = h; holds = holds } })
  followed_meets ran m sp rp (jump to) holds = rw (w.kept m (record { ep = to; a = a; sp = sp; rp = rp }) Next refl) (jump_meets ran m sp rp to holds)
  followed_meets ran m sp rp (halt x) holds =
      rw (w.kept m (here sp rp) (Halt x) refl) (record { memory = refl; sp = refl; rp = refl; ended = refl })
  followed_meets ran m sp rp throwing holds =
      rw (w.kept m (here sp rp) Throw refl) (throwing_meets machine base l ok (stands_at i ran m sp rp) a holds)

  acted_meets : (ran : Bool) (m : List ℕ) (sp rp : ℕ) (x : Action) (c : Checked) → Holds machine base l m
      → Meets machine base l (acted machine base l (stands_at i ran m sp rp) x c) (finish_of machine (onward (carried_out machine m (here sp rp) x c)))
  unfolding finish_of
  acted_meets ran m sp rp x (Err f) holds =
      rw (w.kept m (here sp rp) (Raise f) refl) (throw_meets machine base l ok (stands_at i ran m sp rp) (exception_of machine f) a holds)
  acted_meets ran m sp rp x (Ok _) holds = go (writes_image machine base l x.stores) refl
    where
      go : (b : Bool) → writes_image machine base l x.stores ≡ b
          → Meets machine base l (if b (outside WritesImage) (followed machine base l x.control (acted_to machine (stands_at i ran m sp rp) x)))
          (finish_of machine (onward (carried_out machine m (here sp rp) x good)))
      go true q = tt
      go false q =
          followed_meets ran (stored_of machine m x.stores) x.sp x.rp x.control
          (still_holds machine base l ok m (stored_of machine m x.stores) holds
          (stores_frame machine base (base + 4 * image_cells l) m x.stores q) (stored_length machine m x.stores))

  pub carried_meets : (ran : Bool) (m : List ℕ) (sp rp : ℕ) (e : Effect) → Holds machine base l m
      → Meets machine base l (carried_by machine base l (stands_at i ran m sp rp) e) (finish_of machine (onward (commit_of machine m (here sp rp) e)))
  unfolding commit_of finish_of
  carried_meets ran m sp rp (raise f) holds =
      rw (w.kept m (here sp rp) (Raise f) refl) (throw_meets machine base l ok (stands_at i ran m sp rp) (exception_of machine f) a holds)
  carried_meets ran m sp rp (act x) holds = acted_meets ran m sp rp x (places_of machine (length m) x.stores) holds
