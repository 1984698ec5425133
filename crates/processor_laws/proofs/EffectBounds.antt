-- The shapes that effects are made of are bounded where what they hand on is.
use Rattle.std.specs.Prelude.{Ok, Err}
use mathlib.Core.Bool.{Bool, true, false}
use mathlib.Core.List.{List}
use Prim.{tt}
use Prim.Native.Nat.{ℕ, zero, suc, ◌%◌, ◌^◌, ◌<◌}
use native.Mathlib.Omega.{arith}
use lib.Dec.{ltb}
use lib.ListN.{length, get_or}
use Rattle.cell.specs.Choice.{if}
use Rattle.cell.specs.Memory.{Bytewise, cell_at}
use Rattle.cell.specs.Number.{sum}
use Rattle.cell.specs.Place.{read, address, Checked, Fetched}
use Rattle.cell.specs.declared.Fault.TheVariants.{Range}
use Rattle.cell.proofs.MemoryLaws.{cell_below}
use Rattle.machine.specs.Places.{one_byte, one_cell, place_of, fetch_of, fetch_byte_of}
use Rattle.machine.specs.Effects.{Store, Control, Effect, fetched, roll_stores, rolled}
use Rattle.machine.specs.declared.Machine.{Machine}
use Rattle.machine.specs.declared.Access.{Access}
use Rattle.machine.specs.declared.Access.TheVariants.{DataRead}
use Rattle.instruction.specs.Plain.{action, fetch_deep}
use Rattle.processor_laws.specs.Soundness.{Below, AllHold, Leads, Bounded, acts, raises}

-- an action, by its parts
pub acting : {sp rp : ℕ} {ss : List Store} {c : Control} → sp < 2 ^ 32 → rp < 2 ^ 32 → AllHold ss → Leads c → Bounded (action sp rp ss c)
acting hs hr st co = acts (record { sp = hs; rp = hr; stores = st; control = co })

pub either : (t : Bool) {e f : Effect} → Bounded e → Bounded f → Bounded (if t e f)
either true p q = p
either false p q = q

pub fetched_bounded : (g : Fetched) {k : ℕ → Effect} → Below g → ((x : ℕ) → x < 2 ^ 32 → Bounded (k x)) → Bounded (fetched g k)
fetched_bounded (Ok x) h f = f x h
fetched_bounded (Err e) h f = raises

read_below : (c : Checked) (x : ℕ) → x < 2 ^ 32 → Below (read c x)
read_below (Ok _) x h = h
read_below (Err f) x h = tt

-- ROLL stores cells only
roll_holds : (order : ℕ) (m : List ℕ) (top last u : ℕ) → AllHold (roll_stores order m top last u)
unfolding roll_stores
roll_holds order m top last zero = (tt, tt)
roll_holds order m top last (suc u) = (tt, roll_holds order m top last u)

pub rolled_holds : (order : ℕ) (m : List ℕ) (top u : ℕ) → AllHold (rolled order m top u)
rolled_holds order m top zero = tt
rolled_holds order m top (suc u) = roll_holds order m top _ (suc u)

module _ (machine : Machine) (m : List ℕ) (low : Bytewise m) where
  pub fetch_below : (access : Access) (a : ℕ) → Below (fetch_of machine access m a)
  unfolding fetch_of
  fetch_below access a =
      read_below (place_of machine one_cell access (length m) a) (cell_at machine.order m a) (cell_below machine.order m a low)

  pub byte_below : (access : Access) (a : ℕ) → Below (fetch_byte_of machine access m a)
  unfolding fetch_byte_of Bytewise
  byte_below access a = read_below (place_of machine one_byte access (length m) a) (get_or m a 0) (omega (arith, low a))

  pub deep_below : (a : ℕ) → Below (fetch_deep machine m a)
  deep_below a = go (ltb a (2 ^ 32))
    where
      go : (t : Bool) → Below (if t (fetch_of machine DataRead m a) (Err (Range (address (a % 2 ^ 32)))))
      go true = fetch_below DataRead a
      go false = tt

  -- one, two or three cells read upwards from a
  pub read1 : (access : Access) (a : ℕ) {k : ℕ → Effect} → ((x : ℕ) → x < 2 ^ 32 → Bounded (k x))
      → Bounded (fetched (fetch_of machine access m a) k)
  read1 access a f = fetched_bounded (fetch_of machine access m a) (fetch_below access a) f

  pub read2 : (access : Access) (a : ℕ) {k : ℕ → ℕ → Effect} → ((x y : ℕ) → Bounded (k x y))
      → Bounded (fetched (fetch_of machine access m a) (λ y. fetched (fetch_of machine access m (sum a 4)) (λ x. k x y)))
  read2 access a f = read1 access a (λ y hy. read1 access (sum a 4) (λ x hx. f x y))

  pub read3 : (access : Access) (a : ℕ) {k : ℕ → ℕ → ℕ → Effect} → ((x y z : ℕ) → Bounded (k x y z))
      → Bounded (fetched (fetch_of machine access m a)
      (λ z. fetched (fetch_of machine access m (sum a 4)) (λ y. fetched (fetch_of machine access m (sum a 8)) (λ x. k x y z))))
  read3 access a f = read2 access a (λ y z. read1 access (sum a 8) (λ x hx. f x y z))
