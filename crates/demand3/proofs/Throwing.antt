-- A throw of the processor and of the list machine. They differ in A, which plays no part until the handler's cell is in it.
use Rattle.std.specs.Prelude.{Ok, Err}
use Rattle.cell.specs.Place.{Checked, Fetched}
use mathlib.Core.Path.{◌≡◌, refl}
use mathlib.Core.Bool.{Bool, true, false, true≢false}
use mathlib.Core.List.{List, [], ◌∷◌}
use mathlib.Core.Logic.{inl}
use Prim.Native.Nat.{ℕ, ◌+◌, ◌*◌, ◌%◌, ◌≤◌}
use native.Mathlib.Omega.{arith}
use lib.Dec.{eqb}
use lib.ListN.{length}
use Rattle.cell.specs.Choice.{if}
use Rattle.cell.specs.Memory.{cell_at, store_cell, Alike}
use Rattle.cell.specs.Number.{difference}
use Rattle.cell.proofs.MemoryLaws.{store_length, cell_frame, alike_refl}
use Rattle.machine.specs.Places.{one_cell, place_of, fetch_of}
use Rattle.exceptions.specs.Exceptions.{exception_code}
use Rattle.machine.specs.declared.Exception.{Exception}
use Rattle.machine.specs.declared.Exception.TheVariants.{Range, Alignment, DataOverflow, DataUnderflow, ReturnOverflow, ReturnUnderflow, ReadOnly, Divisor, Illegal, Library}
use Rattle.machine.specs.Effects.{cell_store}
use Rattle.machine.specs.Commits.{touches, stored_of}
use Rattle.exceptions.specs.Fixed.{handler_cell, bad_cell, address_cell, bad_stack}
use Rattle.throws.specs.Throws.{cycle_state, handed, handler_of, noted, pushed, throw_of, throwing_of}
use Rattle.machine.specs.declared.Machine.{Machine}
use Rattle.machine.specs.declared.Access.TheVariants.{Stream, Push}
use Rattle.machine.specs.declared.Ended.{Ended}
use Rattle.machine.specs.declared.Ended.TheVariants.{Went, Threw, Stopped}
use Rattle.cycles.specs.Counts.{is_stop}
use Rattle.length_laws.proofs.LengthLaws.{noted_length}
use Rattle.pack_layout.specs.Listing.{Listing}
use Rattle.pack_layout.specs.Packing.{image_cells, ep_value, Legal}
use Rattle.pack_layout.proofs.Packing.{placed}
use Rattle.list_machine.specs.declared.Outside.TheVariants.{WritesImage}
use Rattle.list_machine.specs.ListMachine.{Position, outside, push_of, writes_image, registers_at, handled, thrown}
use Rattle.demand3.specs.Demand3.{Holds}
use Rattle.demand3.proofs.Frame.{stores_frame}
use Rattle.demand3.proofs.Image.{still_holds}
use Rattle.demand3.proofs.Meets.{Meets, enters}

pub noted_frame : (machine : Machine) (lo hi : ℕ) (m : List ℕ) (e : Exception) → 16 ≤ lo → Alike lo hi m (noted machine m e)
noted_frame machine lo hi m (Range a) h = cell_frame lo hi machine.order m address_cell a.0 (inl (omega arith))
noted_frame machine lo hi m (Alignment a) h = cell_frame lo hi machine.order m address_cell a.0 (inl (omega arith))
noted_frame machine lo hi m DataOverflow h = alike_refl lo hi m
noted_frame machine lo hi m DataUnderflow h = alike_refl lo hi m
noted_frame machine lo hi m ReturnOverflow h = alike_refl lo hi m
noted_frame machine lo hi m ReturnUnderflow h = alike_refl lo hi m
noted_frame machine lo hi m ReadOnly h = alike_refl lo hi m
noted_frame machine lo hi m Divisor h = alike_refl lo hi m
noted_frame machine lo hi m Illegal h = alike_refl lo hi m
noted_frame machine lo hi m Library h = alike_refl lo hi m

pushed_frame : (machine : Machine) (lo hi : ℕ) (m : List ℕ) (a x : ℕ) → touches lo hi (cell_store Push a x ∷ []) ≡ false
    → Alike lo hi m (store_cell machine.order m a x)
unfolding stored_of
pushed_frame machine lo hi m a x e = stores_frame machine lo hi m (cell_store Push a x ∷ []) e

module _ (machine : Machine) (base : ℕ) (l : Listing) (ok : Legal base l) where
  -- 'BAD takes EP, then the handler
  handler_meets : (p : Position) (m : List ℕ) → Holds machine base l m → (ep a sp rp : ℕ) (e : Ended) → is_stop e ≡ false
      → Meets machine base l (handled machine base l p (handler_of machine m (record { ep = ep; a = 0; sp = sp; rp = rp }) e))
      (handler_of machine m (record { ep = ep; a = a; sp = sp; rp = rp }) e)
  unfolding handler_of
  handler_meets p m holds ep a sp rp e going = go (fetch_of machine Stream m2 (cell_at machine.order m2 handler_cell)) refl e going
    where
      m2 : List ℕ
      m2 = store_cell machine.order m bad_cell ep

      kept : Holds machine base l m2
      kept =
          still_holds machine base l ok m m2 holds
          (cell_frame base (base + 4 * image_cells l) machine.order m bad_cell ep (inl (omega (arith, (placed base l ok).above_cells))))
          (store_length machine.order m bad_cell ep)

      go : (g : Fetched) → fetch_of machine Stream m2 (cell_at machine.order m2 handler_cell) ≡ g → (e : Ended) → is_stop e ≡ false
          → Meets machine base l
          (handled machine base l p (handed m2 (record { ep = ep; a = 0; sp = sp; rp = rp }) e (cell_at machine.order m2 handler_cell) g))
          (handed m2 (record { ep = ep; a = a; sp = sp; rp = rp }) e (cell_at machine.order m2 handler_cell) g)
      go (Err f) q e going = record { memory = refl; sp = refl; rp = refl; ended = refl }
      go (Ok x) q Went going =
          enters machine base l ok _ (record { item = p.item; ran = p.ran; memory = m2; sp = sp; rp = rp })
          (cell_at machine.order m2 handler_cell) x a ep Went refl kept q
      go (Ok x) q (Threw f) going =
          enters machine base l ok _ (record { item = p.item; ran = p.ran; memory = m2; sp = sp; rp = rp })
          (cell_at machine.order m2 handler_cell) x a ep (Threw f) refl kept q
      go (Ok x) q (Stopped y) going = absurd (true≢false going)

  -- an item that raises
  pub throw_meets : (p : Position) (e : Exception) (a : ℕ) → Holds machine base l p.memory
      → Meets machine base l (thrown machine base l p e)
      (throw_of machine p.memory (record { ep = ep_value base l p.item; a = a; sp = p.sp; rp = p.rp }) e)
  unfolding throw_of
  throw_meets p e a holds = go (place_of machine one_cell Push (length p.memory) sp) (writes_image machine base l (push_of sp e (place_of machine one_cell Push (length p.memory) sp))) refl
    where
      sp : ℕ
      sp = difference p.sp 4

      noting : Holds machine base l (noted machine p.memory e)
      noting =
          still_holds machine base l ok p.memory (noted machine p.memory e) holds
          (noted_frame machine base (base + 4 * image_cells l) p.memory e (placed base l ok).above_cells)
          (noted_length machine p.memory e)

      go : (c : Checked) (b : Bool) → writes_image machine base l (push_of sp e c) ≡ b
          → Meets machine base l
          (if b (outside WritesImage) (handled machine base l p (pushed machine p.memory (registers_at machine base l p) e sp c)))
          (pushed machine p.memory (record { ep = ep_value base l p.item; a = a; sp = p.sp; rp = p.rp }) e sp c)
      go c true q = tt
      go (Err f) false q = record { memory = refl; sp = refl; rp = refl; ended = refl }
      go (Ok _) false q =
          handler_meets p (store_cell machine.order (noted machine p.memory e) sp (exception_code e))
          (still_holds machine base l ok (noted machine p.memory e) (store_cell machine.order (noted machine p.memory e) sp (exception_code e)) noting
          (pushed_frame machine base (base + 4 * image_cells l) (noted machine p.memory e) sp (exception_code e) q)
          (store_length machine.order (noted machine p.memory e) sp (exception_code e)))
          (ep_value base l p.item) a sp p.rp (Threw e) refl

  -- THROW, 54h
  pub throwing_meets : (p : Position) (a : ℕ) → Holds machine base l p.memory
      → Meets machine base l (handled machine base l p (throwing_of machine p.memory (registers_at machine base l p)))
      (throwing_of machine p.memory (record { ep = ep_value base l p.item; a = a; sp = p.sp; rp = p.rp }))
  unfolding throwing_of
  throwing_meets p a holds = go (eqb (p.sp % 4) 0)
    where
      go : (b : Bool) → Meets machine base l
          (handled machine base l p (if b (handler_of machine p.memory (registers_at machine base l p) Went) (cycle_state p.memory (registers_at machine base l p) (Stopped bad_stack))))
          (if b (handler_of machine p.memory (record { ep = ep_value base l p.item; a = a; sp = p.sp; rp = p.rp }) Went)
          (cycle_state p.memory (record { ep = ep_value base l p.item; a = a; sp = p.sp; rp = p.rp }) (Stopped bad_stack)))
      go true = handler_meets p p.memory holds (ep_value base l p.item) a p.sp p.rp Went refl
      go false = record { memory = refl; sp = refl; rp = refl; ended = refl }
