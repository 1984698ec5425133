-- A throw, against where it was found to lead: 'THROW as it will stand once the code is pushed.
use Rattle.std.specs.Prelude.{Ok, Err, Some, None}
use mathlib.Core.Path.{◌≡◌, refl, sym, ap, ◌∙◌}
use mathlib.Core.Bool.{Bool, true, false, ◌&&◌, ◌||◌}
use mathlib.Core.List.{List}
use mathlib.Core.Logic.{inr}
use Prim.Native.Nat.{ℕ, ◌+◌, ◌*◌, ◌%◌, ◌^◌, ◌≤◌, ◌<◌}
use native.Mathlib.Omega.{arith}
use borrow.Author.Tests.{eqb-true, eqb-false}
use lib.Dec.{ltb, eqb}
use lib.ListN.{length}
use Rattle.cell.specs.Choice.{if}
use Rattle.cell.specs.Memory.{cell_at, store_cell}
use Rattle.cell.specs.Number.{difference}
use Rattle.cell.specs.Place.{read, Checked, good}
use Rattle.cell.proofs.MemoryLaws.{store_length, cell_back, cell_frame, cell_alike}
use Rattle.machine.specs.Places.{one_cell, place_of, fetch_of}
use Rattle.exceptions.specs.Exceptions.{exception_code}
use Rattle.machine.specs.declared.Exception.{Exception}
use Rattle.machine.specs.declared.Exception.TheVariants.{Range, Alignment, DataOverflow, DataUnderflow, ReturnOverflow, ReturnUnderflow, ReadOnly, Divisor, Illegal, Library}
use Rattle.machine.specs.Commits.{touches}
use Rattle.exceptions.specs.Fixed.{bad_stack, bad_cell, handler_cell}
use Rattle.throws.specs.Throws.{CycleState, cycle_state, handed, handler_of, noted, pushed, throw_of, throwing_of}
use Rattle.machine.specs.declared.Machine.{Machine}
use Rattle.machine.specs.declared.Registers.{Registers}
use Rattle.machine.specs.declared.Access.TheVariants.{Push, Stream}
use Rattle.machine.specs.declared.Ended.{Ended}
use Rattle.machine.specs.declared.Ended.TheVariants.{Went, Threw, Stopped}
use Rattle.machine.proofs.CommitLaws.{good_placed, room_place}
use Rattle.length_laws.proofs.LengthLaws.{noted_length}
use Rattle.pack_layout.specs.Listing.{Listing}
use Rattle.pack_layout.specs.Packing.{image_cells, ep_value, entry_at, Entry}
use Rattle.list_machine.specs.declared.Outside.{Outside}
use Rattle.list_machine.specs.declared.Outside.TheVariants.{WritesImage, NoHandler}
use Rattle.list_machine.specs.ListMachine.{Position, Carried, outside, entered_at, thrown_to, push_of, registers_at, transferred, handled_by, handled, thrown, writes_image}
use Rattle.list_judging.specs.Ways.{to_entry, handler_by, handler_way, handler_after, push_way, throw_way, given_way, along}
use Rattle.list_judging.specs.declared.Way.{Way}
use Rattle.list_judging.specs.declared.Way.TheVariants as way

code_below : (f : Exception) → exception_code f < 2 ^ 32
code_below (Range a) = omega arith
code_below (Alignment a) = omega arith
code_below DataOverflow = omega arith
code_below DataUnderflow = omega arith
code_below ReturnOverflow = omega arith
code_below ReturnUnderflow = omega arith
code_below ReadOnly = omega arith
code_below Divisor = omega arith
code_below Illegal = omega arith
code_below Library = omega arith

-- a store from 4 on leaves the cell at 0
kept : (order : ℕ) (m : List ℕ) (a x : ℕ) → 4 ≤ a → cell_at order (store_cell order m a x) 0 ≡ cell_at order m 0
kept order m a x h =
    cell_alike 0 4 order m (store_cell order m a x) 0 (cell_frame 0 4 order m a x (inr h)) (omega arith) (omega arith)

noted_kept : (machine : Machine) (m : List ℕ) (f : Exception) → cell_at machine.order (noted machine m f) 0 ≡ cell_at machine.order m 0
noted_kept machine m (Range a) = kept machine.order m 12 a.0 (omega arith)
noted_kept machine m (Alignment a) = kept machine.order m 12 a.0 (omega arith)
noted_kept machine m DataOverflow = refl
noted_kept machine m DataUnderflow = refl
noted_kept machine m ReturnOverflow = refl
noted_kept machine m ReturnUnderflow = refl
noted_kept machine m ReadOnly = refl
noted_kept machine m Divisor = refl
noted_kept machine m Illegal = refl
noted_kept machine m Library = refl

-- 'THROW once the code was pushed at a and 'BAD was set
handler_cell_lem : (machine : Machine) (m : List ℕ) (find : ℕ → Entry) (a ep : ℕ) (f : Exception) → a + 4 ≤ length m → a % 4 ≡ 0
    → cell_at machine.order (store_cell machine.order (store_cell machine.order (noted machine m f) a (exception_code f)) bad_cell ep) 0
    ≡ handler_after machine m find a f
handler_cell_lem machine m find a ep f h w = kept machine.order _ bad_cell ep (omega arith) ∙ go (eqb a 0) refl
  where
    go : (b : Bool) → eqb a 0 ≡ b
        → cell_at machine.order (store_cell machine.order (noted machine m f) a (exception_code f)) 0
        ≡ if b (exception_code f) (cell_at machine.order m 0)
    go true q =
        let z : a ≡ 0 = eqb-true a 0 q in
        ap (λ (x : ℕ). cell_at machine.order (store_cell machine.order (noted machine m f) a (exception_code f)) x) (sym z)
        ∙ cell_back machine.order (noted machine m f) a (exception_code f) (rw (noted_length machine m f) h) (code_below f)
    go false q =
        let z = eqb-false a 0 q in
        let u : 4 ≤ a = omega arith in
        kept machine.order (noted machine m f) a (exception_code f) u ∙ noted_kept machine m f

entered_is : (why : Outside) (e : Entry) (q : Position) → along (to_entry why e) q ≡ entered_at why e q
entered_is why (Some i) q = refl
entered_is why None q = refl

choose : (b : Bool) (w : Way) (q : Position) (k : Carried) → along w q ≡ k → along (if b (way.Outside WritesImage) w) q ≡ if (b || false) (outside WritesImage) k
choose true w q k h = refl
choose false w q k h = h

module _ (machine : Machine) (base : ℕ) (l : Listing) (find : ℕ → Entry) (finds : (a : ℕ) → find a ≡ entry_at base l a) where
  pub transferred_is : (why : Outside) (a : ℕ) (q : Position) → along (to_entry why (find a)) q ≡ transferred machine base l why a q
  transferred_is why a q = entered_is why (find a) q ∙ ap (λ (e : Entry). entered_at why e q) (finds a)

  module _ (p : Position) where
    -- a handler whose address is h and whose place was judged
    handed_is : (m : List ℕ) (r : Registers) (e : Ended) (h x : ℕ) (c : Checked)
        → ((t : CycleState) → handled_by machine base l p t e ≡ transferred machine base l NoHandler (cell_at machine.order t.memory handler_cell) (thrown_to p t))
        → cell_at machine.order m handler_cell ≡ h
        → along (handler_by (find h) c) (thrown_to p (handed m r e h (read c x))) ≡ handled machine base l p (handed m r e h (read c x))
    handed_is m r e h x (Ok _) g q =
        transferred_is NoHandler h (thrown_to p (handed m r e h (read good x)))
        ∙ ap (λ (a : ℕ). transferred machine base l NoHandler a (thrown_to p (handed m r e h (read good x)))) (sym q)
        ∙ sym (g (handed m r e h (read good x)))
    handed_is m r e h x (Err f) g q = refl

    handler_is : (m : List ℕ) (r : Registers) (e : Ended) (h : ℕ)
        → ((t : CycleState) → handled_by machine base l p t e ≡ transferred machine base l NoHandler (cell_at machine.order t.memory handler_cell) (thrown_to p t))
        → length m ≡ length p.memory
        → cell_at machine.order (store_cell machine.order m bad_cell r.ep) handler_cell ≡ h
        → along (handler_way machine p.memory find h) (thrown_to p (handler_of machine m r e)) ≡ handled machine base l p (handler_of machine m r e)
    unfolding handler_of fetch_of
    handler_is m r e h g k q =
        rw (q, store_length machine.order m bad_cell r.ep ∙ k)
        (handed_is (store_cell machine.order m bad_cell r.ep) r e h
        (cell_at machine.order (store_cell machine.order m bad_cell r.ep) h)
        (place_of machine one_cell Stream (length p.memory) h) g q)

  module _ (p : Position) (whole : length p.memory % 4 ≡ 0) (least : 16 ≤ length p.memory) where
    -- an item that raises
    pub throw_is : (f : Exception)
        → along (throw_way machine p.memory find base (base + 4 * image_cells l) p.sp f)
        (thrown_to p (throw_of machine p.memory (registers_at machine base l p) f))
        ≡ thrown machine base l p f
    unfolding throw_of touches
    throw_is f = go (place_of machine one_cell Push (length p.memory) (difference p.sp 4)) refl
      where
        go : (c : Checked) → place_of machine one_cell Push (length p.memory) (difference p.sp 4) ≡ c
            → along (push_way machine p.memory find base (base + 4 * image_cells l) (difference p.sp 4) f c)
            (thrown_to p (pushed machine p.memory (registers_at machine base l p) f (difference p.sp 4) c))
            ≡ if (writes_image machine base l (push_of (difference p.sp 4) f c)) (outside WritesImage)
            (handled machine base l p (pushed machine p.memory (registers_at machine base l p) f (difference p.sp 4) c))
        go (Err g) e = refl
        go (Ok _) e =
            let a = difference p.sp 4 in
            let w = good_placed machine one_cell Push (length p.memory) a e in
            let m = store_cell machine.order (noted machine p.memory f) a (exception_code f) in
            let r : Registers = record { ep = ep_value base l p.item; a = 0; sp = a; rp = p.rp } in
            choose (ltb a (base + 4 * image_cells l) && ltb base (a + 4)) (handler_way machine p.memory find (handler_after machine p.memory find a f))
            (thrown_to p (handler_of machine m r (Threw f))) (handled machine base l p (handler_of machine m r (Threw f)))
            (handler_is p m r (Threw f) (handler_after machine p.memory find a f) (λ t. refl)
            (store_length machine.order (noted machine p.memory f) a (exception_code f) ∙ noted_length machine p.memory f)
            (handler_cell_lem machine p.memory find a r.ep f (room_place machine Push (length p.memory) a whole e) (eqb-true (a % 4) 0 w.aligned)))

    -- THROW itself
    pub given_is : along (given_way machine p.memory find p.sp) (thrown_to p (throwing_of machine p.memory (registers_at machine base l p)))
        ≡ handled machine base l p (throwing_of machine p.memory (registers_at machine base l p))
    unfolding throwing_of
    given_is = go (eqb (p.sp % 4) 0)
      where
        go : (b : Bool)
            → along (if b (handler_way machine p.memory find (cell_at machine.order p.memory handler_cell)) (way.Halt bad_stack))
            (thrown_to p (if b (handler_of machine p.memory (registers_at machine base l p) Went) (cycle_state p.memory (registers_at machine base l p) (Stopped bad_stack))))
            ≡ handled machine base l p (if b (handler_of machine p.memory (registers_at machine base l p) Went) (cycle_state p.memory (registers_at machine base l p) (Stopped bad_stack)))
        go true =
            handler_is p p.memory (registers_at machine base l p) Went (cell_at machine.order p.memory handler_cell) (λ t. refl) refl
            (kept machine.order p.memory bad_cell _ (omega arith))
        go false = refl
