-- The whole run: item by item, the processor's counted cycles end where the list machine stands.
use mathlib.Core.Path.{◌≡◌, refl, sym, ap, subst, ◌∙◌}
use mathlib.Core.Bool.{Bool, true, false, ◌&&◌, true≢false}
use mathlib.Core.List.{List}
use Prim.Native.Nat.{ℕ, zero, suc, ◌+◌, ◌*◌, ◌<◌}
use native.Mathlib.Omega.{arith}
use borrow.Author.Tests.{lt-ltb}
use Rattle.cell.specs.Choice.{if}
use Rattle.cell.specs.Memory.{cell_at}
use Rattle.cell.specs.Shift.{asr8}
use Rattle.cell.proofs.BooleanLaws.{both_true}
use Rattle.throws.specs.Throws.{CycleState, cycle_state, finish_of}
use Rattle.machine.specs.declared.Machine.{Machine}
use Rattle.machine.specs.declared.Registers.{Registers}
use Rattle.machine.specs.declared.Ended.{Ended}
use Rattle.machine.specs.declared.Ended.TheVariants.{Went, Threw, Stopped}
use Rattle.instruction.specs.Dispatch.{decode_of, execute_of}
use Rattle.cycles.specs.Cycles.{cycle_of, advance, cycles_of}
use Rattle.cycles.specs.Counts.{is_stop, begun, done_of}
use Rattle.cycles.proofs.CycleLaws.{cycles_cut, goes}
use Rattle.pack_layout.specs.Listing.{Listing}
use Rattle.pack_layout.specs.Layout.{cur, opens}
use Rattle.pack_layout.specs.Packing.{layout, address_of, ep_value, register, Legal}
use Rattle.pack_layout.proofs.Listing.{some_item}
use Rattle.pack_layout.proofs.Packing.{at_inside}
use Rattle.list_machine.specs.ListMachine.{Position, Carried, on, stopped, outside, carry_out, cycles_at}
use Rattle.list_machine.specs.Runs.{Course, goes_on, stopped_by, stood_outside, Run, further_by, further_in, further, run_of, beginning}
use Rattle.demand3.specs.Demand3.{Holds, first_registers, Agree, Demand3, running, stop_of, stop_in}
use Rattle.demand3.proofs.Image.{at_item, next_enters}
use Rattle.demand3.proofs.Meets.{Meets, GoesOn, Stops, Sound, standing, registers_for}
use Rattle.demand3.proofs.Agreement.{item_meets}
use Rattle.processor_laws.proofs.DoneLaws.{one_done, two_done, done_cut}

stands_sp : (b : Bool) (base : ℕ) (l : Listing) (p : Position) → (standing b base l p).sp ≡ p.sp
stands_sp true base l p = refl
stands_sp false base l p = refl

stands_rp : (b : Bool) (base : ℕ) (l : Listing) (p : Position) → (standing b base l p).rp ≡ p.rp
stands_rp true base l p = refl
stands_rp false base l p = refl

module _ (machine : Machine) (base : ℕ) (l : Listing) (ok : Legal base l) where
  -- the cycle before an item that opens a cell and was run on into
  enters_item : (m : List ℕ) (i sp rp : ℕ) → Holds machine base l m → i < l.count → opens (layout l) i ≡ true
      → cycle_of machine m (record { ep = address_of base l i; a = 0; sp = sp; rp = rp }) ≡ cycle_state m (at_item base l i sp rp) Went
  unfolding cycle_of execute_of decode_of finish_of
  enters_item m i sp rp holds h o = next_enters machine base l ok m holds i sp rp (asr8 0) h o

  -- the cycles of one item, by whether a NEXT comes before it
  module _ (p : Position) (e : Ended) (going : is_stop e ≡ false) (sound : Sound machine base l p) where
    abbrev from : Bool → CycleState
    from b = cycle_state p.memory (standing b base l p) e

    cycle_at : Meets machine base l (carry_out machine base l p) (cycle_of machine p.memory (at_item base l p.item p.sp p.rp))
    cycle_at = item_meets machine base l ok p.item sound.item p.ran p.memory p.sp p.rp sound.holds

    first_is : opens (layout l) p.item ≡ true → advance machine (from true) ≡ cycle_state p.memory (at_item base l p.item p.sp p.rp) Went
    first_is o = goes machine (from true) going ∙ enters_item p.memory p.item p.sp p.rp sound.holds sound.item o

    meets_by : (b : Bool) → (b ≡ true → opens (layout l) p.item ≡ true)
        → Meets machine base l (carry_out machine base l p) (cycles_of machine (if b 2 1) (from b))
    unfolding cycles_of
    meets_by false o = rw (goes machine (from false) going) cycle_at
    meets_by true o = rw (first_is (o refl), goes machine (cycle_state p.memory (at_item base l p.item p.sp p.rp) Went) refl) cycle_at

    exact_by : (b : Bool) → (b ≡ true → opens (layout l) p.item ≡ true) → done_of machine (if b 2 1) (from b) ≡ if b 2 1
    exact_by false o = one_done machine (from false)
    exact_by true o = two_done machine (from true) (ap (λ (t : CycleState). is_stop t.result.ended) (first_is (o refl)))

  -- where a run stands: the processor at the item, or stopped
  abbrev Stands : Course → Position → CycleState → Type 0
  Stands goes_on p t = GoesOn machine base l p t
  Stands (stopped_by x) p t = Stops x p t
  Stands (stood_outside why) p t = GoesOn machine base l p t

  record Reached (s : CycleState) (r : Run) : Type 0 where
    stands : Stands r.course r.position (cycles_of machine r.cycles s)
    exact : done_of machine r.cycles s ≡ r.cycles

  module _ (s : CycleState) (r : Run) (reached : Reached s r) where
    abbrev now : CycleState
    now = cycles_of machine r.cycles s

    abbrev counted : ℕ
    counted = cycles_at machine base l r.position

    module _ (g : GoesOn machine base l r.position now) where
      opens_there : (r.position.ran && opens (layout l) r.position.item) ≡ true → opens (layout l) r.position.item ≡ true
      opens_there e = (both_true r.position.ran (opens (layout l) r.position.item) e).1

      now_is : now ≡ cycle_state r.position.memory (registers_for base l r.position) now.result.ended
      now_is = ap (λ (m : List ℕ). cycle_state m now.result.registers now.result.ended) g.memory
          ∙ ap (λ (x : Registers). cycle_state r.position.memory x now.result.ended) g.registers

      meets_then : Meets machine base l (carry_out machine base l r.position) (cycles_of machine (r.cycles + counted) s)
      meets_then =
          rw (cycles_cut machine r.cycles counted s, now_is)
          (meets_by r.position now.result.ended g.goes g.sound (r.position.ran && opens (layout l) r.position.item) opens_there)

      exact_then : done_of machine (r.cycles + counted) s ≡ r.cycles + counted
      exact_then =
          done_cut machine r.cycles counted s g.goes
          ∙ ap (λ (n : ℕ). r.cycles + n)
          (ap (done_of machine counted) now_is
          ∙ exact_by r.position now.result.ended g.goes g.sound (r.position.ran && opens (layout l) r.position.item) opens_there)

      carried_reached : (c : Carried) → Meets machine base l c (cycles_of machine (r.cycles + counted) s) → Reached s (further_by machine base l r c)
      carried_reached (on p) h = record { stands = h; exact = exact_then }
      carried_reached (stopped x p) h = record { stands = h; exact = exact_then }
      carried_reached (outside why) h = record { stands = g; exact = reached.exact }

    further_reached : Reached s (further machine base l r)
    unfolding further
    further_reached = go r.course refl
      where
        goes_then : r.course ≡ goes_on → GoesOn machine base l r.position now
        goes_then q = subst (λ (c : Course). Stands c r.position now) q reached.stands

        go : (c : Course) → r.course ≡ c → Reached s (further_in machine base l r c)
        go goes_on q = carried_reached (goes_then q) (carry_out machine base l r.position) (meets_then (goes_then q))
        go (stopped_by x) q = reached
        go (stood_outside why) q = reached

  run_reached : (k : ℕ) (s : CycleState) (r : Run) → Reached s r → Reached s (run_of machine base l k r)
  unfolding run_of
  run_reached zero s r h = h
  run_reached (suc k) s r h = further_reached s (run_of machine base l k r) (run_reached k s r h)

  -- at the beginning: item 0 stands at the base
  first_ep : base + 4 ≡ ep_value base l 0
  unfolding cur
  first_ep = omega arith

  first_a : (m : List ℕ) → Holds machine base l m → cell_at machine.order m base ≡ register base l 0
  unfolding cur
  first_a m holds =
      ap (cell_at machine.order m) (let e : base ≡ base + 4 * 0 = omega arith in e)
      ∙ holds.cells 0 (omega (arith, at_inside base l ok 0 (some_item l ok.input).0))

  begins : (m : List ℕ) (sp rp : ℕ) → Holds machine base l m → Reached (begun m (first_registers machine base m sp rp)) (beginning l m sp rp)
  unfolding cycles_of done_of
  begins m sp rp holds =
      rw (lt-ltb 0 l.count (some_item l ok.input).0)
      (record {
        stands =
            record {
              memory = refl;
              registers = rw (first_ep, first_a m holds);
              goes = refl;
              sound = record { item = (some_item l ok.input).0; holds = holds };
            };
        exact = refl;
      })

  -- a run and the processor agree
  agrees : (s : CycleState) (r : Run) → Reached s r → Agree machine s r
  agrees s r h = go r.course refl h.stands
    where
      running_still : (e : Ended) → is_stop e ≡ false → stop_of e ≡ running
      running_still Went q = refl
      running_still (Threw f) q = refl
      running_still (Stopped x) q = absurd (true≢false q)

      going : GoesOn machine base l r.position (cycles_of machine r.cycles s) → stop_in r.course ≡ running → Agree machine s r
      going g q =
          record {
            memory = g.memory;
            sp = ap (λ (x : Registers). x.sp) g.registers ∙ stands_sp (r.position.ran && opens (layout l) r.position.item) base l r.position;
            rp = ap (λ (x : Registers). x.rp) g.registers ∙ stands_rp (r.position.ran && opens (layout l) r.position.item) base l r.position;
            stop = running_still (cycles_of machine r.cycles s).result.ended g.goes ∙ sym q;
            exact = h.exact;
          }

      go : (c : Course) → r.course ≡ c → Stands r.course r.position (cycles_of machine r.cycles s) → Agree machine s r
      go goes_on q g = going (subst (λ (c : Course). Stands c r.position (cycles_of machine r.cycles s)) q g) (ap stop_in q)
      go (stood_outside why) q g = going (subst (λ (c : Course). Stands c r.position (cycles_of machine r.cycles s)) q g) (ap stop_in q)
      go (stopped_by x) q g =
          let t = subst (λ (c : Course). Stands c r.position (cycles_of machine r.cycles s)) q g in
          record { memory = t.memory; sp = t.sp; rp = t.rp; stop = ap stop_of t.ended ∙ sym (ap stop_in q); exact = h.exact }

-- demand 3
pub demand3 : Demand3
demand3 machine base l m sp rp k ok holds =
    agrees machine base l ok (begun m (first_registers machine base m sp rp)) (run_of machine base l k (beginning l m sp rp))
    (run_reached machine base l ok k (begun m (first_registers machine base m sp rp)) (beginning l m sp rp) (begins machine base l ok m sp rp holds))
