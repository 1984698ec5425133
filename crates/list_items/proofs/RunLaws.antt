-- The loop of a run: the items done so far, and that a run that is over stays so.
use mathlib.Core.Path.{◌≡◌, refl, sym, ap, ◌∙◌}
use mathlib.Core.Bool.{Bool, true, false, ◌&&◌, true≢false, false≢true}
use mathlib.Core.List.{List}
use Prim.Native.Nat.{ℕ, ◌+◌, ◌*◌, ◌-◌, ◌≤◌, ◌<◌}
use native.Mathlib.Numerals.{add-one}
use native.Mathlib.Omega.{arith}
use lib.Dec.{ltb}
use lib.ListN.{length}
use Rattle.cell.specs.Choice.{if}
use Rattle.machine.specs.declared.Machine.{Machine}
use Rattle.pack_layout.specs.Listing.{Listing, listed}
use Rattle.list_machine.specs.ListMachine.{carry_out, cycles_at}
use Rattle.list_machine.specs.declared.Outside.TheVariants.{PastEnd}
use Rattle.list_machine.specs.Runs.{Course, goes_on, stood_outside, is_over as over, Run, further_by, further, run_of, resuming}
use Rattle.list_machine.proofs.Cutting.{run_cut, run_over, run_inside, resuming_inside}
use Rattle.list_tables.specs.Tables.{opens_in, Settled}
use Rattle.list_tables.specs.declared.Image.{Image}
use Rattle.list_tables.specs.declared.ItemRow.{ItemRow}
use Rattle.list_proposing.specs.Stands.{position_of}
use Rattle.list_proposing.specs.declared.Stand.{Stand}
use Rattle.list_counting.specs.Outcomes.{carried_as, Left, left, leaves, memory_after, course_of, run_as, begun, counted, is_over}
use Rattle.list_counting.specs.declared.Carried as code
use Rattle.list_counting.specs.declared.Carried.TheVariants.{On, Stopped, Outside}
use Rattle.list_counting.specs.declared.Ending.{Ending}
use Rattle.list_counting.specs.declared.Ending.TheVariants as ending
use Rattle.list_counting.specs.declared.ItemRun.{ItemRun}

module _ (machine : Machine) (base : ℕ) (l : Listing) where
  -- one item more, by what it came to
  further_by_lem : (m m2 : List ℕ) (r : ItemRun) (k : ℕ) (c : code.Carried) → k ≡ cycles_at machine base l (position_of m r.stand)
      → m2 ≡ memory_after m (carried_as m2 c)
      → run_as m2 (counted r k c) ≡ further_by machine base l (run_as m r) (carried_as m2 c)
  further_by_lem m m2 r k (On s) e q = rw (add-one r.items, e)
  further_by_lem m m2 r k (Stopped s x) e q = rw (add-one r.items, e)
  further_by_lem m m2 r k (Outside why) e q = rw q

  further_is : (m : List ℕ) (r : ItemRun) → r.ending ≡ ending.GoesOn
      → further machine base l (run_as m r) ≡ further_by machine base l (run_as m r) (carry_out machine base l (position_of m r.stand))
  unfolding further
  further_is m r q = rw q

-- a run of the code that is over is one, and any other goes on
over_course : (e : Ending) → is_over e ≡ true → over (course_of e) ≡ true
over_course ending.GoesOn o = absurd (false≢true o)
over_course (ending.Stopped x) o = refl
over_course (ending.Outside why) o = refl

going : (e : Ending) → is_over e ≡ false → e ≡ ending.GoesOn
going ending.GoesOn o = refl
going (ending.Stopped x) o = absurd (true≢false o)
going (ending.Outside why) o = absurd (true≢false o)

-- an item is one more at the most, of two cycles at the most
more_items : (r : ItemRun) (k : ℕ) (c : code.Carried) → (counted r k c).items ≤ r.items + 1
more_items r k (On s) = omega arith
more_items r k (Stopped s x) = omega arith
more_items r k (Outside why) = omega arith

more_cycles : (r : ItemRun) (k : ℕ) (c : code.Carried) → k ≤ 2 → r.cycles ≤ 2 * r.items → (counted r k c).cycles ≤ 2 * (counted r k c).items
more_cycles r k (On s) h i = omega arith
more_cycles r k (Stopped s x) h i = omega arith
more_cycles r k (Outside why) h i = i

-- what the loop keeps, once it has been gone through k times
pub record Going (machine : Machine) (base : ℕ) (l : Listing) (m0 : List ℕ) (start : Stand) (m : List ℕ) (r : ItemRun) (k : ℕ) : Type 0 where
  pub long : length m ≡ length m0
  pub few : r.items ≤ k
  pub low : r.cycles ≤ 2 * r.items
  pub here : run_as m r ≡ run_of machine base l k (resuming l (position_of m0 start))

module _ (machine : Machine) (base : ℕ) (l : Listing) (m0 : List ℕ) (start : Stand) where
  -- where the machine stands when it is started: in front of an item, or past the end
  begun_course : (b : Bool) → course_of (if b ending.GoesOn (ending.Outside PastEnd)) ≡ if b goes_on (stood_outside PastEnd)
  begun_course true = refl
  begun_course false = refl

  pub run_begins : (r : ItemRun) → r ≡ begun l.count start → Going machine base l m0 start m0 r 0
  unfolding run_of
  run_begins r e =
      rw e
      (record {
        long = refl;
        few = omega arith;
        low = omega arith;
        here = ap (λ (c : Course). record { position = position_of m0 start; items = 0; cycles = 0; course = c }) (begun_course (ltb start.item.0 l.count));
      })

  module _ (m : List ℕ) (r : ItemRun) (k : ℕ) (g : Going machine base l m0 start m r k) where
    -- over before as many items as are asked for
    pub run_stops : (items : ℕ) → k ≤ items → is_over r.ending ≡ true → run_as m r ≡ run_of machine base l items (resuming l (position_of m0 start))
    run_stops items h o =
        sym (run_over machine base l (items - k) (run_as m r) (over_course r.ending o))
        ∙ ap (run_of machine base l (items - k)) g.here
        ∙ sym (run_cut machine base l k (items - k) (resuming l (position_of m0 start)))
        ∙ ap (λ (n : ℕ). run_of machine base l n (resuming l (position_of m0 start))) (let t : k + (items - k) ≡ items = omega arith in t)

    module _ (o : is_over r.ending ≡ false) where
      goes : (run_of machine base l k (resuming l (position_of m0 start))).course ≡ goes_on
      goes = ap (λ (x : Run). x.course) (sym g.here) ∙ ap course_of (going r.ending o)

      -- a run that goes on stands in front of an item
      pub run_item : r.stand.item.0 < l.count
      run_item =
          rw (ap (λ (x : Run). x.position.item) g.here)
          (run_inside machine base l k (resuming l (position_of m0 start)) (resuming_inside machine base l (position_of m0 start)) goes)

      pub run_goes_on : (m2 : List ℕ) (n : ℕ) (c : code.Carried) (r2 : ItemRun) → n ≡ cycles_at machine base l (position_of m r.stand) → n ≤ 2
          → left m2 c ≡ leaves m (carry_out machine base l (position_of m r.stand)) → r2 ≡ counted r n c → length m2 ≡ length m
          → Going machine base l m0 start m2 r2 (k + 1)
      unfolding run_of
      run_goes_on m2 n c r2 cycles w carried more q =
          let came : carried_as m2 c ≡ carry_out machine base l (position_of m r.stand) = ap (λ (x : Left). x.carried) carried in
          let kept : m2 ≡ memory_after m (carried_as m2 c) = ap (λ (x : Left). x.memory) carried ∙ ap (memory_after m) (sym came) in
          rw (more, add-one k)
          (record {
            long = q ∙ g.long;
            few = omega (arith, more_items r n c, g.few);
            low = more_cycles r n c w g.low;
            here =
                further_by_lem machine base l m m2 r n c cycles kept
                ∙ ap (further_by machine base l (run_as m r)) came
                ∙ sym (further_is machine base l m r (going r.ending o))
                ∙ ap (further machine base l) g.here;
          })

-- the cycles of an item, read from the table
pub cycles_is : (kinds operands : List ℕ) (table : List ItemRow) (image : Image) → Settled kinds operands table image → (machine : Machine) (m : List ℕ) (s : Stand)
    → s.item.0 < length kinds → (k : ℕ) → k ≡ if (s.ran && opens_in table s.item.0) 2 1
    → k ≡ cycles_at machine image.base.0 (listed kinds operands) (position_of m s)
cycles_is kinds operands table image t machine m s h k e =
    e ∙ ap (λ (b : Bool). if (s.ran && b) 2 1) (t.rows s.item.0 h).opens

pub few_cycles : (b : Bool) (k : ℕ) → k ≡ if b 2 1 → k ≤ 2
few_cycles true k e = omega arith
few_cycles false k e = omega arith
