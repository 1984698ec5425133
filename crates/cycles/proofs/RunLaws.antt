-- The loop of a run: the cycles done so far, and what is still to be counted.
use mathlib.Core.Path.{◌≡◌, refl, sym, ◌∙◌, ap}
use mathlib.Core.Bool.{true, false, true≢false}
use mathlib.Core.List.{List}
use Prim.Native.Nat.{ℕ, zero, suc, ◌+◌, ◌-◌, ◌<◌, ◌≤◌}
use native.Mathlib.Omega.{arith}
use lib.ListN.{length}
use borrow.Author.Tests.{eqb-true, eqb-false}
use Rattle.machine.specs.Commits.{stepped}
use Rattle.throws.specs.Throws.{CycleState, with_result, finish_of}
use Rattle.machine.specs.declared.Machine.{Machine}
use Rattle.machine.specs.declared.CycleResult.{CycleResult}
use Rattle.machine.specs.declared.Step.{Step}
use Rattle.machine.specs.declared.Outcome.TheVariants as outcome
use Rattle.machine.specs.declared.Ended.{Ended}
use Rattle.machine.specs.declared.Ended.TheVariants.{Went, Threw, Stopped}
use Rattle.cycles.specs.Cycles.{cycle_of, advance, cycles_of}
use Rattle.cycles.specs.Running.{Running, Looping, Stalled}
use Rattle.cycles.specs.Counts.{is_stop, is_last, counted, done_of, begun}
use Rattle.machine.specs.declared.Registers.{Registers}
use Rattle.cycles.proofs.CycleLaws.{cycles_suc, cycles_cut, goes}

-- a run that has come to its end: what is left and what was done make the budget, and the state is that after what was done
pub record Done (machine : Machine) (m0 : List ℕ) (t0 : CycleResult) (budget left : ℕ) (m : List ℕ) (t : CycleResult) : Type 0 where
  pub count : left + done_of machine budget (with_result m0 t0) ≡ budget
  pub state : with_result m t ≡ cycles_of machine (done_of machine budget (with_result m0 t0)) (with_result m0 t0)

counted_last : (e : Ended) (left : ℕ) (machine : Machine) (s : CycleState) → is_last e left ≡ true → counted e (done_of machine left s) ≡ 1
unfolding done_of
counted_last Went left machine s q = absurd (true≢false (sym q))
counted_last (Threw f) left machine s q = rw (eqb-true left 0 q)
counted_last (Stopped x) left machine s q = refl

-- a cycle after which the run goes on
not_last : (e : Ended) (left : ℕ) → is_last e left ≡ false → (is_stop e ≡ false) × (left ≡ 0 → e ≡ Went)
not_last Went left q = (refl, λ z. refl)
not_last (Threw f) left q = (refl, λ z. absurd (eqb-false left 0 q z))
not_last (Stopped x) left q = absurd (true≢false q)

pub counted_goes : (e : Ended) (n : ℕ) → is_stop e ≡ false → counted e n ≡ suc n
counted_goes Went n q = refl
counted_goes (Threw f) n q = refl
counted_goes (Stopped x) n q = absurd (true≢false q)

module _ (machine : Machine) (m0 : List ℕ) (t0 : CycleResult) (budget : ℕ) where
  pub run_begins : t0.ended ≡ Went → Running machine m0 t0 budget m0 t0 budget
  unfolding cycles_of
  run_begins q =
      let z : budget - budget ≡ 0 = omega arith in
      record { within = omega arith; going = ap is_stop q; spent = λ e. q; long = refl; here = rw z; ahead = rw z (omega arith) }

  module _ (m : List ℕ) (t : CycleResult) (left : ℕ) (s : Running machine m0 t0 budget m t (suc left)) (m2 : List ℕ) (t2 : CycleResult)
      (e : with_result m2 t2 ≡ cycle_of machine m t.registers) where
    next_is : advance machine (with_result m t) ≡ with_result m2 t2
    next_is = goes machine (with_result m t) s.going ∙ sym e

    after : with_result m2 t2 ≡ cycles_of machine (budget - left) (with_result m0 t0)
    after =
        let z : budget - left ≡ suc (budget - suc left) = omega (arith, s.within) in
        rw z (sym next_is ∙ ap (advance machine) s.here ∙ sym (cycles_suc machine (budget - suc left) (with_result m0 t0)))

    count_is : done_of machine (suc left) (with_result m t) ≡ counted t2.ended (done_of machine left (with_result m2 t2))
    unfolding done_of
    count_is = rw next_is

    pub run_stops : is_last t2.ended left ≡ true → Done machine m0 t0 budget left m2 t2
    run_stops q =
        let c : done_of machine (suc left) (with_result m t) ≡ 1 = count_is ∙ counted_last t2.ended left machine (with_result m2 t2) q in
        let d : done_of machine budget (with_result m0 t0) ≡ budget - left = s.ahead ∙ rw c (let w = s.within in omega arith) in
        record { count = rw d (let w = s.within in omega arith); state = rw d after }

    pub run_goes_on : length m2 ≡ length m → is_last t2.ended left ≡ false → Running machine m0 t0 budget m2 t2 left
    run_goes_on l q =
        record {
          within = omega (arith, s.within);
          going = (not_last t2.ended left q).0;
          spent = (not_last t2.ended left q).1;
          long = l ∙ s.long;
          here = after;
          ahead =
              s.ahead
              ∙ rw (count_is ∙ counted_goes t2.ended _ (not_last t2.ended left q).0) (let w = s.within in omega arith);
        }

  pub run_ends : (m : List ℕ) (t : CycleResult) → Running machine m0 t0 budget m t 0
      → Done machine m0 t0 budget 0 m (record { registers = t.registers; ended = Went })
  unfolding done_of
  run_ends m t s =
      let z : budget - 0 ≡ budget = omega arith in
      let d : done_of machine budget (with_result m0 t0) ≡ budget = s.ahead ∙ rw z (omega arith) in
      record { count = rw d (omega arith); state = rw d (rw (← s.spent refl) (rw z at s.here)) }

-- what the loop keeps: it carries the registers from cycle to cycle, and not how the last cycle ended
module _ (machine : Machine) (m0 : List ℕ) (r0 : Registers) (budget : ℕ) where
  pub loop_begins : Looping machine m0 r0 budget m0 r0 budget
  loop_begins = record { last = Went; running = run_begins machine m0 _ budget refl }

  module _ (m : List ℕ) (r : Registers) (k : ℕ) (s : Looping machine m0 r0 budget m r k) where
    module _ (h : 0 < k) (m2 : List ℕ) (t2 : CycleResult) (e : with_result m2 t2 ≡ cycle_of machine m r) where
      earlier : Running machine m0 (record { registers = r0; ended = Went }) budget m (record { registers = r; ended = s.last }) (suc (k - 1))
      earlier = let n : k ≡ suc (k - 1) = omega arith in rw n at s.running

      pub stops_at : is_last t2.ended (k - 1) ≡ true
          → Done machine m0 (record { registers = r0; ended = Went }) budget (k - 1) m2 t2
      stops_at q = run_stops machine m0 _ budget m _ (k - 1) earlier m2 t2 e q

      pub loops_at : length m2 ≡ length m → is_last t2.ended (k - 1) ≡ false → Looping machine m0 r0 budget m2 t2.registers (k - 1)
      loops_at l q =
          record { last = t2.ended; running = run_goes_on machine m0 _ budget m _ (k - 1) earlier m2 t2 e l q }

    pub ends_at : k ≤ 0
        → Done machine m0 (record { registers = r0; ended = Went }) budget 0 m (record { registers = r; ended = Went })
    ends_at h = let n : k ≡ 0 = omega arith in run_ends machine m0 _ budget m _ (rw n at s.running)

-- an instruction that asks for nothing more has ended its cycle
pub went : (machine : Machine) (m : List ℕ) (s : Step) → s.outcome ≡ outcome.Went
    → with_result m (record { registers = s.registers; ended = Went }) ≡ finish_of machine (stepped m s)
unfolding finish_of
went machine m s q = rw q

pub counted_first : (e : Ended) → counted e 0 ≡ 1
counted_first Went = refl
counted_first (Threw f) = refl
counted_first (Stopped x) = refl

-- a run with a budget of one is a cycle
pub one_cycle : (machine : Machine) (m : List ℕ) (r : Registers) (s : CycleState)
    → s ≡ cycles_of machine (done_of machine 1 (begun m r)) (begun m r) → s ≡ cycle_of machine m r
unfolding done_of cycles_of
one_cycle machine m r s q =
    (rw (counted_first (advance machine (begun m r)).result.ended) at q) ∙ goes machine (begun m r) refl

-- a run may be taken up where it stands, as one that begins there
module _ (machine : Machine) (m0 : List ℕ) (r0 : Registers) (budget : ℕ) (m : List ℕ) (r : Registers) (left : ℕ)
    (a : Looping machine m0 r0 budget m r left) where
  abbrev stood : CycleState
  stood = with_result m (record { registers = r; ended = a.last })

  abbrev afresh : CycleState
  afresh = with_result m (record { registers = r; ended = Went })

  one_way : advance machine stood ≡ advance machine afresh
  one_way = goes machine stood a.running.going ∙ sym (goes machine afresh refl)

  counts_one : (k : ℕ) → done_of machine k stood ≡ done_of machine k afresh
  unfolding done_of
  counts_one zero = refl
  counts_one (suc k) = rw one_way

  at_start : cycles_of machine 0 afresh ≡ afresh
  unfolding cycles_of
  at_start = refl

  leads_one : (n : ℕ) → cycles_of machine (suc n) stood ≡ cycles_of machine (suc n) afresh
  unfolding cycles_of
  leads_one n = rw one_way

  onward : (n : ℕ) → cycles_of machine (suc n) afresh ≡ cycles_of machine ((budget - left) + suc n) (with_result m0 (record { registers = r0; ended = Went }))
  onward n =
      let h : cycles_of machine (suc n) stood ≡ cycles_of machine (suc n) (cycles_of machine (budget - left) (with_result m0 (record { registers = r0; ended = Went }))) =
      ap (cycles_of machine (suc n)) a.running.here in
      sym (leads_one n) ∙ h ∙ sym (cycles_cut machine (budget - left) (suc n) (with_result m0 (record { registers = r0; ended = Went })))

  pub taken_up : (m1 : List ℕ) (r1 : Registers) (k : ℕ) → Looping machine m r left m1 r1 k → Looping machine m0 r0 budget m1 r1 k
  taken_up m1 r1 k b = go (left - k) refl
    where
      go : (n : ℕ) → left - k ≡ n → Looping machine m0 r0 budget m1 r1 k
      go zero e =
          let n : k ≡ left = omega (arith, e, b.running.within) in
          let h : with_result m1 (record { registers = r1; ended = b.last }) ≡ afresh = b.running.here ∙ rw e at_start in
          let hm : m1 ≡ m = ap (λ (s : CycleState). s.memory) h in
          let hr : r1 ≡ r = ap (λ (s : CycleState). s.result.registers) h in
          rw (n, hm, hr) a
      go (suc n) e =
          let w : k ≤ budget = omega (arith, a.running.within, b.running.within) in
          let split : budget - k ≡ (budget - left) + suc n = omega (arith, e, a.running.within, b.running.within) in
          record {
            last = b.last;
            running = record {
              within = w;
              going = b.running.going;
              spent = b.running.spent;
              long = b.running.long ∙ a.running.long;
              here = rw split (b.running.here ∙ rw e (onward n));
              ahead =
                  let c : done_of machine left stood ≡ (left - k) + done_of machine k (with_result m1 (record { registers = r1; ended = b.last })) =
                  counts_one left ∙ b.running.ahead in
                  rw split (a.running.ahead ∙ rw (c, e) (omega arith));
            };
          }
