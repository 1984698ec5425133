-- Cycles done within a budget: all of it where none stops, and no more once one has stopped.
use mathlib.Core.Path.{◌≡◌, refl, sym, ap, ◌∙◌}
use mathlib.Core.Bool.{Bool, true, false, true≢false}
use Prim.Native.Nat.{ℕ, zero, suc, ◌+◌}
use native.Mathlib.Nat.{zero-add, suc-add}
use Rattle.throws.specs.Throws.{CycleState}
use Rattle.machine.specs.declared.Machine.{Machine}
use Rattle.machine.specs.declared.Ended.{Ended}
use Rattle.machine.specs.declared.Ended.TheVariants.{Went, Threw, Stopped}
use Rattle.cycles.specs.Cycles.{advance, cycles_of}
use Rattle.cycles.specs.Counts.{is_stop, counted, done_of}
use Rattle.cycles.proofs.CycleLaws.{stop_final}
use Rattle.cycles.proofs.RunLaws.{counted_goes, counted_first}

abbrev pub stopped : CycleState → Bool
stopped s = is_stop s.result.ended

counted_stops : (e : Ended) (n : ℕ) → is_stop e ≡ true → counted e n ≡ 1
counted_stops Went n q = absurd (true≢false (sym q))
counted_stops (Threw f) n q = absurd (true≢false (sym q))
counted_stops (Stopped x) n q = refl

module _ (machine : Machine) where
  -- the state in which a run of b cycles from s ends
  abbrev pub end_of : ℕ → CycleState → CycleState
  end_of b s = cycles_of machine (done_of machine b s) s

  -- a machine that has not stopped after some cycles had not stopped before them
  not_before : (n : ℕ) (s : CycleState) → stopped (cycles_of machine n s) ≡ false → stopped s ≡ false
  not_before n s q = go (stopped s) refl
    where
      go : (b : Bool) → stopped s ≡ b → b ≡ false
      go false e = refl
      go true e = absurd (true≢false (sym e ∙ ap stopped (sym (stop_final machine n s e)) ∙ q))

  -- where the first a cycles do not stop, the count goes on after them
  pub done_cut : (a b : ℕ) (s : CycleState) → stopped (cycles_of machine a s) ≡ false
      → done_of machine (a + b) s ≡ a + done_of machine b (cycles_of machine a s)
  unfolding done_of cycles_of
  done_cut zero b s q = rw (zero-add b, zero-add (done_of machine b s))
  done_cut (suc a) b s q =
      rw (suc-add a b, suc-add a (done_of machine b (cycles_of machine (suc a) s)))
      (counted_goes (advance machine s).result.ended (done_of machine (a + b) (advance machine s)) (not_before a (advance machine s) q)
      ∙ ap suc (done_cut a b (advance machine s) q))

  -- a budget of none, and the first cycle of a run, by whether it stops
  pub none_done : (s : CycleState) → done_of machine zero s ≡ zero
  unfolding done_of
  none_done s = refl

  pub none_end : (s : CycleState) → end_of zero s ≡ s
  unfolding done_of cycles_of
  none_end s = refl

  pub first_goes : (b : ℕ) (s : CycleState) → stopped (advance machine s) ≡ false → done_of machine (suc b) s ≡ suc (done_of machine b (advance machine s))
  unfolding done_of
  first_goes b s q = counted_goes (advance machine s).result.ended (done_of machine b (advance machine s)) q

  pub first_stops : (b : ℕ) (s : CycleState) → stopped (advance machine s) ≡ true → done_of machine (suc b) s ≡ 1
  unfolding done_of
  first_stops b s q = counted_stops (advance machine s).result.ended (done_of machine b (advance machine s)) q

  pub one_done : (s : CycleState) → done_of machine 1 s ≡ 1
  unfolding done_of
  one_done s = counted_first (advance machine s).result.ended

  pub two_done : (s : CycleState) → stopped (advance machine s) ≡ false → done_of machine 2 s ≡ 2
  two_done s q = first_goes 1 s q ∙ ap suc (one_done (advance machine s))

  -- where the first cycle goes on, a run ends as one of a cycle less after it; where it stops, there
  pub later_end : (b : ℕ) (s : CycleState) → stopped (advance machine s) ≡ false → end_of (suc b) s ≡ end_of b (advance machine s)
  unfolding cycles_of
  later_end b s e = rw (first_goes b s e)

  pub stop_end : (b : ℕ) (s : CycleState) → stopped (advance machine s) ≡ true → end_of (suc b) s ≡ advance machine s
  unfolding cycles_of
  stop_end b s e = rw (first_stops b s e)

  -- a run that does not end in a stop has done its whole budget
  pub spent_all : (b : ℕ) (s : CycleState) → stopped (end_of b s) ≡ false → done_of machine b s ≡ b
  spent_all zero s q = none_done s
  spent_all (suc b) s q = go (stopped (advance machine s)) refl (spent_all b (advance machine s))
    where
      go : (t : Bool) → stopped (advance machine s) ≡ t → (stopped (end_of b (advance machine s)) ≡ false → done_of machine b (advance machine s) ≡ b)
          → done_of machine (suc b) s ≡ suc b
      go true e rest = absurd (true≢false (sym e ∙ ap stopped (sym (stop_end b s e)) ∙ q))
      go false e rest = first_goes b s e ∙ ap suc (rest (rw (later_end b s e) at q))

  -- a run that ends in a stop does as many cycles with any more budget
  pub stops_again : (b c : ℕ) (s : CycleState) → stopped s ≡ false → stopped (end_of b s) ≡ true → done_of machine (b + c) s ≡ done_of machine b s
  stops_again zero c s h q = absurd (true≢false (sym q ∙ ap stopped (none_end s) ∙ h))
  stops_again (suc b) c s h q = rw (suc-add b c) (go (stopped (advance machine s)) refl (stops_again b c (advance machine s)))
    where
      go : (t : Bool) → stopped (advance machine s) ≡ t
          → (stopped (advance machine s) ≡ false → stopped (end_of b (advance machine s)) ≡ true
          → done_of machine (b + c) (advance machine s) ≡ done_of machine b (advance machine s))
          → done_of machine (suc (b + c)) s ≡ done_of machine (suc b) s
      go true e rest = first_stops (b + c) s e ∙ sym (first_stops b s e)
      go false e rest = first_goes (b + c) s e ∙ ap suc (rest e (rw (later_end b s e) at q)) ∙ sym (first_goes b s e)
