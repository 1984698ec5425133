-- Any number of cycles: cutting, and that a stop is final.
use mathlib.Core.Path.{◌≡◌, refl, sym}
use Prim.Native.Nat.{ℕ, zero, suc, ◌+◌}
use native.Mathlib.Nat.{zero-add, suc-add}
use mathlib.Core.Bool.{true, false, true≢false}
use Rattle.throws.specs.Throws.{CycleState}
use Rattle.machine.specs.declared.Machine.{Machine}
use Rattle.machine.specs.declared.Ended.{Ended}
use Rattle.machine.specs.declared.Ended.TheVariants.{Went, Threw, Stopped}
use Rattle.cycles.specs.Cycles.{cycle_of, advanced, advance, cycles_of}
use Rattle.cycles.specs.Counts.{is_stop}

module _ (machine : Machine) where
  -- one cycle more, at the end
  pub cycles_suc : (n : ℕ) (s : CycleState) → cycles_of machine (suc n) s ≡ advance machine (cycles_of machine n s)
  unfolding cycles_of
  cycles_suc zero s = refl
  cycles_suc (suc n) s = cycles_suc n (advance machine s)

  -- a + b cycles are a cycles, then b
  pub cycles_cut : (a b : ℕ) (s : CycleState) → cycles_of machine (a + b) s ≡ cycles_of machine b (cycles_of machine a s)
  unfolding cycles_of
  cycles_cut zero b s = rw zero-add
  cycles_cut (suc a) b s = rw suc-add (cycles_cut a b (advance machine s))

  advanced_stop : (s : CycleState) (e : Ended) → is_stop e ≡ true → advanced machine s e ≡ s
  advanced_stop s Went q = absurd (true≢false (sym q))
  advanced_stop s (Threw f) q = absurd (true≢false (sym q))
  advanced_stop s (Stopped x) q = refl

  pub stop_stays : (s : CycleState) → is_stop s.result.ended ≡ true → advance machine s ≡ s
  unfolding advance
  stop_stays s q = advanced_stop s s.result.ended q

  -- a stop is final
  pub stop_final : (n : ℕ) (s : CycleState) → is_stop s.result.ended ≡ true → cycles_of machine n s ≡ s
  unfolding cycles_of
  stop_final zero s q = refl
  stop_final (suc n) s q = rw (stop_stays s q) (stop_final n s q)

  advanced_goes : (s : CycleState) (e : Ended) → is_stop e ≡ false → advanced machine s e ≡ cycle_of machine s.memory s.result.registers
  advanced_goes s Went q = refl
  advanced_goes s (Threw f) q = refl
  advanced_goes s (Stopped x) q = absurd (true≢false q)

  -- a machine that has not stopped does a cycle
  pub goes : (s : CycleState) → is_stop s.result.ended ≡ false → advance machine s ≡ cycle_of machine s.memory s.result.registers
  unfolding advance
  goes s q = advanced_goes s s.result.ended q
