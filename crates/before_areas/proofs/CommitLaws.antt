-- A commit makes the same step, but for the name of the fault that it raises.
use mathlib.Core.Path.{◌≡◌}
use mathlib.Core.List.{List, [], ◌∷◌}
use Prim.Native.Nat.{ℕ}
use lib.ListN.{length}
use Rattle.cell.specs.Refusals.{Lent}
use Rattle.machine.specs.Places.{no_table, unbounded}
use Rattle.machine.specs.Effects.{Store, Effect}
use Rattle.machine.specs.Commits.{places_of, commit_of}
use Rattle.machine.specs.declared.Registers.{Registers}
use Rattle.before_tables.proofs.EffectLaws.{Judges, good, Asks, acts, raises, firsts}
use Rattle.before_tables.proofs.CommitLaws.{Steps, faults, same_carried}
use Rattle.before_areas.specs.Commits.{places_before, commit_before}
use Rattle.before_areas.specs.Throws.{thrown_before}
use Rattle.before_areas.proofs.PlaceLaws.{same_place}

module _ (order len : ℕ) (lent : Lent len) where
  pub same_places : (ss : List Store)
      → Judges (unbounded order no_table len) thrown_before (places_of (unbounded order no_table len) len ss) (places_before len ss)
  unfolding places_of places_before
  same_places [] = good
  same_places (s ∷ ss) = firsts (same_place order len lent s.width s.access s.at) (same_places ss)

  pub same_commit : (m : List ℕ) (r : Registers) {e f : Effect} → length m ≡ len → Asks (unbounded order no_table len) thrown_before e f
      → Steps (unbounded order no_table len) thrown_before (commit_of (unbounded order no_table len) m r e) (commit_before order m r f)
  unfolding commit_of commit_before
  same_commit m r long (acts {x} n) = rw long (same_carried (unbounded order no_table len) m r x (same_places x.stores))
  same_commit m r long (raises t) = faults t
