-- The commit of an effect, before areas: every place is judged, and then all is written. Document 01, The processor.
use Rattle.cell.specs.Place.{Checked, good}
use Rattle.std.specs.Prelude.{List, [], ◌∷◌, ℕ, length}
use Rattle.machine.specs.Effects.{Store, Effect, act, raise}
use Rattle.machine.specs.Commits.{first_bad, Stepped, raised}
use Rattle.machine.specs.declared.Registers.{Registers}
use Rattle.before_tables.specs.Commits.{carried_before}
use Rattle.before_areas.specs.Places.{place_before}

unfoldable pub places_before : ℕ → List Store → Checked
places_before len [] = good
places_before len (s ∷ ss) = first_bad (place_before s.width len s.at) (places_before len ss)

unfoldable pub commit_before : ℕ → List ℕ → Registers → Effect → Stepped
commit_before order m r (raise f) = raised m r f
commit_before order m r (act x) = carried_before order m r x (places_before (length m) x.stores)
