-- The commit of an effect, before tables: every place is judged, and then all is written. Document 01, The processor.
use Rattle.cell.specs.Place.{Checked, good}
use Rattle.std.specs.Prelude.{List, [], ◌∷◌, ℕ, length, set, Ok, Err}
use Rattle.cell.specs.Memory.{store_cell}
use Rattle.machine.specs.Places.{Width, one_byte, one_cell}
use Rattle.machine.specs.Effects.{Store, Action, Effect, act, raise}
use Rattle.machine.specs.Commits.{first_bad, Stepped, stepped, controlled, raised}
use Rattle.machine.specs.declared.Registers.{Registers}
use Rattle.before_tables.specs.Machines.{MachineBefore}
use Rattle.before_tables.specs.Places.{place_before}

unfoldable pub places_before : MachineBefore → ℕ → List Store → Checked
places_before machine len [] = good
places_before machine len (s ∷ ss) = first_bad (place_before machine s.width s.access len s.at) (places_before machine len ss)

abbrev pub put_before : ℕ → List ℕ → Width → ℕ → ℕ → List ℕ
put_before order m one_byte a x = set m a x
put_before order m one_cell a x = store_cell order m a x

unfoldable pub stored_before : ℕ → List ℕ → List Store → List ℕ
stored_before order m [] = m
stored_before order m (s ∷ ss) = stored_before order (put_before order m s.width s.at s.value) ss

abbrev pub carried_before : ℕ → List ℕ → Registers → Action → Checked → Stepped
carried_before order m r x (Err f) = raised m r f
carried_before order m r x (Ok _) =
    stepped (stored_before order m x.stores) (controlled x.control (record { ep = r.ep; a = r.a; sp = x.sp; rp = x.rp }))

unfoldable pub commit_before : MachineBefore → List ℕ → Registers → Effect → Stepped
commit_before machine m r (raise f) = raised m r f
commit_before machine m r (act x) = carried_before machine.order m r x (places_before machine (length m) x.stores)
