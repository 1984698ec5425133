-- A run in two parts. Document 01, Listings: a run is the items that the machine carries out, one after the other; so where it is cut makes no difference.
use Rattle.std.specs.Prelude.{◌≡◌, true, ℕ, ◌+◌}
use Rattle.machine.specs.declared.Machine.{Machine}
use Rattle.pack_layout.specs.Listing.{Listing}
use Rattle.list_machine.specs.ListMachine.{Position}
use Rattle.list_machine.specs.Runs.{goes_on, is_over, Run, run_of, resuming}

-- a run that was taken up where another ended, with the items and cycles of that one
abbrev pub joined : Run → Run → Run
joined s r = record { position = r.position; items = s.items + r.items; cycles = s.cycles + r.cycles; course = r.course }

-- the run of a items goes on: taken up where it stands, with b items more, it is the run of a + b items
abbrev pub CutInTwo : Type 0
CutInTwo =
    (machine : Machine) (base : ℕ) (l : Listing) (p : Position) (a b : ℕ)
    → (run_of machine base l a (resuming l p)).course ≡ goes_on
    → run_of machine base l (a + b) (resuming l p)
    ≡ joined (run_of machine base l a (resuming l p)) (run_of machine base l b (resuming l (run_of machine base l a (resuming l p)).position))

-- the run of a items is over: it is the run of any larger number
abbrev pub StaysOver : Type 0
StaysOver =
    (machine : Machine) (base : ℕ) (l : Listing) (p : Position) (a b : ℕ)
    → is_over (run_of machine base l a (resuming l p)).course ≡ true
    → run_of machine base l (a + b) (resuming l p) ≡ run_of machine base l a (resuming l p)
