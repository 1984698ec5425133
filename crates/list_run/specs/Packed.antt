-- What demand 3 says of an answer of list_run. Document 01, Listings.
use Rattle.std.specs.Prelude.{List, ℕ, Ok, Err}
use Prim.{Unit}
use Rattle.machine.specs.declared.Machine.{Machine}
use Rattle.cycles.specs.Counts.{begun}
use Rattle.pack_layout.specs.Listing.{Listing}
use Rattle.demand3.specs.Demand3.{Holds, first_registers, Agree}
use Rattle.list_counting.specs.Outcomes.{run_as}
use Rattle.list_following.specs.Follow.{Followed}

-- where the memory m held the image, the processor's counted cycles leave what the list machine left
abbrev pub AsPacked : Machine → ℕ → Listing → List ℕ → ℕ → ℕ → List ℕ → Followed → Type 0
AsPacked machine base l m sp rp after (Err r) = Unit {0}
AsPacked machine base l m sp rp after (Ok x) =
    Holds machine base l m → Agree machine (begun m (first_registers machine base m sp rp)) (run_as after x)
