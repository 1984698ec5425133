-- What `beetle_load_set` leaves and answers. Document 02, (d); -4105 is judged last, after -4113.
use Rattle.std.specs.Prelude.{List, ℕ, length}
use Rattle.set_judging.specs.Grounds.{judge_set}
use Rattle.set_loading.specs.Sets.{load_set_of}
use Rattle.lent_arrays.specs.Lending.{with_room}
use Rattle.calls.specs.Modules.{Moved, load_if}

unfoldable pub load_set_call : ℕ → List ℕ → List ℕ → List ℕ → List ℕ → Moved
load_set_call order m buffer numbers out =
    load_if (with_room (judge_set (length m) order buffer numbers) (length out) 1) (load_set_of order m buffer numbers) m out
