-- What is told of a run of the list machine, and where there is no room for it.
use Rattle.std.specs.Prelude.{false, List, [], ◌∷◌, ℕ, ◌/◌, ◌%◌, ◌^◌, ◌≤◌, Ok, Err}
use Prim.{Unit}
use Rattle.cell.specs.Refusals.{Judged, passed}
use Rattle.list_following.specs.Follow.{FollowResult, followed_to, stand_at, Followed}
use Rattle.lent_arrays.specs.Lending.{written, area_list, areas_at, with_room}
use Rattle.processor_calls.specs.Machines.{Told, told}

-- `pointers` takes SP, RP and the areas as they were given; `out` the reason, the item reached, the items done, and the low and high half of the cycles counted
abbrev pub values_told : List ℕ → List ℕ → FollowResult → Told
values_told pointers out s =
    told (written (s.stand.sp ∷ s.stand.rp ∷ area_list (areas_at 2 pointers)) pointers)
    (written (s.reason ∷ s.stand.item.0 ∷ s.items ∷ s.cycles % 2 ^ 32 ∷ s.cycles / 2 ^ 32 ∷ []) out)
    s.number

-- a refusal leaves both as they were
abbrev pub told_by : Followed → List ℕ → List ℕ → FollowResult → Told
told_by (Err r) pointers out s = told pointers out s.number
told_by (Ok x) pointers out s = values_told pointers out s

abbrev pub list_told : List ℕ → List ℕ → FollowResult → Told
list_told pointers out s = told_by s.answer pointers out s

-- what is told of an answer, on which the memory and the stand that was given have no bearing
abbrev pub answer_told : List ℕ → List ℕ → Followed → Told
answer_told pointers out a = list_told pointers out (followed_to [] (stand_at 0 false 0 0) a)

-- -4105, which comes last, for `pointers` and `out`
unfoldable pub judge_lent : ℕ → ℕ → Judged
judge_lent pointers out = with_room (with_room passed pointers 6) out 5

-- a run that is told has room in both
abbrev pub Room : ℕ → ℕ → Followed → Type 0
Room pointers out (Err r) = Unit {0}
Room pointers out (Ok x) = (6 ≤ pointers) × (5 ≤ out)
