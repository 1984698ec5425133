-- A run in two calls. Document 01, Listings: a run is the items that the machine carries out, one after the other; so it may be cut at any item.
use Rattle.std.specs.Prelude.{◌≡◌, ◌≢◌, List, ℕ, ◌+◌, Ok, Err}
use Rattle.machine.specs.declared.Table.{Table}
use Rattle.areas.specs.declared.Areas.{Areas}
use Rattle.list_proposing.specs.declared.Stand.{Stand}
use Rattle.list_following.specs.Follow.{FollowResult, followed_to, resume_of, Followed}

-- an answer, with the items and cycles of the call before it
abbrev pub with_counts : ℕ → ℕ → Followed → Followed
with_counts items cycles (Err r) = Err r
with_counts items cycles (Ok x) =
    Ok (record { stand = x.stand; items = items + x.items; cycles = cycles + x.cycles; ending = x.ending })

-- two calls as one: what the second left, with the counts of both
abbrev pub joined_to : Stand → FollowResult → FollowResult → FollowResult
joined_to start s t = followed_to t.memory start (with_counts s.items s.cycles t.answer)

module _ (order : ℕ) (areas : Areas) (table : Table) (kinds operands : List ℕ) (base : ℕ) (m : List ℕ) (start : Stand) (a b : ℕ) where
  abbrev pub first : FollowResult
  first = resume_of order areas table kinds operands base m start a

  abbrev pub whole : FollowResult
  whole = resume_of order areas table kinds operands base m start (a + b)

  -- a call of a items that goes on, taken up from the memory, item, SP and RP that it left, is the call of a + b items
  abbrev pub CutAnswer : Type 0
  CutAnswer =
      first.number ≡ 0 → whole ≡ joined_to start first (resume_of order areas table kinds operands base first.memory first.stand b)

  -- any other answer is that of every larger number of items
  abbrev pub OverAnswer : Type 0
  OverAnswer = first.number ≢ 0 → whole ≡ first

abbrev pub Cut : Type 0
Cut =
    (order : ℕ) (areas : Areas) (table : Table) (kinds operands : List ℕ) (base : ℕ) (m : List ℕ) (start : Stand) (a b : ℕ)
    → CutAnswer order areas table kinds operands base m start a b × OverAnswer order areas table kinds operands base m start a b
