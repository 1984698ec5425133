-- A run of the list machine on a lent memory: what it leaves, and the number and values of each answer. Document 01, Listings.
use Rattle.std.specs.Prelude.{Bool, false, List, ℕ, length, Result, Ok, Err}
use Rattle.cell.specs.Refusals.{refusal_number, Judged, passed}
use Rattle.cell.specs.declared.Refusal.{Refusal}
use Rattle.machine.specs.declared.Table.{Table}
use Rattle.machine.specs.declared.Machine.{Machine}
use Rattle.bounds.specs.Bounds.{machine_of}
use Rattle.areas.specs.declared.Areas.{Areas}
use Rattle.pack_layout.specs.Listing.{Listing, listed}
use Rattle.list_machine.specs.ListMachine.{Position}
use Rattle.list_machine.specs.Runs.{Course, goes_on, stopped_by, stood_outside, Run, run_of, resuming}
use Rattle.list_proposing.specs.Stands.{position_of}
use Rattle.list_proposing.specs.declared.Stand.{Stand}
use Rattle.list_counting.specs.Endings.{ending_number, ending_reason}
use Rattle.list_counting.specs.declared.Ending.{Ending}
use Rattle.list_counting.specs.declared.Ending.TheVariants as ending
use Rattle.list_counting.specs.declared.ItemRun.{ItemRun}
use Rattle.list_refusals.specs.Judging.{judge_follow}

-- what a run of the list machine answers
abbrev pub Followed : Type 0
Followed = Result ItemRun Refusal

-- the number of each answer, and its values: a refusal leaves the stand as it was given, with no items and no cycles
abbrev pub follow_number : Followed → ℕ
follow_number (Err r) = refusal_number r
follow_number (Ok x) = ending_number x.ending

abbrev pub follow_reason : Followed → ℕ
follow_reason (Err r) = 0
follow_reason (Ok x) = ending_reason x.ending

abbrev pub follow_stand : Stand → Followed → Stand
follow_stand start (Err r) = start
follow_stand start (Ok x) = x.stand

abbrev pub follow_items : Followed → ℕ
follow_items (Err r) = 0
follow_items (Ok x) = x.items

abbrev pub follow_cycles : Followed → ℕ
follow_cycles (Err r) = 0
follow_cycles (Ok x) = x.cycles

-- the memory after a call, and its answer; stand holds the item, SP and RP
pub record FollowResult : Type 0 where
  pub memory : List ℕ
  pub answer : Followed
  pub number : ℕ
  pub reason : ℕ
  pub stand : Stand
  pub items : ℕ
  pub cycles : ℕ

abbrev pub followed_to : List ℕ → Stand → Followed → FollowResult
followed_to m start a =
    record {
      memory = m;
      answer = a;
      number = follow_number a;
      reason = follow_reason a;
      stand = follow_stand start a;
      items = follow_items a;
      cycles = follow_cycles a;
    }

-- in front of an item
abbrev pub stand_at : ℕ → Bool → ℕ → ℕ → Stand
stand_at item ran sp rp = record { item = record { 0 = item }; ran = ran; sp = sp; rp = rp }

-- a run as the code's value
abbrev pub ending_of : Course → Ending
ending_of goes_on = ending.GoesOn
ending_of (stopped_by x) = ending.Stopped x
ending_of (stood_outside why) = ending.Outside why

abbrev pub stand_of : Position → Stand
stand_of p = stand_at p.item p.ran p.sp p.rp

abbrev pub ran_of : Run → ItemRun
ran_of r = record { stand = stand_of r.position; items = r.items; cycles = r.cycles; ending = ending_of r.course }

-- refused, with memory as it was; or the run
abbrev pub follow_if : Judged → Machine → ℕ → Listing → List ℕ → Stand → ℕ → FollowResult
follow_if (Err r) machine base l m start items = followed_to m start (Err r)
follow_if (Ok _) machine base l m start items =
    let r = run_of machine base l items (resuming l (position_of m start)) in
    followed_to r.position.memory start (Ok (ran_of r))

-- a run taken up at an item, with room judged last
unfoldable pub resume_in : Judged → ℕ → Areas → Table → List ℕ → List ℕ → ℕ → List ℕ → Stand → ℕ → FollowResult
resume_in room order areas table kinds operands base m start items =
    follow_if (judge_follow (length m) order areas table kinds operands base room) (machine_of order areas table (length m)) base (listed kinds operands) m
    start
    items

-- list_resume, which was lent nothing else
abbrev pub resume_of : ℕ → Areas → Table → List ℕ → List ℕ → ℕ → List ℕ → Stand → ℕ → FollowResult
resume_of order areas table kinds operands base m start items = resume_in passed order areas table kinds operands base m start items

-- list_run: from item 0 on
abbrev pub follow_of : ℕ → Areas → Table → List ℕ → List ℕ → ℕ → List ℕ → ℕ → ℕ → ℕ → FollowResult
follow_of order areas table kinds operands base m sp rp items = resume_of order areas table kinds operands base m (stand_at 0 false sp rp) items
