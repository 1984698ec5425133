-- The calls for the list machine from what their parts leave.
use Rattle.std.specs.Prelude.{Ok, Err}
use mathlib.Core.Path.{◌≡◌, refl, ap, ◌∙◌}
use mathlib.Core.Bool.{Bool}
use mathlib.Core.List.{List}
use Prim.{tt}
use Prim.Native.Nat.{ℕ, ◌≤◌}
use native.Mathlib.Omega.{arith}
use lib.ListN.{length}
use Rattle.cell.specs.Refusals.{after, Judged, passed}
use Rattle.cell.proofs.JudgementLaws.{both_pass}
use Rattle.machine.specs.declared.Table.{Table}
use Rattle.bounds.specs.Bounds.{machine_of}
use Rattle.areas.specs.declared.Areas.{Areas}
use Rattle.pack_layout.specs.Listing.{listed}
use Rattle.pack_layout.specs.Packing.{image_cells, judged_place}
use Rattle.list_proposing.specs.declared.Stand.{Stand}
use Rattle.list_counting.specs.declared.ItemRun.{ItemRun}
use Rattle.list_refusals.specs.Judging.{judge_begin, judge_image, judge_follow}
use Rattle.list_following.specs.Follow.{FollowResult, followed_to, follow_if, resume_in, Followed}
use Rattle.lent_arrays.specs.Lending.{areas_in, with_room}
use Rattle.processor_calls.specs.Machines.{told, called}
use Rattle.list_telling.specs.Telling.{list_told, answer_told, judge_lent, Room}
use Rattle.list_calls.specs.Lists.{stand_given, resume_call}
use Rattle.lent_arrays.proofs.LendingLaws.{roomy}

lent_roomy : (pointers out : ℕ) → judge_lent pointers out ≡ passed → (6 ≤ pointers) × (5 ≤ out)
unfolding judge_lent
lent_roomy pointers out e =
    let last = roomy (with_room passed pointers 6) out 5 e in
    ((roomy passed pointers 6 last.passed).room, last.room)

-- what is told of an answer does not depend on the memory, nor on the stand that was given
told_alike : (m : List ℕ) (start : Stand) (pointers out : List ℕ) (a : Followed) → answer_told pointers out a ≡ list_told pointers out (followed_to m start a)
told_alike m start pointers out (Err r) = refl
told_alike m start pointers out (Ok x) = refl

module _ (order : ℕ) (areas : Areas) (table : Table) (kinds operands : List ℕ) (base : ℕ) (m : List ℕ) (start : Stand) (items pointers out : ℕ) where
  -- a run was made only where there is room for what is told of it
  ran_room : (m2 : List ℕ) (x : ItemRun) (j : Judged) → judge_follow (length m) order areas table kinds operands base (judge_lent pointers out) ≡ j
      → followed_to m2 start (Ok x) ≡ follow_if j (machine_of order areas table (length m)) base (listed kinds operands) m start items
      → (6 ≤ pointers) × (5 ≤ out)
  unfolding judge_follow judge_image
  ran_room m2 x (Err r) q e =
      absurd (let f : Ok x ≡ Err r = ap (λ (s : FollowResult). s.answer) e in let z : ◌≡◌ {A = ℕ} 0 1 = cc in omega arith)
  ran_room m2 x (Ok _) q e =
      let place : Judged = judged_place base (image_cells (listed kinds operands)) in
      let p = both_pass (judge_begin (length m) order areas table kinds operands) (after place (judge_lent pointers out)) q in
      lent_roomy pointers out (both_pass place (judge_lent pointers out) p.1).1

  pub has_room : (m2 : List ℕ) (a : Followed)
      → followed_to m2 start a ≡ resume_in (judge_lent pointers out) order areas table kinds operands base m start items → Room pointers out a
  unfolding resume_in
  has_room m2 (Err r) e = tt
  has_room m2 (Ok x) e = ran_room m2 x (judge_follow (length m) order areas table kinds operands base (judge_lent pointers out)) refl e

pub list_noted : (order : ℕ) (kinds operands : List ℕ) (base : ℕ) (m : List ℕ) (table : Table) (item : ℕ) (ran : Bool) (pointers : List ℕ) (items : ℕ) (out : List ℕ)
    → (m2 p2 o2 : List ℕ) (n : ℕ) (a : Followed)
    → followed_to m2 (stand_given item ran pointers) a
    ≡ resume_in (judge_lent (length pointers) (length out)) order (areas_in 2 pointers) table kinds operands base m (stand_given item ran pointers) items
    → told p2 o2 n ≡ answer_told pointers out a
    → called m2 p2 o2 n ≡ resume_call order kinds operands base m table item ran pointers items out
unfolding resume_call
list_noted order kinds operands base m table item ran pointers items out m2 p2 o2 n a e t =
    rw (← e, t ∙ told_alike m2 (stand_given item ran pointers) pointers out a)
