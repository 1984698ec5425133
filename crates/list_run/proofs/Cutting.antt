-- A run in two calls, from the runs of crate `list_machine`.
use Rattle.std.specs.Prelude.{Ok, Err}
use Rattle.cell.specs.Refusals.{Judged, passed}
use mathlib.Core.Path.{◌≡◌, refl, sym, ap, ◌∙◌}
use mathlib.Core.Bool.{true}
use mathlib.Core.List.{List}
use mathlib.Core.Logic.{◌≢◌}
use Prim.Native.Nat.{ℕ, ◌+◌}
use native.Mathlib.Omega.{arith}
use lib.ListN.{length}
use Rattle.cell.proofs.JudgementLaws.{refusal_some}
use Rattle.machine.specs.declared.Machine.{Machine}
use Rattle.bounds.specs.Bounds.{machine_of}
use Rattle.pack_layout.specs.Listing.{Listing, listed}
use Rattle.list_machine.specs.Runs.{Course, goes_on, stopped_by, stood_outside, is_over, Run, run_of, resuming}
use Rattle.list_machine.proofs.Lengths.{run_long}
use Rattle.list_machine.proofs.Cutting.{cut_in_two, stays_over}
use Rattle.list_proposing.specs.Stands.{position_of}
use Rattle.list_proposing.specs.declared.Stand.{Stand}
use Rattle.list_refusals.specs.Judging.{judge_follow}
use Rattle.list_counting.specs.Endings.{ending_number}
use Rattle.list_following.specs.Follow.{FollowResult, followed_to, ending_of, ran_of, follow_if, resume_in}
use Rattle.list_run.specs.Cutting.{joined_to, Cut}

-- 0 is a run that goes on, any other number one that is over
goes_on_lem : (c : Course) → ending_number (ending_of c) ≡ 0 → c ≡ goes_on
goes_on_lem goes_on e = refl
goes_on_lem (stopped_by x) e = absurd (omega arith)
goes_on_lem (stood_outside why) e = absurd (omega arith)

is_over_lem : (c : Course) → ending_number (ending_of c) ≢ 0 → is_over c ≡ true
is_over_lem goes_on h = absurd (h refl)
is_over_lem (stopped_by x) h = refl
is_over_lem (stood_outside why) h = refl

module _ (machine : Machine) (base : ℕ) (l : Listing) (m : List ℕ) (start : Stand) (a b : ℕ) where
  abbrev run : ℕ → Run
  run k = run_of machine base l k (resuming l (position_of m start))

  -- by the judgement, which both calls share
  cut_if : (j : Judged) → (follow_if j machine base l m start a).number ≡ 0
      → follow_if j machine base l m start (a + b)
      ≡ joined_to start (follow_if j machine base l m start a)
      (follow_if j machine base l (follow_if j machine base l m start a).memory (follow_if j machine base l m start a).stand b)
  cut_if (Err r) e = absurd (refusal_some r e)
  cut_if (Ok _) e =
      ap (λ (r : Run). followed_to r.position.memory start (Ok (ran_of r)))
      (cut_in_two machine base l (position_of m start) a b (goes_on_lem (run a).course e))

  over_if_lem : (j : Judged) → (follow_if j machine base l m start a).number ≢ 0
      → follow_if j machine base l m start (a + b) ≡ follow_if j machine base l m start a
  over_if_lem (Err r) h = refl
  over_if_lem (Ok _) h =
      ap (λ (r : Run). followed_to r.position.memory start (Ok (ran_of r)))
      (stays_over machine base l (position_of m start) a b (is_over_lem (run a).course h))

  -- a call leaves the memory's length
  kept_long : (j : Judged) → length (follow_if j machine base l m start a).memory ≡ length m
  kept_long (Err r) = refl
  kept_long (Ok _) = run_long machine base l a (resuming l (position_of m start))

pub cut : Cut
unfolding resume_in
cut order areas table kinds operands base m start a b =
    let j : ℕ → Judged = λ n. judge_follow n order areas table kinds operands base passed in
    let machine : ℕ → Machine = λ n. machine_of order areas table n in
    let l : Listing = listed kinds operands in
    let s : FollowResult = follow_if (j (length m)) (machine (length m)) base l m start a in (
      λ e. cut_if (machine (length m)) base l m start a b (j (length m)) e
          ∙ ap (λ (n : ℕ). joined_to start s (follow_if (j n) (machine n) base l s.memory s.stand b))
          (sym (kept_long (machine (length m)) base l m start a b (j (length m)))),
      λ h. over_if_lem (machine (length m)) base l m start a b (j (length m)) h,
    )
