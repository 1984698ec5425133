-- A run of the list machine from item 0 on runs as its packed cells do.
use Rattle.std.specs.Prelude.{Ok, Err}
use mathlib.Core.Path.{◌≡◌, refl, ap}
use mathlib.Core.Bool.{false}
use mathlib.Core.List.{List}
use Prim.{tt}
use Prim.Native.Nat.{ℕ, ◌^◌, ◌<◌}
use native.Mathlib.Omega.{arith}
use lib.ListN.{length, get_or}
use Rattle.cell.specs.Refusals.{after, Judged, passed}
use Rattle.cell.proofs.JudgementLaws.{both_pass}
use Rattle.machine.specs.declared.Table.{Table}
use Rattle.bounds.specs.Bounds.{machine_of}
use Rattle.areas.specs.declared.Areas.{Areas}
use Rattle.pack_layout.specs.Listing.{listed}
use Rattle.pack_layout.specs.Packing.{image_cells, judged_place}
use Rattle.list_machine.specs.Runs.{Run, run_of, resuming}
use Rattle.demand3.proofs.Simulation.{demand3}
use Rattle.list_proposing.specs.Stands.{position_of}
use Rattle.list_counting.specs.declared.ItemRun.{ItemRun}
use Rattle.list_refusals.specs.Judging.{judge_begin, judge_image, judge_follow}
use Rattle.list_following.specs.Follow.{FollowResult, followed_to, stand_at, ran_of, follow_if, resume_in, follow_of, Followed}
use Rattle.list_run.specs.Packed.{AsPacked}
use Rattle.list_following.proofs.Following.{begin_checked, run_there}

-- demand 3 of the answer; an operand is a cell
module _ (order : ℕ) (areas : Areas) (table : Table) (kinds operands : List ℕ) (base : ℕ) (m : List ℕ) (sp rp items : ℕ) (cells : (i : ℕ) → get_or operands i 0 < 2 ^ 32) where
  abbrev run : Run
  run = run_of (machine_of order areas table (length m)) base (listed kinds operands) items (resuming (listed kinds operands) (position_of m (stand_at 0 false sp rp)))

  ran_packed : (m2 : List ℕ) (x : ItemRun) (j : Judged) → judge_follow (length m) order areas table kinds operands base passed ≡ j
      → followed_to m2 (stand_at 0 false sp rp) (Ok x)
      ≡ follow_if j (machine_of order areas table (length m)) base (listed kinds operands) m (stand_at 0 false sp rp) items
      → AsPacked (machine_of order areas table (length m)) base (listed kinds operands) m sp rp m2 (Ok x)
  unfolding judge_follow judge_image
  ran_packed m2 x (Err r) q e holds =
      absurd (let f : Ok x ≡ Err r = ap (λ (s : FollowResult). s.answer) e in let z : ◌≡◌ {A = ℕ} 0 1 = cc in omega arith)
  ran_packed m2 x (Ok _) q e holds =
      let p = both_pass (judge_begin (length m) order areas table kinds operands) (after (judged_place base (image_cells (listed kinds operands))) passed) q in
      let f : Ok x ≡ Ok (ran_of run) = ap (λ (s : FollowResult). s.answer) e in
      let g : x ≡ ran_of run = cc in
      let h : m2 ≡ run.position.memory = ap (λ (s : FollowResult). s.memory) e in
      rw (h, g, run_there run)
      (demand3 (machine_of order areas table (length m)) base (listed kinds operands) m sp rp items
      (record {
        input = (begin_checked (length m) order areas table kinds operands p.0).input;
        state = (both_pass (judged_place base (image_cells (listed kinds operands))) passed p.1).0;
        cell = λ i h. cells i;
      })
      holds)

  pub as_packed : (m2 : List ℕ) (a : Followed) → followed_to m2 (stand_at 0 false sp rp) a ≡ follow_of order areas table kinds operands base m sp rp items
      → AsPacked (machine_of order areas table (length m)) base (listed kinds operands) m sp rp m2 a
  unfolding resume_in
  as_packed m2 (Err r) e = tt
  as_packed m2 (Ok x) e = ran_packed m2 x (judge_follow (length m) order areas table kinds operands base passed) refl e
