-- With four zeros for areas and two for a table, start, cycle, run and the list machine's calls answer what they answered before.
use Rattle.std.specs.Prelude.{Ok, Err}
use mathlib.Core.Path.{◌≡◌, refl}
use mathlib.Core.List.{List}
use Prim.Native.Nat.{ℕ}
use lib.ListN.{length}
use Rattle.cell.specs.Refusals.{judge_machine, Lent, Judged, passed}
use Rattle.cell.proofs.JudgementLaws.{both_pass, after_passed, machine_good}
use Rattle.machine.specs.Places.{no_table}
use Rattle.throws.specs.Throws.{CycleState}
use Rattle.machine.specs.declared.Registers.{Registers}
use Rattle.machine.specs.declared.Ended.{Ended}
use Rattle.machine.specs.declared.Ended.TheVariants.{Went, Threw, Stopped}
use Rattle.areas.specs.Areas.{no_areas, judge_areas}
use Rattle.code_tables.specs.Tables.{judge_table}
use Rattle.bounds.specs.Bounds.{judge_bounded, machine_of}
use Rattle.cycles.specs.Counts.{begun}
use Rattle.processor_start.specs.Answers.{started_as, start_if, start_answer}
use Rattle.processor.specs.Answers.{cycled_as, cycle_if, cycle_answer, ran_as, given_of, run_if, run_answer}
use Rattle.pack_layout.specs.Listing.{Listing, listed}
use Rattle.list_machine.specs.Runs.{resuming}
use Rattle.list_proposing.specs.Stands.{position_of}
use Rattle.list_proposing.specs.declared.Stand.{Stand}
use Rattle.list_refusals.specs.Judging.{judge_begin, judge_image, judge_follow}
use Rattle.list_following.specs.Follow.{follow_if, resume_in}
use Rattle.before_areas.specs.Cycles.{start_before, cycle_before, cycles_before, done_before}
use Rattle.before_areas.specs.Answers.{with_zeros, started_before, start_if_before, start_answer_before, cycled_before, cycle_if_before, cycle_answer_before, ran_before, run_if_before, run_answer_before, judge_before, resume_if_before, resume_before}
use Rattle.before_areas.specs.Claims.{SameStartAnswer, SameCycleAnswer, SameRunAnswer, SameResume}
use Rattle.before_areas.proofs.CycleLaws.{same_start, same_cycle, same_cycles, same_done}
use Rattle.before_areas.proofs.ListLaws.{same_run}

-- four zeros and two are never refused
pub no_areas_lem : (len order : ℕ) → judge_bounded len order no_areas no_table ≡ judge_machine len order
unfolding judge_bounded judge_areas judge_table
no_areas_lem len order = after_passed (judge_machine len order)

starts : (r : Registers) (e : Ended) → started_as no_areas r e ≡ started_before r e
starts r Went = refl
starts r (Threw e) = refl
starts r (Stopped x) = refl

cycled : (r : Registers) (e : Ended) → cycled_as no_areas r e ≡ cycled_before r e
cycled r Went = refl
cycled r (Threw e) = refl
cycled r (Stopped x) = refl

ran : (r : Registers) (n : ℕ) (e : Ended) → ran_as no_areas r n e ≡ ran_before r n e
ran r n Went = refl
ran r n (Threw e) = refl
ran r n (Stopped x) = refl

-- by the judgement
module _ (order : ℕ) (m : List ℕ) where
  lent_of : judge_machine (length m) order ≡ passed → Lent (length m)
  lent_of e = (machine_good (length m) order e).lent

  start_if_lem : (ep handler : ℕ) (j : Judged) → judge_machine (length m) order ≡ j
      → start_if j order no_areas no_table m ep handler ≡ start_if_before j order m ep handler
  start_if_lem ep handler (Err n) e = refl
  start_if_lem ep handler (Ok _) e =
      let t : CycleState = start_before order m ep handler in
      rw (same_start order m ep handler (lent_of e), starts t.result.registers t.result.ended)

  cycle_if_lem : (r : Registers) (j : Judged) → judge_machine (length m) order ≡ j
      → cycle_if j order no_table m (with_zeros r) ≡ cycle_if_before j order m r
  cycle_if_lem r (Err n) e = refl
  cycle_if_lem r (Ok _) e =
      let t : CycleState = cycle_before order m r in
      rw (same_cycle order m r (lent_of e), cycled t.result.registers t.result.ended)

  run_if_lem : (r : Registers) (budget : ℕ) (j : Judged) → judge_machine (length m) order ≡ j
      → run_if j (given_of order no_table m (with_zeros r) budget) ≡ run_if_before j order m r budget
  run_if_lem r budget (Err n) e = refl
  run_if_lem r budget (Ok _) e =
      let n : ℕ = done_before order budget (begun m r) in
      let t : CycleState = cycles_before order n (begun m r) in
      rw (same_done order budget m r (lent_of e), same_cycles order n m r (lent_of e), ran t.result.registers n t.result.ended)

pub same_start_answer : SameStartAnswer
unfolding start_answer start_answer_before
same_start_answer order m ep handler = rw (no_areas_lem (length m) order) (start_if_lem order m ep handler (judge_machine (length m) order) refl)

pub same_cycle_answer : SameCycleAnswer
unfolding cycle_answer cycle_answer_before
same_cycle_answer order m r = rw (no_areas_lem (length m) order) (cycle_if_lem order m r (judge_machine (length m) order) refl)

pub same_run_answer : SameRunAnswer
unfolding run_answer run_answer_before
same_run_answer order m r budget = rw (no_areas_lem (length m) order) (run_if_lem order m r budget (judge_machine (length m) order) refl)

-- the list machine
judged : (len order : ℕ) (kinds operands : List ℕ) (base : ℕ) (room : Judged)
    → judge_follow len order no_areas no_table kinds operands base room ≡ judge_before len order kinds operands base room
unfolding judge_follow judge_begin judge_image judge_before
judged len order kinds operands base room = rw (no_areas_lem len order)

module _ (order : ℕ) (kinds operands : List ℕ) (base : ℕ) (m : List ℕ) (room : Judged) where
  passed_lent : judge_before (length m) order kinds operands base room ≡ passed → Lent (length m)
  unfolding judge_before
  passed_lent e = lent_of order m (both_pass _ _ (both_pass _ _ e).0).0

  resume_if : (start : Stand) (items : ℕ) (j : Judged) → judge_before (length m) order kinds operands base room ≡ j
      → follow_if j (machine_of order no_areas no_table (length m)) base (listed kinds operands) m start items
      ≡ resume_if_before j order kinds operands base m start items
  resume_if start items (Err r) e = refl
  resume_if start items (Ok _) e =
      let l : Listing = listed kinds operands in
      rw (same_run order base l items (resuming l (position_of m start)) (passed_lent e))

pub same_resume : SameResume
unfolding resume_in resume_before
same_resume room order kinds operands base m start items =
    rw (judged (length m) order kinds operands base room)
    (resume_if order kinds operands base m room start items (judge_before (length m) order kinds operands base room) refl)
