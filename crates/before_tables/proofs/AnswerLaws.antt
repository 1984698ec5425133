-- With two zeros for a table, start, cycle, run and the list machine's calls answer what they answered before.
use Rattle.std.specs.Prelude.{Ok, Err}
use mathlib.Core.Path.{◌≡◌, refl}
use mathlib.Core.Bool.{false}
use mathlib.Core.List.{List}
use Prim.Native.Nat.{ℕ}
use lib.ListN.{length}
use Rattle.cell.specs.Refusals.{after, Judged, passed}
use Rattle.cell.proofs.JudgementLaws.{both_pass, after_passed}
use Rattle.machine.specs.Places.{no_table}
use Rattle.areas.specs.Areas.{judge_areas}
use Rattle.code_tables.specs.Tables.{judge_table}
use Rattle.bounds.specs.Bounds.{judge_bounded, machine_of, first_sp, first_rp}
use Rattle.areas.specs.declared.Areas.{Areas}
use Rattle.areas.specs.declared.RegisterFile.{RegisterFile}
use Rattle.cycles.specs.Counts.{begun}
use Rattle.processor_start.specs.Answers.{start_if, start_answer}
use Rattle.processor.specs.Answers.{cycle_if, cycle_answer, given_of, run_if, run_answer}
use Rattle.pack_layout.specs.Listing.{Listing, listed}
use Rattle.list_machine.specs.Runs.{resuming}
use Rattle.list_proposing.specs.Stands.{position_of}
use Rattle.list_proposing.specs.declared.Stand.{Stand}
use Rattle.list_refusals.specs.Judging.{judge_begin, judge_follow}
use Rattle.list_following.specs.Follow.{follow_if, resume_in, stand_at}
use Rattle.before_tables.specs.Machines.{machine_before}
use Rattle.before_tables.specs.Cycles.{done_before}
use Rattle.before_tables.specs.Answers.{judge_bounded_before, start_if_before, start_answer_before, cycle_if_before, cycle_answer_before, run_if_before, run_answer_before, judge_begin_before, judge_follow_before, follow_if_before, resume_in_before}
use Rattle.before_tables.specs.Claims.{Taken, SameStartAnswer, SameCycleAnswer, SameRunAnswer, SameResumeIn, SameResume, SameFollow}
use Rattle.before_tables.proofs.CycleLaws.{same_start, same_cycle, same_cycles, same_done}
use Rattle.before_tables.proofs.ListLaws.{same_run}

-- two zeros are never refused
pub no_table_lem : (len order : ℕ) (areas : Areas) → judge_bounded len order areas no_table ≡ judge_bounded_before len order areas
unfolding judge_bounded judge_table judge_bounded_before
no_table_lem len order areas = rw (after_passed (judge_areas len areas))

-- by the judgement
module _ (order : ℕ) (m : List ℕ) where
  start_if_lem : (areas : Areas) (ep handler : ℕ) (j : Judged) → judge_bounded_before (length m) order areas ≡ j
      → start_if j order areas no_table m ep handler ≡ start_if_before j order areas m ep handler
  start_if_lem areas ep handler (Err n) e = refl
  start_if_lem areas ep handler (Ok _) e =
      rw (same_start order (length m) areas e m ep handler (first_sp (length m) areas) (first_rp (length m) areas))

  cycle_if_lem : (r : RegisterFile) (j : Judged) → judge_bounded_before (length m) order r.areas ≡ j
      → cycle_if j order no_table m r ≡ cycle_if_before j order m r
  cycle_if_lem r (Err n) e = refl
  cycle_if_lem r (Ok _) e = rw (same_cycle order (length m) r.areas e m r.registers)

  run_if_lem : (r : RegisterFile) (budget : ℕ) (j : Judged) → judge_bounded_before (length m) order r.areas ≡ j
      → run_if j (given_of order no_table m r budget) ≡ run_if_before j order m r budget
  run_if_lem r budget (Err n) e = refl
  run_if_lem r budget (Ok _) e =
      let n : ℕ = done_before (machine_before order r.areas (length m)) budget (begun m r.registers) in
      rw (
        same_done order (length m) r.areas e budget (begun m r.registers),
        same_cycles order (length m) r.areas e n (begun m r.registers),
      )

pub same_start_answer : SameStartAnswer
unfolding start_answer start_answer_before
same_start_answer order areas m ep handler =
    rw (no_table_lem (length m) order areas) (start_if_lem order m areas ep handler (judge_bounded_before (length m) order areas) refl)

pub same_cycle_answer : SameCycleAnswer
unfolding cycle_answer cycle_answer_before
same_cycle_answer order m r =
    rw (no_table_lem (length m) order r.areas) (cycle_if_lem order m r (judge_bounded_before (length m) order r.areas) refl)

pub same_run_answer : SameRunAnswer
unfolding run_answer run_answer_before
same_run_answer order m r budget =
    rw (no_table_lem (length m) order r.areas) (run_if_lem order m r budget (judge_bounded_before (length m) order r.areas) refl)

-- the list machine
judged : (len order : ℕ) (areas : Areas) (kinds operands : List ℕ) (base : ℕ) (room : Judged)
    → judge_follow len order areas no_table kinds operands base room ≡ judge_follow_before len order areas kinds operands base room
unfolding judge_follow judge_begin judge_follow_before judge_begin_before
judged len order areas kinds operands base room = rw (no_table_lem len order areas)

module _ (order : ℕ) (areas : Areas) (kinds operands : List ℕ) (base : ℕ) (m : List ℕ) (room : Judged) where
  passed_taken : judge_follow_before (length m) order areas kinds operands base room ≡ passed → Taken order (length m) areas
  unfolding judge_follow_before judge_begin_before
  passed_taken e = (both_pass _ _ (both_pass _ _ e).0).0

  follow_if_lem : (start : Stand) (items : ℕ) (j : Judged) → judge_follow_before (length m) order areas kinds operands base room ≡ j
      → follow_if j (machine_of order areas no_table (length m)) base (listed kinds operands) m start items
      ≡ follow_if_before j (machine_before order areas (length m)) base (listed kinds operands) m start items
  follow_if_lem start items (Err r) e = refl
  follow_if_lem start items (Ok _) e =
      let l : Listing = listed kinds operands in
      rw (same_run order (length m) areas (passed_taken e) base l items (resuming l (position_of m start)))

pub same_resume_in : SameResumeIn
unfolding resume_in resume_in_before
same_resume_in room order areas kinds operands base m start items =
    rw (judged (length m) order areas kinds operands base room)
    (follow_if_lem order areas kinds operands base m room start items (judge_follow_before (length m) order areas kinds operands base room) refl)

pub same_resume : SameResume
same_resume order areas kinds operands base m start items = same_resume_in passed order areas kinds operands base m start items

pub same_follow : SameFollow
same_follow order areas kinds operands base m sp rp items =
    same_resume order areas kinds operands base m (stand_at 0 false sp rp) items
