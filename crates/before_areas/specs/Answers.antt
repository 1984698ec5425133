-- What the calls answered before areas. Document 01. A call had four registers; they stand here with four zeros behind them, as they come back today from a call
-- without areas.
use Rattle.std.specs.Prelude.{List, ℕ, length, Ok, Err}
use Rattle.cell.specs.Refusals.{after, judge_machine, Judged}
use Rattle.machine.specs.declared.Registers.{Registers}
use Rattle.machine.specs.declared.Ended.{Ended}
use Rattle.machine.specs.declared.Ended.TheVariants.{Went, Threw, Stopped}
use Rattle.areas.specs.Areas.{no_areas, filed}
use Rattle.areas.specs.declared.RegisterFile.{RegisterFile}
use Rattle.cycles.specs.Counts.{begun}
use Rattle.processor_start.specs.Answers.{StartAnswer, started_to, StartAnswered}
use Rattle.processor.specs.Answers.{CycleAnswer, cycled_to, RunAnswer, ran_to, CycleAnswered, RunAnswered}
use Rattle.processor_start.specs.declared.Started.TheVariants as started
use Rattle.processor.specs.declared.Cycled.TheVariants as cycled
use Rattle.processor.specs.declared.Ran.TheVariants as ran
use Rattle.pack_layout.specs.Listing.{listed, judged_arrays}
use Rattle.pack_layout.specs.Packing.{image_cells, judged_place}
use Rattle.list_machine.specs.Runs.{resuming}
use Rattle.list_proposing.specs.Stands.{position_of}
use Rattle.list_proposing.specs.declared.Stand.{Stand}
use Rattle.list_following.specs.Follow.{FollowResult, followed_to, ran_of}
use Rattle.before_areas.specs.Cycles.{start_before, cycle_before, cycles_before, done_before}
use Rattle.before_areas.specs.Lists.{run_before}

-- four registers, and four zeros behind them
abbrev pub with_zeros : Registers → RegisterFile
with_zeros r = filed no_areas r

-- start
abbrev pub started_before : Registers → Ended → StartAnswered
started_before r Went = Ok (started.Ready (with_zeros r))
started_before r (Threw e) = Ok (started.Ready (with_zeros r))
started_before r (Stopped x) = Ok (started.Stopped (with_zeros r) x)

abbrev pub start_if_before : Judged → ℕ → List ℕ → ℕ → ℕ → StartAnswer
start_if_before (Err n) order m ep handler = started_to m (Err n)
start_if_before (Ok _) order m ep handler =
    let t = start_before order m ep handler in
    started_to t.memory (started_before t.result.registers t.result.ended)

unfoldable pub start_answer_before : ℕ → List ℕ → ℕ → ℕ → StartAnswer
start_answer_before order m ep handler = start_if_before (judge_machine (length m) order) order m ep handler

-- cycle
abbrev pub cycled_before : Registers → Ended → CycleAnswered
cycled_before r Went = Ok (cycled.Went (with_zeros r))
cycled_before r (Threw e) = Ok (cycled.Threw (with_zeros r) e)
cycled_before r (Stopped x) = Ok (cycled.Stopped (with_zeros r) x)

abbrev pub cycle_if_before : Judged → ℕ → List ℕ → Registers → CycleAnswer
cycle_if_before (Err n) order m r = cycled_to (with_zeros r) m (Err n)
cycle_if_before (Ok _) order m r =
    let t = cycle_before order m r in
    cycled_to (with_zeros r) t.memory (cycled_before t.result.registers t.result.ended)

unfoldable pub cycle_answer_before : ℕ → List ℕ → Registers → CycleAnswer
cycle_answer_before order m r = cycle_if_before (judge_machine (length m) order) order m r

-- run
abbrev pub ran_before : Registers → ℕ → Ended → RunAnswered
ran_before r n Went = Ok (ran.Spent (with_zeros r))
ran_before r n (Threw e) = Ok (ran.Spent (with_zeros r))
ran_before r n (Stopped x) = Ok (ran.Stopped (with_zeros r) x n)

abbrev pub run_if_before : Judged → ℕ → List ℕ → Registers → ℕ → RunAnswer
run_if_before (Err n) order m r budget = ran_to (with_zeros r) budget m (Err n)
run_if_before (Ok _) order m r budget =
    let n = done_before order budget (begun m r) in
    let t = cycles_before order n (begun m r) in
    ran_to (with_zeros r) budget t.memory (ran_before t.result.registers n t.result.ended)

unfoldable pub run_answer_before : ℕ → List ℕ → Registers → ℕ → RunAnswer
run_answer_before order m r budget = run_if_before (judge_machine (length m) order) order m r budget

-- list_run and list_resume: -4101 and -4102, the input list, -4104 and -4110, and then the room that was lent
unfoldable pub judge_before : ℕ → ℕ → List ℕ → List ℕ → ℕ → Judged → Judged
judge_before len order kinds operands base room =
    after (after (judge_machine len order) (judged_arrays kinds operands)) (after (judged_place base (image_cells (listed kinds operands))) room)

abbrev pub resume_if_before : Judged → ℕ → List ℕ → List ℕ → ℕ → List ℕ → Stand → ℕ → FollowResult
resume_if_before (Err r) order kinds operands base m start items = followed_to m start (Err r)
resume_if_before (Ok _) order kinds operands base m start items =
    let l = listed kinds operands in
    let r = run_before order base l items (resuming l (position_of m start)) in
    followed_to r.position.memory start (Ok (ran_of r))

unfoldable pub resume_before : Judged → ℕ → List ℕ → List ℕ → ℕ → List ℕ → Stand → ℕ → FollowResult
resume_before room order kinds operands base m start items =
    resume_if_before (judge_before (length m) order kinds operands base room) order kinds operands base m start items
