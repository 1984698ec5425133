-- What the calls answered before tables. Document 01, and document 02, (a): the areas join the registers.
use Rattle.std.specs.Prelude.{false, List, ℕ, length, Ok, Err}
use Rattle.cell.specs.Refusals.{after, judge_machine, Judged, passed}
use Rattle.areas.specs.Areas.{judge_areas}
use Rattle.bounds.specs.Bounds.{first_sp, first_rp}
use Rattle.areas.specs.declared.Areas.{Areas}
use Rattle.areas.specs.declared.RegisterFile.{RegisterFile}
use Rattle.cycles.specs.Counts.{begun}
use Rattle.processor_start.specs.Answers.{StartAnswer, started_to, started_as}
use Rattle.processor.specs.Answers.{CycleAnswer, cycled_to, cycled_as, RunAnswer, ran_to, run_for}
use Rattle.processor_start.specs.declared.Started.TheVariants as started
use Rattle.processor.specs.declared.Cycled.TheVariants as cycled
use Rattle.processor.specs.declared.Ran.TheVariants as ran
use Rattle.pack_layout.specs.Listing.{Listing, listed, judged_arrays}
use Rattle.pack_layout.specs.Packing.{image_cells}
use Rattle.list_machine.specs.Runs.{resuming}
use Rattle.list_proposing.specs.Stands.{position_of}
use Rattle.list_proposing.specs.declared.Stand.{Stand}
use Rattle.list_refusals.specs.Judging.{judge_image}
use Rattle.list_following.specs.Follow.{FollowResult, followed_to, stand_at, ran_of}
use Rattle.before_tables.specs.Machines.{MachineBefore, machine_before}
use Rattle.before_tables.specs.Cycles.{start_before, cycle_before, cycles_before, done_before}
use Rattle.before_tables.specs.Lists.{run_before}

-- -4101, -4102 and -4111
unfoldable pub judge_bounded_before : ℕ → ℕ → Areas → Judged
judge_bounded_before len order areas = after (judge_machine len order) (judge_areas len areas)

-- start
abbrev pub start_if_before : Judged → ℕ → Areas → List ℕ → ℕ → ℕ → StartAnswer
start_if_before (Err n) order areas m ep handler = started_to m (Err n)
start_if_before (Ok _) order areas m ep handler =
    let t = start_before (machine_before order areas (length m)) m ep handler (first_sp (length m) areas) (first_rp (length m) areas) in
    started_to t.memory (started_as areas t.result.registers t.result.ended)

unfoldable pub start_answer_before : ℕ → Areas → List ℕ → ℕ → ℕ → StartAnswer
start_answer_before order areas m ep handler = start_if_before (judge_bounded_before (length m) order areas) order areas m ep handler

-- cycle
abbrev pub cycle_if_before : Judged → ℕ → List ℕ → RegisterFile → CycleAnswer
cycle_if_before (Err n) order m r = cycled_to r m (Err n)
cycle_if_before (Ok _) order m r =
    let t = cycle_before (machine_before order r.areas (length m)) m r.registers in
    cycled_to r t.memory (cycled_as r.areas t.result.registers t.result.ended)

unfoldable pub cycle_answer_before : ℕ → List ℕ → RegisterFile → CycleAnswer
cycle_answer_before order m r = cycle_if_before (judge_bounded_before (length m) order r.areas) order m r

-- run
abbrev pub run_if_before : Judged → ℕ → List ℕ → RegisterFile → ℕ → RunAnswer
run_if_before (Err n) order m r budget = ran_to r budget m (Err n)
run_if_before (Ok _) order m r budget =
    let machine = machine_before order r.areas (length m) in
    let n = done_before machine budget (begun m r.registers) in
    run_for r budget n (cycles_before machine n (begun m r.registers))

unfoldable pub run_answer_before : ℕ → List ℕ → RegisterFile → ℕ → RunAnswer
run_answer_before order m r budget = run_if_before (judge_bounded_before (length m) order r.areas) order m r budget

-- the list machine: -4101, -4102 and -4111, then the input list, then the image's place and the room that was lent
unfoldable pub judge_begin_before : ℕ → ℕ → Areas → List ℕ → List ℕ → Judged
judge_begin_before len order areas kinds operands = after (judge_bounded_before len order areas) (judged_arrays kinds operands)

unfoldable pub judge_follow_before : ℕ → ℕ → Areas → List ℕ → List ℕ → ℕ → Judged → Judged
judge_follow_before len order areas kinds operands base room =
    after (judge_begin_before len order areas kinds operands) (judge_image base (image_cells (listed kinds operands)) room)

abbrev pub follow_if_before : Judged → MachineBefore → ℕ → Listing → List ℕ → Stand → ℕ → FollowResult
follow_if_before (Err r) machine base l m start items = followed_to m start (Err r)
follow_if_before (Ok _) machine base l m start items =
    let r = run_before machine base l items (resuming l (position_of m start)) in
    followed_to r.position.memory start (Ok (ran_of r))

unfoldable pub resume_in_before : Judged → ℕ → Areas → List ℕ → List ℕ → ℕ → List ℕ → Stand → ℕ → FollowResult
resume_in_before room order areas kinds operands base m start items =
    follow_if_before (judge_follow_before (length m) order areas kinds operands base room) (machine_before order areas (length m)) base
    (listed kinds operands)
    m
    start
    items

-- list_resume, and list_run, from item 0 on
abbrev pub resume_before : ℕ → Areas → List ℕ → List ℕ → ℕ → List ℕ → Stand → ℕ → FollowResult
resume_before order areas kinds operands base m start items = resume_in_before passed order areas kinds operands base m start items

abbrev pub follow_before : ℕ → Areas → List ℕ → List ℕ → ℕ → List ℕ → ℕ → ℕ → ℕ → FollowResult
follow_before order areas kinds operands base m sp rp items =
    resume_before order areas kinds operands base m (stand_at 0 false sp rp) items
