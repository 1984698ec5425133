-- With no areas and no table nothing has changed: the machine whose stacks may have every cell of memory, and whose writes no table turns away, is, step by
-- step, the machine as it was before areas.
use Rattle.std.specs.Prelude.{◌≡◌, Bool, List, ◌∷◌, ℕ, ◌-◌, length}
use Rattle.cell.specs.Refusals.{Lent, Judged}
use Rattle.machine.specs.Places.{no_table, unbounded}
use Rattle.machine.specs.declared.Registers.{Registers}
use Rattle.cycles.specs.Cycles.{cycle_of, cycles_of}
use Rattle.cycles.specs.Counts.{begun, done_of}
use Rattle.areas.specs.Areas.{no_areas}
use Rattle.processor_start.specs.Starting.{start_of}
use Rattle.processor_start.specs.Answers.{start_answer}
use Rattle.processor.specs.Answers.{cycle_answer, given_of, run_answer}
use Rattle.pack_layout.specs.Listing.{Listing}
use Rattle.list_machine.specs.Runs.{Run, run_of}
use Rattle.list_proposing.specs.declared.Stand.{Stand}
use Rattle.list_following.specs.Follow.{resume_in}
use Rattle.processor_calls.specs.Machines.{start_call, cycle_call, run_call}
use Rattle.list_calls.specs.Lists.{resume_call}
use Rattle.before_areas.specs.Cycles.{start_before, cycle_before, cycles_before, done_before}
use Rattle.before_areas.specs.Lists.{run_before}
use Rattle.before_areas.specs.Answers.{with_zeros, start_answer_before, cycle_answer_before, run_answer_before, resume_before}
use Rattle.before_areas.specs.Calls.{start_call_before, cycle_call_before, run_call_before, resume_call_before}

-- one cycle, any number of them, and the cycles that a budget allows
abbrev pub SameCycle : Type 0
SameCycle =
    (order : ℕ) (m : List ℕ) (r : Registers) → Lent (length m)
    → cycle_of (unbounded order no_table (length m)) m r ≡ cycle_before order m r

abbrev pub SameCycles : Type 0
SameCycles =
    (order n : ℕ) (m : List ℕ) (r : Registers) → Lent (length m)
    → cycles_of (unbounded order no_table (length m)) n (begun m r) ≡ cycles_before order n (begun m r)

abbrev pub SameDone : Type 0
SameDone =
    (order budget : ℕ) (m : List ℕ) (r : Registers) → Lent (length m)
    → done_of (unbounded order no_table (length m)) budget (begun m r) ≡ done_before order budget (begun m r)

-- a start, where the stacks begin as they did
abbrev pub SameStart : Type 0
SameStart =
    (order : ℕ) (m : List ℕ) (ep handler : ℕ) → Lent (length m)
    → start_of (unbounded order no_table (length m)) m ep handler (length m - 0x100) (length m) ≡ start_before order m ep handler

-- a run of the list machine from any position
abbrev pub SameRun : Type 0
SameRun =
    (order base : ℕ) (l : Listing) (k : ℕ) (s : Run) → Lent (length s.position.memory)
    → run_of (unbounded order no_table (length s.position.memory)) base l k s ≡ run_before order base l k s

-- what the calls answer with four zeros for areas and two for a table
abbrev pub SameStartAnswer : Type 0
SameStartAnswer =
    (order : ℕ) (m : List ℕ) (ep handler : ℕ) → start_answer order no_areas no_table m ep handler ≡ start_answer_before order m ep handler

abbrev pub SameCycleAnswer : Type 0
SameCycleAnswer = (order : ℕ) (m : List ℕ) (r : Registers) → cycle_answer order no_table m (with_zeros r) ≡ cycle_answer_before order m r

abbrev pub SameRunAnswer : Type 0
SameRunAnswer =
    (order : ℕ) (m : List ℕ) (r : Registers) (budget : ℕ)
    → run_answer (given_of order no_table m (with_zeros r) budget) ≡ run_answer_before order m r budget

abbrev pub SameResume : Type 0
SameResume =
    (room : Judged) (order : ℕ) (kinds operands : List ℕ) (base : ℕ) (m : List ℕ) (start : Stand) (items : ℕ)
    → resume_in room order no_areas no_table kinds operands base m start items ≡ resume_before room order kinds operands base m start items

-- an array with four zeros for areas: eight places for `registers`, six for `pointers`, and whatever follows
abbrev pub eight : ℕ → ℕ → ℕ → ℕ → List ℕ → List ℕ
eight e a s r rest = e ∷ a ∷ s ∷ r ∷ 0 ∷ 0 ∷ 0 ∷ 0 ∷ rest

abbrev pub six : ℕ → ℕ → List ℕ → List ℕ
six s r rest = s ∷ r ∷ 0 ∷ 0 ∷ 0 ∷ 0 ∷ rest

-- what the exported calls leave and answer, the arrays that they are lent included
abbrev pub SameStartCall : Type 0
SameStartCall =
    (order : ℕ) (m : List ℕ) (ep handler e a s r : ℕ) (rest out : List ℕ)
    → start_call order no_areas no_table m ep handler (eight e a s r rest) out ≡ start_call_before order m (eight e a s r rest) out ep handler

abbrev pub SameCycleCall : Type 0
SameCycleCall =
    (order : ℕ) (m : List ℕ) (e a s r : ℕ) (rest out : List ℕ)
    → cycle_call order no_table m (eight e a s r rest) out ≡ cycle_call_before order m (eight e a s r rest) out

abbrev pub SameRunCall : Type 0
SameRunCall =
    (order : ℕ) (m : List ℕ) (e a s r : ℕ) (rest : List ℕ) (budget : ℕ) (out : List ℕ)
    → run_call (given_of order no_table m (eight e a s r rest) budget) out ≡ run_call_before order m (eight e a s r rest) out budget

abbrev pub SameResumeCall : Type 0
SameResumeCall =
    (order : ℕ) (kinds operands : List ℕ) (base : ℕ) (m : List ℕ) (item : ℕ) (ran : Bool) (s r : ℕ) (rest : List ℕ) (items : ℕ)
    (out : List ℕ)
    → resume_call order kinds operands base m no_table item ran (six s r rest) items out
    ≡ resume_call_before order kinds operands base m item ran (six s r rest) items out
