-- With no table nothing has changed: the machine whose table is two zeros is, step by step and whatever its areas are, the machine as it was before tables.
use Rattle.cell.specs.Refusals.{Judged, passed}
use Rattle.std.specs.Prelude.{◌≡◌, Bool, List, ℕ}
use Rattle.cell.specs.declared.Fault.{Fault}
use Rattle.machine.specs.Places.{Width, one_byte, one_cell, no_table, place_of}
use Rattle.exceptions.specs.Exceptions.{exception_of}
use Rattle.throws.specs.Throws.{CycleState, throw_of, next_of}
use Rattle.machine.specs.declared.Machine.{Machine}
use Rattle.machine.specs.declared.Registers.{Registers}
use Rattle.machine.specs.declared.Access.{Access}
use Rattle.machine.specs.declared.Access.TheVariants.{NamedRead, NamedWrite}
use Rattle.machine.specs.declared.Exception.{Exception}
use Rattle.bounds.specs.Bounds.{machine_of}
use Rattle.areas.specs.declared.Areas.{Areas}
use Rattle.areas.specs.declared.RegisterFile.{RegisterFile}
use Rattle.cycles.specs.Cycles.{cycle_of, cycles_of}
use Rattle.cycles.specs.Counts.{done_of}
use Rattle.processor_start.specs.Starting.{start_of}
use Rattle.processor_start.specs.Answers.{start_answer}
use Rattle.processor.specs.Answers.{cycle_answer, given_of, run_answer}
use Rattle.pack_layout.specs.Listing.{Listing}
use Rattle.list_machine.specs.ListMachine.{Position, carry_out}
use Rattle.list_machine.specs.Runs.{Run, run_of}
use Rattle.list_proposing.specs.declared.Stand.{Stand}
use Rattle.list_following.specs.Follow.{resume_in, resume_of, follow_of}
use Rattle.processor_calls.specs.Machines.{start_call, cycle_call, run_call}
use Rattle.list_calls.specs.Lists.{resume_call, list_call}
use Rattle.before_tables.specs.Machines.{MachineBefore, machine_before}
use Rattle.before_tables.specs.Places.{place_before}
use Rattle.before_tables.specs.Throws.{exception_before, throw_before, next_before}
use Rattle.before_tables.specs.Cycles.{start_before, cycle_before, cycles_before, done_before}
use Rattle.before_tables.specs.Lists.{carry_before, run_before}
use Rattle.before_tables.specs.Answers.{judge_bounded_before, start_answer_before, cycle_answer_before, run_answer_before, resume_in_before, resume_before, follow_before}
use Rattle.before_tables.specs.Calls.{start_call_before, cycle_call_before, run_call_before, resume_call_before, list_call_before}

-- areas that are not refused, with a memory and a byte order that are not
abbrev pub Taken : ℕ → ℕ → Areas → Type 0
Taken order len areas = judge_bounded_before len order areas ≡ passed

module _ (order len : ℕ) (areas : Areas) where
  -- the machine without a table, and the machine as it was
  abbrev pub untabled : Machine
  untabled = machine_of order areas no_table len

  abbrev pub before : MachineBefore
  before = machine_before order areas len

  -- a cell's place for any access, and a byte's, which C@ reads and C! writes
  abbrev pub SamePlaceFor : Width → Access → ℕ → Type 0
  SamePlaceFor w access a = place_of untabled w access len a ≡ place_before before w access len a

  abbrev pub SamePlaceIn : Type 0
  SamePlaceIn = (a : ℕ) → ((access : Access) → SamePlaceFor one_cell access a) × SamePlaceFor one_byte NamedRead a × SamePlaceFor one_byte NamedWrite a

  -- what is thrown for a fault, a throw, and NEXT
  abbrev pub SameExceptionIn : Type 0
  SameExceptionIn = (f : Fault) → exception_of untabled f ≡ exception_before before f

  abbrev pub SameThrowIn : Type 0
  SameThrowIn = (m : List ℕ) (r : Registers) (e : Exception) → throw_of untabled m r e ≡ throw_before before m r e

  abbrev pub SameNextIn : Type 0
  SameNextIn = (m : List ℕ) (r : Registers) → next_of untabled m r ≡ next_before before m r

  -- a start, one cycle, any number of them, and the cycles that a budget allows, from any state
  abbrev pub SameStartIn : Type 0
  SameStartIn = (m : List ℕ) (ep handler sp rp : ℕ) → start_of untabled m ep handler sp rp ≡ start_before before m ep handler sp rp

  abbrev pub SameCycleIn : Type 0
  SameCycleIn = (m : List ℕ) (r : Registers) → cycle_of untabled m r ≡ cycle_before before m r

  abbrev pub SameCyclesIn : Type 0
  SameCyclesIn = (n : ℕ) (s : CycleState) → cycles_of untabled n s ≡ cycles_before before n s

  abbrev pub SameDoneIn : Type 0
  SameDoneIn = (budget : ℕ) (s : CycleState) → done_of untabled budget s ≡ done_before before budget s

  -- an item of the list machine, and a run, from any position
  abbrev pub SameCarryIn : Type 0
  SameCarryIn = (base : ℕ) (l : Listing) (p : Position) → carry_out untabled base l p ≡ carry_before before base l p

  abbrev pub SameRunIn : Type 0
  SameRunIn = (base : ℕ) (l : Listing) (k : ℕ) (s : Run) → run_of untabled base l k s ≡ run_before before base l k s

-- each for all areas that are not refused
abbrev pub ForTaken : (ℕ → ℕ → Areas → Type 0) → Type 0
ForTaken claim = (order len : ℕ) (areas : Areas) → Taken order len areas → claim order len areas

abbrev pub SamePlace : Type 0
SamePlace = ForTaken SamePlaceIn

abbrev pub SameException : Type 0
SameException = ForTaken SameExceptionIn

abbrev pub SameThrow : Type 0
SameThrow = ForTaken SameThrowIn

abbrev pub SameNext : Type 0
SameNext = ForTaken SameNextIn

abbrev pub SameStart : Type 0
SameStart = ForTaken SameStartIn

abbrev pub SameCycle : Type 0
SameCycle = ForTaken SameCycleIn

abbrev pub SameCycles : Type 0
SameCycles = ForTaken SameCyclesIn

abbrev pub SameDone : Type 0
SameDone = ForTaken SameDoneIn

abbrev pub SameCarry : Type 0
SameCarry = ForTaken SameCarryIn

abbrev pub SameRun : Type 0
SameRun = ForTaken SameRunIn

-- what the calls answer with two zeros for a table, whatever the areas are, a refusal included
abbrev pub SameStartAnswer : Type 0
SameStartAnswer =
    (order : ℕ) (areas : Areas) (m : List ℕ) (ep handler : ℕ)
    → start_answer order areas no_table m ep handler ≡ start_answer_before order areas m ep handler

abbrev pub SameCycleAnswer : Type 0
SameCycleAnswer = (order : ℕ) (m : List ℕ) (r : RegisterFile) → cycle_answer order no_table m r ≡ cycle_answer_before order m r

abbrev pub SameRunAnswer : Type 0
SameRunAnswer =
    (order : ℕ) (m : List ℕ) (r : RegisterFile) (budget : ℕ)
    → run_answer (given_of order no_table m r budget) ≡ run_answer_before order m r budget

abbrev pub SameResumeIn : Type 0
SameResumeIn =
    (room : Judged) (order : ℕ) (areas : Areas) (kinds operands : List ℕ) (base : ℕ) (m : List ℕ) (start : Stand) (items : ℕ)
    → resume_in room order areas no_table kinds operands base m start items ≡ resume_in_before room order areas kinds operands base m start items

abbrev pub SameResume : Type 0
SameResume =
    (order : ℕ) (areas : Areas) (kinds operands : List ℕ) (base : ℕ) (m : List ℕ) (start : Stand) (items : ℕ)
    → resume_of order areas no_table kinds operands base m start items ≡ resume_before order areas kinds operands base m start items

abbrev pub SameFollow : Type 0
SameFollow =
    (order : ℕ) (areas : Areas) (kinds operands : List ℕ) (base : ℕ) (m : List ℕ) (sp rp items : ℕ)
    → follow_of order areas no_table kinds operands base m sp rp items ≡ follow_before order areas kinds operands base m sp rp items

-- what the exported calls leave and answer, whatever arrays they are lent
abbrev pub SameStartCall : Type 0
SameStartCall =
    (order : ℕ) (areas : Areas) (m : List ℕ) (ep handler : ℕ) (registers out : List ℕ)
    → start_call order areas no_table m ep handler registers out ≡ start_call_before order m registers out areas ep handler

abbrev pub SameCycleCall : Type 0
SameCycleCall = (order : ℕ) (m registers out : List ℕ) → cycle_call order no_table m registers out ≡ cycle_call_before order m registers out

abbrev pub SameRunCall : Type 0
SameRunCall =
    (order : ℕ) (m registers : List ℕ) (budget : ℕ) (out : List ℕ)
    → run_call (given_of order no_table m registers budget) out ≡ run_call_before order m registers out budget

abbrev pub SameResumeCall : Type 0
SameResumeCall =
    (order : ℕ) (kinds operands : List ℕ) (base : ℕ) (m : List ℕ) (item : ℕ) (ran : Bool) (pointers : List ℕ) (items : ℕ) (out : List ℕ)
    → resume_call order kinds operands base m no_table item ran pointers items out
    ≡ resume_call_before order kinds operands base m item ran pointers items out

abbrev pub SameListCall : Type 0
SameListCall =
    (order : ℕ) (kinds operands : List ℕ) (base : ℕ) (m pointers : List ℕ) (items : ℕ) (out : List ℕ)
    → list_call order kinds operands base m no_table pointers items out ≡ list_call_before order kinds operands base m pointers items out
