-- Rules cannot write the table. Document 02, (b): whatever an instruction does, thrown or not, every byte of the table is what it was; so after any number of cycles or
-- items, and after each call, refused or not.
use Rattle.cell.specs.Refusals.{Judged, passed}
use Rattle.cell.specs.Place.{good}
use Rattle.std.specs.Prelude.{◌≡◌, Bool, true, false, List, ◌⊎◌, ℕ, ◌+◌, ◌≤◌, ◌<◌, length, get_or}
use Rattle.machine.specs.Places.{Width, place_of}
use Rattle.machine.specs.Commits.{width_of}
use Rattle.throws.specs.Throws.{CycleState}
use Rattle.machine.specs.declared.Table.{Table}
use Rattle.machine.specs.declared.Access.{Access}
use Rattle.machine.specs.declared.Access.TheVariants.{DataRead, DataWrite, ReturnRead, ReturnWrite, NamedRead, NamedWrite, Stream, Push}
use Rattle.bounds.specs.Bounds.{judge_bounded, machine_of}
use Rattle.areas.specs.declared.Areas.{Areas}
use Rattle.areas.specs.declared.RegisterFile.{RegisterFile}
use Rattle.cycles.specs.Cycles.{cycles_of}
use Rattle.processor_start.specs.Answers.{start_answer}
use Rattle.processor.specs.Answers.{Given, cycle_answer, run_answer}
use Rattle.pack_layout.specs.Listing.{Listing}
use Rattle.list_machine.specs.Runs.{Run, run_of}
use Rattle.list_proposing.specs.declared.Stand.{Stand}
use Rattle.list_following.specs.Follow.{resume_in, resume_of, follow_of}

-- which accesses write
abbrev pub is_write : Access → Bool
is_write DataRead = false
is_write DataWrite = true
is_write ReturnRead = false
is_write ReturnWrite = true
is_write NamedRead = false
is_write NamedWrite = true
is_write Stream = false
is_write Push = true

-- a place that is found good for a write lies before the table or behind it
abbrev pub PlacesSpare : Type 0
PlacesSpare =
    (len order : ℕ) (areas : Areas) (table : Table) → judge_bounded len order areas table ≡ passed
    → (width : Width) (access : Access) (a : ℕ)
    → is_write access ≡ true
    → place_of (machine_of order areas table len) width access len a ≡ good
    → (a + width_of width ≤ table.first.0) ⊎ (table.end.0 ≤ a)

-- every byte of the table is in m2 as it was in m
abbrev pub Keeps : Table → List ℕ → List ℕ → Type 0
Keeps table m m2 = (a : ℕ) → table.first.0 ≤ a → a < table.end.0 → get_or m2 a 0 ≡ get_or m a 0

-- n cycles from any state, with any areas and a table that are taken for its memory
abbrev pub CyclesKeep : Type 0
CyclesKeep =
    (order : ℕ) (areas : Areas) (table : Table) (n : ℕ) (s : CycleState)
    → judge_bounded (length s.memory) order areas table ≡ passed
    → Keeps table s.memory (cycles_of (machine_of order areas table (length s.memory)) n s).memory

-- what each call of the processor leaves
abbrev pub StartKeeps : Type 0
StartKeeps =
    (order : ℕ) (areas : Areas) (table : Table) (m : List ℕ) (ep handler : ℕ) → Keeps table m (start_answer order areas table m ep handler).memory

abbrev pub CycleKeeps : Type 0
CycleKeeps = (order : ℕ) (table : Table) (m : List ℕ) (r : RegisterFile) → Keeps table m (cycle_answer order table m r).memory

abbrev pub RunKeeps : Type 0
RunKeeps = (g : Given RegisterFile) → Keeps g.setting.table g.memory (run_answer g).memory

-- n items of the list machine from anywhere in a run
abbrev pub ItemsKeep : Type 0
ItemsKeep =
    (order : ℕ) (areas : Areas) (table : Table) (base : ℕ) (l : Listing) (n : ℕ) (s : Run)
    → judge_bounded (length s.position.memory) order areas table ≡ passed
    → Keeps table s.position.memory (run_of (machine_of order areas table (length s.position.memory)) base l n s).position.memory

-- what each call of the list machine leaves, and with room to be judged too
abbrev pub ListKeeps : Type 0
ListKeeps =
    (room : Judged) (order : ℕ) (areas : Areas) (table : Table) (kinds operands : List ℕ) (base : ℕ) (m : List ℕ) (start : Stand) (items : ℕ)
    → Keeps table m (resume_in room order areas table kinds operands base m start items).memory

abbrev pub ResumeKeeps : Type 0
ResumeKeeps =
    (order : ℕ) (areas : Areas) (table : Table) (kinds operands : List ℕ) (base : ℕ) (m : List ℕ) (start : Stand) (items : ℕ)
    → Keeps table m (resume_of order areas table kinds operands base m start items).memory

abbrev pub FollowKeeps : Type 0
FollowKeeps =
    (order : ℕ) (areas : Areas) (table : Table) (kinds operands : List ℕ) (base : ℕ) (m : List ℕ) (sp rp items : ℕ)
    → Keeps table m (follow_of order areas table kinds operands base m sp rp items).memory
