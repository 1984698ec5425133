-- Demand 3 (document 01's own term): a packed rule runs as its listing reads. One claim about whole runs of any length.
--
-- Document 01, Listings, clause by clause:
-- The listing passes the input list, and the base neither -4104 nor -4110: `Legal`.
-- The image lies whole in memory, in the order of its bytes: `Holds`.
-- The beginnings, with SP and RP shared: item 0 here, and there the cell at the base just fetched: `beginning`, `first_registers`;
-- nothing is asked of SP, RP or of the other bytes of memory. Document 02, (a): the claim is made of every machine, and so of every areas.
-- A run of the list machine: `run_of k`, for every k.
-- The cycles that its items count: the run's `cycles`, and so many cycles of the processor are made: `cycles_of`.
-- The same memory, SP and RP, and stopped exactly if the list machine is, with the same reason: `Agree`. Its `exact` says that the processor had not
-- stopped before the last of the counted cycles.
use Rattle.cell.specs.Refusals.{passed}
use Rattle.std.specs.Prelude.{◌≡◌, List, ℕ, ◌+◌, ◌*◌, ◌≤◌, ◌<◌, length, get_or, Ok}
use Rattle.cell.specs.Memory.{cell_at}
use Rattle.throws.specs.Throws.{CycleState}
use Rattle.machine.specs.declared.Machine.{Machine}
use Rattle.machine.specs.declared.Registers.{Registers}
use Rattle.machine.specs.declared.Ended.{Ended}
use Rattle.machine.specs.declared.Ended.TheVariants as ended
use Rattle.machine.specs.declared.Table.{Table}
use Rattle.areas.specs.Areas.{filed}
use Rattle.bounds.specs.Bounds.{judge_bounded, machine_of}
use Rattle.areas.specs.declared.Areas.{Areas}
use Rattle.areas.specs.declared.RegisterFile.{RegisterFile}
use Rattle.cycles.specs.Cycles.{cycles_of}
use Rattle.cycles.specs.Counts.{begun, done_of}
use Rattle.processor.specs.Answers.{ran_to, given_of, run_answer, RunAnswered}
use Rattle.processor.specs.declared.Ran.TheVariants.{Spent, Stopped}
use Rattle.pack_layout.specs.Listing.{Listing}
use Rattle.pack_layout.specs.Output.{bytes_of}
use Rattle.pack_layout.specs.Packing.{image_cells, image, Legal}
use Rattle.list_machine.specs.Runs.{Course, goes_on, stopped_by, stood_outside, Run, run_of, beginning}

-- the cells from the base on are the image
pub record Holds (machine : Machine) (base : ℕ) (l : Listing) (m : List ℕ) : Type 0 where
  pub inside : base + 4 * image_cells l ≤ length m
  pub cells : (j : ℕ) → j < image_cells l → cell_at machine.order m (base + 4 * j) ≡ get_or (image base l) j 0

-- the registers once NEXT has fetched the cell at the base
abbrev pub first_registers : Machine → ℕ → List ℕ → ℕ → ℕ → Registers
first_registers machine base m sp rp = record { ep = base + 4; a = cell_at machine.order m base; sp = sp; rp = rp }

-- whether a machine has stopped, and by what reason
pub data Stop : Type 0 where
  running : Stop
  stopped_with : ℕ → Stop

abbrev pub stop_of : Ended → Stop
stop_of ended.Went = running
stop_of (ended.Threw f) = running
stop_of (ended.Stopped x) = stopped_with x

abbrev pub stop_in : Course → Stop
stop_in goes_on = running
stop_in (stopped_by x) = stopped_with x
stop_in (stood_outside why) = running

-- a run of the list machine against the processor from the state s
pub record Agree (machine : Machine) (s : CycleState) (r : Run) : Type 0 where
  pub memory : (cycles_of machine r.cycles s).memory ≡ r.position.memory
  pub sp : (cycles_of machine r.cycles s).result.registers.sp ≡ r.position.sp
  pub rp : (cycles_of machine r.cycles s).result.registers.rp ≡ r.position.rp
  pub stop : stop_of (cycles_of machine r.cycles s).result.ended ≡ stop_in r.course
  pub exact : done_of machine r.cycles s ≡ r.cycles

abbrev pub Demand3 : Type 0
Demand3 =
    (machine : Machine) (base : ℕ) (l : Listing) (m : List ℕ) (sp rp k : ℕ)
    → Legal base l
    → Holds machine base l m
    → Agree machine (begun m (first_registers machine base m sp rp)) (run_of machine base l k (beginning l m sp rp))

-- the image as the packer writes it, byte by byte from the base on
pub record HoldsBytes (machine : Machine) (base : ℕ) (l : Listing) (m : List ℕ) : Type 0 where
  pub inside : base + 4 * image_cells l ≤ length m
  pub bytes : (i : ℕ) → i < 4 * image_cells l → get_or m (base + i) 0 ≡ get_or (bytes_of machine.order (image base l)) i 0

-- such a memory holds the image
abbrev pub PackedHolds : Type 0
PackedHolds = (machine : Machine) (base : ℕ) (l : Listing) (m : List ℕ) → Legal base l → HoldsBytes machine base l m → Holds machine base l m

-- what `run` answers with a budget of the counted cycles: stopped, with the reason and that many cycles done, or spent
abbrev pub ran_with : Stop → RegisterFile → ℕ → RunAnswered
ran_with running r n = Ok (Spent r)
ran_with (stopped_with x) r n = Ok (Stopped r x n)

pub record RunAgrees (order : ℕ) (areas : Areas) (table : Table) (base : ℕ) (m : List ℕ) (sp rp : ℕ) (r : Run) : Type 0 where
  pub registers : Registers
  pub answer :
      run_answer (given_of order table m (filed areas (first_registers (machine_of order areas table (length m)) base m sp rp)) r.cycles)
      ≡ ran_to (filed areas (first_registers (machine_of order areas table (length m)) base m sp rp)) r.cycles r.position.memory
      (ran_with (stop_in r.course) (filed areas registers) r.cycles)
  pub sp_is : registers.sp ≡ r.position.sp
  pub rp_is : registers.rp ≡ r.position.rp

abbrev pub RunFollows : Type 0
RunFollows =
    (order : ℕ) (areas : Areas) (table : Table) (base : ℕ) (l : Listing) (m : List ℕ) (sp rp k : ℕ)
    → judge_bounded (length m) order areas table ≡ passed
    → Legal base l
    → Holds (machine_of order areas table (length m)) base l m
    → RunAgrees order areas table base m sp rp (run_of (machine_of order areas table (length m)) base l k (beginning l m sp rp))
