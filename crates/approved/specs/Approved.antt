-- What is approved is what runs. An office approves a listing; `pack` makes its cells; they are saved as an object module, and a centre, of the same
-- byte order or the other, loads the file and runs it. The claims join what `pack`, `save_object`, `load_object` and `run` promise with demand 3
-- (document 01, Listings and Modules), so that nothing on the way is left to the reader.
use Rattle.std.specs.Prelude.{◌≡◌, List, ℕ, ◌+◌, ◌*◌, ◌^◌, ◌≤◌, ◌<◌, length, get_or, Ok}
use Rattle.cell.specs.Memory.{Bytewise}
use Rattle.cell.specs.Refusals.{GoodMachine, passed}
use Rattle.cycles.specs.Counts.{begun}
use Rattle.machine.specs.declared.Table.{Table}
use Rattle.areas.specs.Areas.{judge_areas, filed as with_areas}
use Rattle.code_tables.specs.Tables.{judge_table}
use Rattle.bounds.specs.Bounds.{judge_bounded, machine_of, first_sp, first_rp}
use Rattle.areas.specs.declared.Areas.{Areas}
use Rattle.processor_start.specs.Answers.{started_to, start_answer}
use Rattle.processor_start.specs.Starting.{four_cells}
use Rattle.processor_start.specs.declared.Started.TheVariants.{Ready}
use Rattle.pack_layout.specs.Listing.{Listing, listed}
use Rattle.pack_layout.specs.File.{filed, file_base}
use Rattle.packer.specs.Pack.{PackResult, pack_of}
use Rattle.pack_files.specs.Files.{pack_file_of}
use Rattle.short_judging.specs.ShortFile.{short_base, short_listing}
use Rattle.short_packing.specs.Packing.{pack_short_of}
use Rattle.module_loading.specs.Answers.{LoadResult, load_of}
use Rattle.module_saving.specs.Answers.{save_of}
use Rattle.module_judging.specs.Conditions.{GoodPlace}
use Rattle.module_laws.specs.Theorems.{saved_file}
use Rattle.list_machine.specs.Runs.{run_of, beginning}
use Rattle.demand3.specs.Demand3.{first_registers, Agree, RunAgrees}

-- operands as they are lent: cells
abbrev pub Cells : List ℕ → Type 0
Cells operands = (i : ℕ) → i < length operands → get_or operands i 0 < 2 ^ 32

-- what a packing of a listing at a base answered: that of `pack`, of `pack_file` or of `pack_short`
pub data Packs (order : ℕ) : ℕ → Listing → PackResult → Type 0 where
  of_arrays : (kinds operands : List ℕ) (base : ℕ) (output : List ℕ) → Cells operands
      → Packs order base (listed kinds operands) (pack_of order kinds operands base output)
  of_file : (file output : List ℕ) → Bytewise file → Packs order (file_base file) (filed file) (pack_file_of order file output)
  of_short : (file output : List ℕ) → Bytewise file → Packs order (short_base file) (short_listing file) (pack_short_of order file output)

-- the packed cells stand in a memory, byte by byte from an address on
pub record StandsAt (p : PackResult) (m : List ℕ) (a : ℕ) : Type 0 where
  pub inside : a + 4 * p.count ≤ length m
  pub bytes : (i : ℕ) → i < 4 * p.count → get_or m (a + i) 0 ≡ get_or p.output i 0

-- from the cell at the base on, with any areas and any SP and RP, the processor runs as the listing reads, for any number k of items: its state is that of
-- demand 3, and where the memory is one that is lent and the areas are taken, so is what `run` answers
pub record RunsAsListed (order base : ℕ) (l : Listing) (m : List ℕ) : Type 0 where
  pub agrees : (areas : Areas) (table : Table) (sp rp k : ℕ)
      → Agree (machine_of order areas table (length m)) (begun m (first_registers (machine_of order areas table (length m)) base m sp rp))
      (run_of (machine_of order areas table (length m)) base l k (beginning l m sp rp))
  pub answers : (areas : Areas) (table : Table) → judge_bounded (length m) order areas table ≡ passed → (sp rp k : ℕ)
      → RunAgrees order areas table base m sp rp (run_of (machine_of order areas table (length m)) base l k (beginning l m sp rp))

-- and `start` at the base, with any handler and these areas, makes the machine ready there, the stacks at their tops: the memory with its four cells set runs as
-- the listing reads
pub record StartsAsListed (order : ℕ) (areas : Areas) (table : Table) (base : ℕ) (l : Listing) (m : List ℕ) (handler : ℕ) : Type 0 where
  pub ready :
      start_answer order areas table m base handler
      ≡ started_to (four_cells (machine_of order areas table (length m)) m handler)
      (Ok (Ready (with_areas areas
      (first_registers (machine_of order areas table (length m)) base (four_cells (machine_of order areas table (length m)) m handler) (first_sp (length m) areas)
      (first_rp (length m) areas)))))
  pub runs : RunsAsListed order base l (four_cells (machine_of order areas table (length m)) m handler)

-- what was packed, in memory at its base, runs as its listing reads
abbrev pub PackedRuns : Type 0
PackedRuns =
    (order base : ℕ) (l : Listing) (p : PackResult) → Packs order base l p → p.number ≡ 0
    → (m : List ℕ) → StandsAt p m base
    → RunsAsListed order base l m

-- what was packed for `theirs`, the byte order of the office, stands anywhere in the office's memory, at b, and is saved from there; the file is loaded
-- at the base on a machine of the order `ours`, into any memory where it fits: the load is accepted, and that machine runs as the listing reads
pub record Arrives (ours base : ℕ) (l : Listing) (r : LoadResult) (count : ℕ) : Type 0 where
  pub accepted : r.number ≡ 0
  pub counted : r.count ≡ count
  pub runs : RunsAsListed ours base l r.memory
  pub starts : (areas : Areas) (table : Table) → judge_areas (length r.memory) areas ≡ passed → judge_table (length r.memory) table ≡ passed
      → (handler : ℕ) → StartsAsListed ours areas table base l r.memory handler

abbrev pub ApprovedRuns : Type 0
ApprovedRuns =
    (theirs base : ℕ) (l : Listing) (p : PackResult) → Packs theirs base l p → p.number ≡ 0
    → (office : List ℕ) (b : ℕ) → Bytewise office → StandsAt p office b
    → (out : List ℕ) → (save_of theirs office b p.count out).number ≡ 0
    → (ours : ℕ) (centre : List ℕ) → GoodMachine (length centre) ours → GoodPlace (length centre) base p.count
    → Arrives ours base l (load_of ours centre (saved_file (save_of theirs office b p.count out)) base) p.count
