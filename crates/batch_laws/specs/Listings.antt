-- A packed rule over the forms of a batch runs as its listing reads: document 02, (k), joined with demand 3.
use Rattle.cell.specs.Refusals.{passed}
use Rattle.std.specs.Prelude.{◌≡◌, List, ◌⊎◌, ℕ, ◌+◌, ◌*◌, ◌≤◌, length}
use Rattle.machine.specs.declared.Machine.{Machine}
use Rattle.bounds.specs.Bounds.{judge_bounded, machine_of}
use Rattle.cycles.specs.Counts.{begun}
use Rattle.pack_layout.specs.Listing.{Listing}
use Rattle.pack_layout.specs.Packing.{image_cells, Legal}
use Rattle.list_machine.specs.Runs.{Run, stopped_by, run_of, beginning}
use Rattle.demand3.specs.Demand3.{Holds, first_registers, Agree}
use Rattle.processor.specs.Answers.{RunAnswer}
use Rattle.batch_forms.specs.Forms.{formed}
use Rattle.batches.specs.Batches.{Common, single}

-- the machine that every form is run on
abbrev pub machine_for : Common → Machine
machine_for b = machine_of b.setting.order b.registers.areas b.setting.table (length b.start)

-- the list machine on a form, k items of it
abbrev pub listed_on : Common → ℕ → Listing → ℕ → ℕ → List ℕ → ℕ → Run
listed_on b base l sp rp form k = run_of (machine_for b) base l k (beginning l (formed b.start b.address form) sp rp)

-- what a single run has to be where the listing stops by a reason
pub record StopsAs (x : ℕ) (r : Run) (s : RunAnswer) : Type 0 where
  pub number : s.number ≡ 1
  pub reason : s.reason ≡ x
  pub count : s.count ≡ r.cycles
  pub memory : s.memory ≡ r.position.memory

-- a form on which the rule runs as its listing reads, for any number of items; and where the listing stops within the budget, that stop is what the batch
-- counts, with the listing's reason, cycles and memory
pub record FormRuns (b : Common) (base : ℕ) (l : Listing) (sp rp : ℕ) (form : List ℕ) : Type 0 where
  pub agrees : (k : ℕ)
      → Agree (machine_for b) (begun (formed b.start b.address form) b.registers.registers) (listed_on b base l sp rp form k)
  pub counted : (k x : ℕ) → (listed_on b base l sp rp form k).course ≡ stopped_by x → (listed_on b base l sp rp form k).cycles ≤ b.budget
      → StopsAs x (listed_on b base l sp rp form k) (single b form)

-- with the image of a listing in the start memory, and the registers that a start at its base leaves, this holds of every form that fits and misses the image
abbrev pub FormsRunAsListed : Type 0
FormsRunAsListed =
    (b : Common) (base : ℕ) (l : Listing) (sp rp : ℕ)
    → judge_bounded (length b.start) b.setting.order b.registers.areas b.setting.table ≡ passed
    → Legal base l → Holds (machine_for b) base l b.start
    → b.registers.registers ≡ first_registers (machine_for b) base b.start sp rp
    → (form : List ℕ) → b.address + length form ≤ length b.start
    → (b.address + length form ≤ base) ⊎ (base + 4 * image_cells l ≤ b.address)
    → FormRuns b base l sp rp form
