-- A form that misses the image leaves it in memory; the rest is demand 3, and that a stop is the same under every larger budget.
-- Assumes nothing.
use Rattle.cell.specs.Refusals.{passed}
use mathlib.Core.Path.{◌≡◌, refl, sym, ap, subst, ◌∙◌}
use mathlib.Core.Logic.{◌⊎◌, inl, inr}
use mathlib.Core.List.{List, ◌++◌, append_assoc}
use Prim.Native.Nat.{ℕ, ◌+◌, ◌-◌, ◌*◌, ◌≤◌, ◌<◌}
use native.Mathlib.Omega.{arith}
use lib.ListN.{length, get_or, take, drop, length-append, get_or-append}
use lib.Seq.{length-take-le, get_or-take, get_or-drop, get_or-append-add}
use Rattle.cell.specs.Memory.{cell_at, Alike}
use Rattle.cell.proofs.MemoryLaws.{cell_alike}
use Rattle.machine.specs.declared.Registers.{Registers}
use Rattle.machine.specs.declared.Table.{Table}
use Rattle.areas.specs.Areas.{filed}
use Rattle.areas.specs.declared.Areas.{Areas}
use Rattle.areas.specs.declared.RegisterFile.{RegisterFile}
use Rattle.bounds.specs.Bounds.{judge_bounded, machine_of}
use Rattle.cycles.specs.Counts.{begun}
use Rattle.pack_layout.specs.Listing.{Listing}
use Rattle.pack_layout.specs.Packing.{image_cells, Legal}
use Rattle.pack_layout.proofs.Listing.{some_item}
use Rattle.pack_layout.proofs.Packing.{at_inside}
use Rattle.list_machine.specs.Runs.{Run, stopped_by, run_of, beginning}
use Rattle.demand3.specs.Demand3.{Holds, first_registers, Agree, stop_in, ran_with}
use Rattle.demand3.proofs.Image.{still_holds}
use Rattle.demand3.proofs.Simulation.{demand3}
use Rattle.demand3.proofs.Budget.{run_follows}
use Rattle.processor.specs.Answers.{ran_to, given_of, run_answer}
use Rattle.processor_laws.proofs.BudgetLaws.{larger_budget}
use Rattle.batch_forms.specs.Forms.{formed}
use Rattle.batches.specs.Batches.{Common, single}
use Rattle.batch_laws.specs.Listings.{machine_for, listed_on, StopsAs, FormsRunAsListed}
use Rattle.batch_laws.proofs.Forms.{formed_length}

-- bytes in front of a form, and behind it
module _ (start form : List ℕ) (a : ℕ) (h : a + length form ≤ length start) where
  front_length : length (take a start) ≡ a
  front_length = length-take-le a start (omega arith)

  byte_before : (i : ℕ) → i < a → get_or (formed start a form) i 0 ≡ get_or start i 0
  byte_before i l =
      rw append_assoc
      (get_or-append (take a start) (form ++ drop (a + length form) start) 0 i (rw front_length l) ∙ get_or-take a start i 0 l)

  byte_behind : (i : ℕ) → a + length form ≤ i → get_or (formed start a form) i 0 ≡ get_or start i 0
  byte_behind i l =
      let head = take a start ++ form in
      let n : length head ≡ a + length form = length-append (take a start) form ∙ ap (λ (k : ℕ). k + length form) front_length in
      let e : i ≡ length head + (i - (a + length form)) = omega (arith, n) in
      let d : a + length form + (i - (a + length form)) ≡ i = omega arith in
      ap (λ (k : ℕ). get_or (formed start a form) k 0) e ∙ get_or-append-add head (drop (a + length form) start) (i - (a + length form)) 0
      ∙ get_or-drop (a + length form) start (i - (a + length form)) 0 ∙ ap (λ (k : ℕ). get_or start k 0) d

  pub form_misses : (lo hi : ℕ) → (a + length form ≤ lo) ⊎ (hi ≤ a) → Alike lo hi start (formed start a form)
  unfolding Alike
  form_misses lo hi (inl below) j p q = byte_behind j (omega arith)
  form_misses lo hi (inr above) j p q = byte_before j (omega arith)

-- the single run of a form, where the listing stops
module _ (b : Common) (base : ℕ) (l : Listing) (sp rp : ℕ) (form : List ℕ) (k x : ℕ) where
  abbrev there : List ℕ
  there = formed b.start b.address form

  abbrev listing : Run
  listing = run_of (machine_for b) base l k (beginning l there sp rp)

  -- with the cycles of the listing as its budget, by what `run` promises
  ran_so : (r : RegisterFile) (s : Registers) → listing.course ≡ stopped_by x
      → run_answer (given_of b.setting.order b.setting.table there r listing.cycles)
      ≡ ran_to r listing.cycles listing.position.memory (ran_with (stop_in listing.course) (filed b.registers.areas s) listing.cycles)
      → StopsAs x listing (run_answer (given_of b.setting.order b.setting.table there r listing.cycles))
  ran_so r s c e =
      rw (e, c) (record { number = refl; reason = refl; count = refl; memory = refl })

  -- and with any larger one
  stops_as : listing.cycles ≤ b.budget
      → StopsAs x listing (run_answer (given_of b.setting.order b.setting.table there b.registers listing.cycles))
      → StopsAs x listing (single b form)
  stops_as h s =
      let g = given_of b.setting.order b.setting.table there b.registers listing.cycles in
      subst (StopsAs x listing) (sym (larger_budget g b.budget (λ e. absurd (omega (arith, e, s.number))) h)) s

-- what `run` answers for a listing, in a memory of a given length
module _ (order : ℕ) (areas : Areas) (table : Table) (base : ℕ) (l : Listing) (m : List ℕ) (sp rp k : ℕ) where
  abbrev Follows : ℕ → Type 0
  Follows len =
      let machine = machine_of order areas table len in
      let r = run_of machine base l k (beginning l m sp rp) in
      let given = filed areas (first_registers machine base m sp rp) in
      (s : Registers) × (run_answer (given_of order table m given r.cycles)
      ≡ ran_to given r.cycles r.position.memory (ran_with (stop_in r.course) (filed areas s) r.cycles))

  follows_at : (len : ℕ) → length m ≡ len → judge_bounded len order areas table ≡ passed → Legal base l
      → Holds (machine_of order areas table len) base l m → Follows len
  follows_at len e j ok h =
      subst (λ (n : ℕ). judge_bounded n order areas table ≡ passed → Holds (machine_of order areas table n) base l m → Follows n) e
      (λ q c. let f = run_follows order areas table base l m sp rp k q ok c in (f.registers, f.answer)) j h

-- a form that misses the image: the image is there still, and the registers are those of a start there
module _ (b : Common) (base : ℕ) (l : Listing) (sp rp : ℕ) (ok : Legal base l) (holds : Holds (machine_for b) base l b.start)
    (first : b.registers.registers ≡ first_registers (machine_for b) base b.start sp rp) (form : List ℕ)
    (h : b.address + length form ≤ length b.start) (misses : (b.address + length form ≤ base) ⊎ (base + 4 * image_cells l ≤ b.address)) where
  abbrev laid : List ℕ
  laid = formed b.start b.address form

  long : length laid ≡ length b.start
  long = formed_length b.start form b.address h

  alike : Alike base (base + 4 * image_cells l) b.start laid
  alike = form_misses b.start form b.address h base (base + 4 * image_cells l) misses

  holds_there : Holds (machine_for b) base l laid
  holds_there = still_holds (machine_for b) base l ok b.start laid holds alike long

  same_cell : cell_at b.setting.order laid base ≡ cell_at b.setting.order b.start base
  same_cell =
      let some = at_inside base l ok 0 (some_item l ok.input).0 in
      cell_alike base (base + 4 * image_cells l) b.setting.order b.start laid base alike (omega arith) (omega (arith, some))

  same_first : b.registers.registers ≡ first_registers (machine_for b) base laid sp rp
  same_first = first ∙ ap (λ (a : ℕ). record { ep = base + 4; a = a; sp = sp; rp = rp }) (sym same_cell)

  pub form_agrees : (k : ℕ) → Agree (machine_for b) (begun laid b.registers.registers) (listed_on b base l sp rp form k)
  form_agrees k = rw same_first (demand3 (machine_for b) base l laid sp rp k ok holds_there)

  pub form_counted : judge_bounded (length b.start) b.setting.order b.registers.areas b.setting.table ≡ passed
      → (k x : ℕ) → (listed_on b base l sp rp form k).course ≡ stopped_by x → (listed_on b base l sp rp form k).cycles ≤ b.budget
      → StopsAs x (listed_on b base l sp rp form k) (single b form)
  form_counted j k x c w =
      let areas = b.registers.areas in
      let f = follows_at b.setting.order areas b.setting.table base l laid sp rp k (length b.start) long j ok holds_there in
      let r = filed areas (first_registers (machine_for b) base laid sp rp) in
      stops_as b base l sp rp form k x w
      (subst (λ (r : RegisterFile). StopsAs x (listed_on b base l sp rp form k) (run_answer (given_of b.setting.order b.setting.table laid r (listed_on b base l sp rp form k).cycles)))
      (ap (filed areas) (sym same_first)) (ran_so b base l sp rp form k x r f.0 c f.1))

-- the theorem
pub forms_run_as_listed : FormsRunAsListed
forms_run_as_listed b base l sp rp j ok holds first form h misses =
    record {
      agrees = form_agrees b base l sp rp ok holds first form h misses;
      counted = form_counted b base l sp rp ok holds first form h misses j;
    }
