-- What is approved is what runs.
use mathlib.Core.Path.{◌≡◌, ◌∙◌}
use mathlib.Core.List.{List}
use Prim.Native.Nat.{ℕ, ◌+◌, ◌*◌, ◌<◌}
use native.Mathlib.Omega.{arith}
use lib.ListN.{length, get_or}
use Rattle.cell.specs.Memory.{cell_at}
use Rattle.cell.specs.Refusals.{judge_machine, passed}
use Rattle.machine.specs.declared.Table.{Table}
use Rattle.areas.specs.Areas.{judge_areas}
use Rattle.code_tables.specs.Tables.{judge_table}
use Rattle.bounds.specs.Bounds.{judge_bounded, machine_of}
use Rattle.areas.specs.declared.Areas.{Areas}
use Rattle.pack_layout.specs.Listing.{Listing}
use Rattle.pack_layout.specs.Packing.{image, image_cells, Legal}
use Rattle.packer.specs.Pack.{PackResult}
use Rattle.module_loading.specs.Answers.{load_of}
use Rattle.module_saving.specs.Answers.{save_of}
use Rattle.module_laws.specs.Theorems.{saved_file}
use Rattle.module_judging.proofs.ConditionLaws.{good_machine}
use Rattle.module_laws.proofs.Theorems.{saved_loads}
use Rattle.demand3.specs.Demand3.{Holds}
use Rattle.demand3.proofs.Simulation.{demand3}
use Rattle.demand3.proofs.Budget.{run_follows}
use Rattle.demand3.proofs.Packed.{packed_cells}
use Rattle.approved.specs.Approved.{StandsAt, RunsAsListed, StartsAsListed, PackedRuns, ApprovedRuns}
use Rattle.approved.proofs.Packing.{Made, made}
use Rattle.approved.proofs.Starting.{four_length, four_holds, start_ready}

bounded_passed : (len order : ℕ) (areas : Areas) (table : Table) → judge_machine len order ≡ passed → judge_areas len areas ≡ passed
    → judge_table len table ≡ passed → judge_bounded len order areas table ≡ passed
unfolding judge_bounded
bounded_passed len order areas table p q t = rw (p, q, t)

-- a memory that holds the image of a legal listing runs as the listing reads
pub runs : (order base : ℕ) (l : Listing) (m : List ℕ) → Legal base l → ((areas : Areas) (table : Table) → Holds (machine_of order areas table (length m)) base l m)
    → RunsAsListed order base l m
runs order base l m ok h =
    record {
      agrees = λ areas table sp rp k. demand3 (machine_of order areas table (length m)) base l m sp rp k ok (h areas table);
      answers = λ areas table q sp rp k. run_follows order areas table base l m sp rp k q ok (h areas table);
    }

pub starts : (order : ℕ) (areas : Areas) (table : Table) (base : ℕ) (l : Listing) (m : List ℕ) (handler : ℕ) → Legal base l
    → ((given : Areas) (table : Table) → Holds (machine_of order given table (length m)) base l m)
    → judge_bounded (length m) order areas table ≡ passed → StartsAsListed order areas table base l m handler
starts order areas table base l m handler ok h q =
    let four = four_length (machine_of order areas table (length m)) m handler in
    record {
      ready = start_ready order areas table base l ok m handler (h areas table) q;
      runs = runs order base l _ ok (λ given kept. rw four (four_holds order given kept base l ok m handler (h given kept)));
    }

-- the cells of what was packed, wherever it stands
cells_there : (order base : ℕ) (l : Listing) (p : PackResult) (m : List ℕ) (a : ℕ) → Made order base l p → StandsAt p m a
    → (j : ℕ) → j < image_cells l → cell_at order m (a + 4 * j) ≡ get_or (image base l) j 0
cells_there order base l p m a w s =
    packed_cells order base l m a w.legal (λ i h. s.bytes i (omega (arith, w.counted)) ∙ w.bytes i h)

pub packed_runs : PackedRuns
packed_runs order base l p k q m s =
    let w = made order base l p k q in
    runs order base l m w.legal
    (λ areas table. record { inside = omega (arith, s.inside, w.counted); cells = cells_there order base l p m base w s })

pub approved_runs : ApprovedRuns
approved_runs theirs base l p k q office b low s out e ours centre machine place =
    let w = made theirs base l p k q in
    let r = saved_loads theirs office b p.count out low e ours centre base machine place in
    let m = (load_of ours centre (saved_file (save_of theirs office b p.count out)) base).memory in
    let h : (areas : Areas) (table : Table) → Holds (machine_of ours areas table (length m)) base l m = λ areas table.
    record {
      inside = omega (arith, r.long, place.room, w.counted);
      cells = λ j c. r.cells j (omega (arith, w.counted)) ∙ cells_there theirs base l p office b w s j c;
    } in
    let good : judge_machine (length m) ours ≡ passed = rw r.long (good_machine (length centre) ours machine) in
    record {
      accepted = r.accepted;
      counted = r.counted;
      runs = runs ours base l m w.legal h;
      starts = λ areas table j t handler. starts ours areas table base l m handler w.legal h (bounded_passed (length m) ours areas table good j t);
    }
