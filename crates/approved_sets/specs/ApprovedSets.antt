-- What is approved is what runs, in a set of modules too: document 02, (d), joined with demand 3. An office approves a listing, packs it and saves its
-- cells; the module goes into a centre's memory together with others.
use Rattle.cell.specs.Refusals.{passed}
use Rattle.std.specs.Prelude.{◌≡◌, List, ℕ, ◌+◌, ◌*◌, ◌≤◌, length}
use Rattle.cell.specs.Memory.{Bytewise}
use Rattle.machine.specs.declared.Table.{Table}
use Rattle.areas.specs.Areas.{judge_areas}
use Rattle.areas.specs.declared.Areas.{Areas}
use Rattle.code_tables.specs.Tables.{judge_table}
use Rattle.pack_layout.specs.Listing.{Listing}
use Rattle.packer.specs.Pack.{PackResult}
use Rattle.module_saving.specs.Answers.{save_of}
use Rattle.module_laws.specs.Theorems.{saved_file}
use Rattle.approved.specs.Approved.{Packs, StandsAt, RunsAsListed, StartsAsListed}
use Rattle.set_judging.specs.declared.Member.{Member}
use Rattle.set_judging.specs.Members.{member_at, file_of}
use Rattle.set_loading.specs.Sets.{load_set_of}

-- a memory in which the rule at a base runs as a listing reads, and so does the machine that `start` makes ready there
pub record Ready (order base : ℕ) (l : Listing) (m : List ℕ) : Type 0 where
  pub runs : RunsAsListed order base l m
  pub starts : (areas : Areas) (table : Table) → judge_areas (length m) areas ≡ passed → judge_table (length m) table ≡ passed
      → (handler : ℕ) → StartsAsListed order areas table base l m handler

-- a module of a set: the bytes of a file, at an address
pub record Given (file : List ℕ) (a : ℕ) (buffer : List ℕ) (x : Member) : Type 0 where
  pub bytes : file_of buffer x ≡ file
  pub address : x.address.0 ≡ a

-- of every module of an accepted set that an office saved from packed cells, and that goes to the base it was packed for
abbrev pub ApprovedSetRuns : Type 0
ApprovedSetRuns =
    (theirs base : ℕ) (l : Listing) (p : PackResult) → Packs theirs base l p → p.number ≡ 0
    → (office : List ℕ) (b : ℕ) → Bytewise office → StandsAt p office b
    → (out : List ℕ) → (save_of theirs office b p.count out).number ≡ 0
    → (ours : ℕ) (centre buffer numbers : List ℕ) → (load_set_of ours centre buffer numbers).number ≡ 0
    → (k : ℕ) → 3 * k + 3 ≤ length numbers
    → Given (saved_file (save_of theirs office b p.count out)) base buffer (member_at numbers k)
    → Ready ours base l (load_set_of ours centre buffer numbers).memory
