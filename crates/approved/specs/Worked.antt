-- One rule on its way, between offices and centres of each byte order: two literals, + and HALT, packed for 10h, saved from 40h, loaded at 10h,
-- started and run. So the claims of specs/Approved are not empty: what they ask for happens.
use Rattle.std.specs.Prelude.{List, [], ◌∷◌, ℕ, ◌*◌, replicate, take}
use Rattle.std.proofs.lemmas.List.Edits.{sets}
use Rattle.machine.specs.Places.{table_of}
use Rattle.machine.specs.declared.Table.{Table}
use Rattle.areas.specs.Areas.{no_areas}
use Rattle.processor_start.specs.Answers.{StartAnswer, start_answer}
use Rattle.processor.specs.Answers.{RunAnswer, given_of, run_answer}
use Rattle.packer.specs.Pack.{PackResult, pack_of}
use Rattle.module_loading.specs.Answers.{LoadResult, load_of}
use Rattle.module_saving.specs.Answers.{SaveResult, save_of}
use Rattle.module_laws.specs.Theorems.{saved_file}

abbrev pub blank : List ℕ
blank = replicate 0x400 0

abbrev pub packed : ℕ → PackResult
packed theirs = pack_of theirs (0x52 ∷ 0x52 ∷ 0x1E ∷ 0x55 ∷ []) (2 ∷ 3 ∷ 0 ∷ 0 ∷ []) 0x10 (replicate 16 0)

-- the office's memory, with the packed cells at 40h, and the module saved from there
abbrev pub office : ℕ → List ℕ
office theirs = sets blank 0x40 (take (4 * (packed theirs).count) (packed theirs).output)

abbrev pub saved : ℕ → SaveResult
saved theirs = save_of theirs (office theirs) 0x40 (packed theirs).count (replicate 32 0)

-- the centre
abbrev pub loaded : ℕ → ℕ → LoadResult
loaded theirs ours = load_of ours blank (saved_file (saved theirs)) 0x10

-- the rule's own cells are the table
abbrev pub its_cells : Table
its_cells = table_of 0x10 0x1C

abbrev pub ready : ℕ → ℕ → StartAnswer
ready theirs ours = start_answer ours no_areas its_cells (loaded theirs ours).memory 0x10 0

abbrev pub ran : ℕ → ℕ → RunAnswer
ran theirs ours = run_answer (given_of ours its_cells (ready theirs ours).memory (ready theirs ours).registers 100)

-- packed to three cells, saved, loaded and started, each with the number 0; stopped, with reason 5, in the fourth cycle
abbrev pub seen : ℕ → ℕ → List ℕ
seen theirs ours =
    (packed theirs).number
    ∷ (packed theirs).count
    ∷ (saved theirs).number
    ∷ (loaded theirs ours).number
    ∷ (loaded theirs ours).count
    ∷ (ready theirs ours).number
    ∷ (ran theirs ours).number
    ∷ (ran theirs ours).reason
    ∷ (ran theirs ours).count
    ∷ []

abbrev pub expected : List ℕ
expected = 0 ∷ 3 ∷ 0 ∷ 0 ∷ 3 ∷ 0 ∷ 1 ∷ 5 ∷ 4 ∷ []

-- from an office to a centre of each byte order
abbrev pub ways : ℕ → List (List ℕ)
ways theirs = seen theirs 0 ∷ seen theirs 1 ∷ []
