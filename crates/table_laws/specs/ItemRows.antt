-- Runs of the list machine with a table, worked by hand. Document 02, (b): where the image lies in the table, -20 is one of an item's own faults, and comes before
-- the answer that the machine stands outside.
use Rattle.std.specs.Prelude.{◌≡◌, List, [], ◌∷◌, map, ℕ, ◌-◌, ◌^◌, replicate}
use Rattle.cell.specs.Memory.{store_cell}
use Rattle.machine.specs.Places.{table_of}
use Rattle.machine.specs.declared.Table.{Table}
use Rattle.bounds.specs.Bounds.{machine_of}
use Rattle.pack_layout.specs.Listing.{listed}
use Rattle.list_machine.specs.declared.Outside.TheVariants.{WritesImage, NoHandler}
use Rattle.list_machine.specs.Runs.{goes_on, stopped_by, stood_outside, Run, run_of, beginning}
use Rattle.list_machine.specs.Worked.{Case, case, seen, seen_of}

-- a case of list_machine/specs/Worked from item 0 on, with a table
abbrev pub run_with : Table → ℕ → Case → Run
run_with table order c =
    let l = listed c.kinds c.operands in
    run_of (machine_of order c.areas table 0x400) 0x10 l c.asked
    (beginning l (store_cell order (replicate 0x400 0) 0 c.handler) c.sp 0x400)

abbrev pub SeenWith : Table → ℕ → List Case → Type 0
SeenWith table order cases = map (λ c. seen_of order (run_with table order c)) cases ≡ map (λ c. c.seen) cases

-- 7 is stored at an address; the image is at 10h
abbrev pub storing : ℕ → List ℕ
storing a = 7 ∷ a ∷ 0 ∷ 0 ∷ []

-- the kinds: 3Ah !, 52h literal, 55h HALT, 57h LIB. The table is the image's cells and some more
abbrev pub over_image : Table
over_image = table_of 0x10 0x20

abbrev pub image_cases : List Case
image_cases =
    -- ! into the image: -20 goes to the first item, which 'THROW names; or to no entry
    case (0x52 ∷ 0x52 ∷ 0x3A ∷ 0x55 ∷ []) (storing 0x10) 0x10 0x300 3 (seen 0 3 3 0x2F4 0 goes_on)
    ∷ case (0x52 ∷ 0x52 ∷ 0x3A ∷ 0x55 ∷ []) (storing 0x10) 0 0x300 9 (seen 2 2 2 0x2F8 0 (stood_outside NoHandler))
    -- ! behind the table
    ∷ case (0x52 ∷ 0x52 ∷ 0x3A ∷ 0x55 ∷ []) (storing 0x20) 0 0x300 9 (seen 3 4 4 0x304 0 (stopped_by 0))
    -- LIB throws, and its push would fall into the image
    ∷ case (0x57 ∷ 0x55 ∷ []) (0 ∷ 0 ∷ []) 0x10 0x14 9 (seen 0 1 1 0x14 0 (stopped_by (2 ^ 32 - 258)))
    ∷ []

-- a table elsewhere: an item that writes the image stands outside, one that writes the table throws
abbrev pub elsewhere : Table
elsewhere = table_of 0x100 0x108

abbrev pub elsewhere_cases : List Case
elsewhere_cases =
    case (0x52 ∷ 0x52 ∷ 0x3A ∷ 0x55 ∷ []) (storing 0x10) 0x10 0x300 9 (seen 2 2 2 0x2F8 0 (stood_outside WritesImage))
    ∷ case (0x52 ∷ 0x52 ∷ 0x3A ∷ 0x55 ∷ []) (storing 0x104) 0x10 0x300 3 (seen 0 3 3 0x2F4 0 goes_on)
    ∷ []

abbrev pub ItemRows : ℕ → Type 0
ItemRows order = SeenWith over_image order image_cases × SeenWith elsewhere order elsewhere_cases
