-- Runs of the list machine, worked by hand from document 01, Listings, one for each of its stops and counts.
use Rattle.std.specs.Prelude.{◌≡◌, Bool, true, false, List, [], ◌∷◌, map, ℕ, ◌-◌, ◌^◌, replicate}
use Rattle.cell.specs.Memory.{cell_at, store_cell}
use Rattle.machine.specs.Places.{no_table}
use Rattle.areas.specs.Areas.{no_areas, areas_of}
use Rattle.bounds.specs.Bounds.{machine_of}
use Rattle.areas.specs.declared.Areas.{Areas}
use Rattle.pack_layout.specs.Listing.{listed}
use Rattle.list_machine.specs.declared.Outside.TheVariants.{WritesImage, NoEntry, NoHandler, PastEnd}
use Rattle.list_machine.specs.Runs.{Course, goes_on, stopped_by, stood_outside, Run, run_of, resuming}

-- what is seen of a run: the item in front of which it stands or that stopped it, items carried out, cycles counted, SP, the cell on top of the return
-- stack at 3FCh, and how it stands
pub record Seen : Type 0 where
  pub item : ℕ
  pub items : ℕ
  pub cycles : ℕ
  pub sp : ℕ
  pub returned : ℕ
  pub course : Course

-- the stack areas, a listing at 10h, 'THROW, the item at which the run is taken up and whether it was run on into, SP, and the number of items asked for; RP is 400h,
-- the memory 400h bytes, all others 0
pub record Case : Type 0 where
  pub areas : Areas
  pub kinds : List ℕ
  pub operands : List ℕ
  pub handler : ℕ
  pub item : ℕ
  pub ran : Bool
  pub sp : ℕ
  pub asked : ℕ
  pub seen : Seen

abbrev pub case_in : Areas → ℕ → Bool → List ℕ → List ℕ → ℕ → ℕ → ℕ → Seen → Case
case_in areas item ran kinds operands handler sp asked seen =
    record { areas = areas; kinds = kinds; operands = operands; handler = handler; item = item; ran = ran; sp = sp; asked = asked; seen = seen }

abbrev pub case_at : ℕ → Bool → List ℕ → List ℕ → ℕ → ℕ → ℕ → Seen → Case
case_at = case_in no_areas

-- from item 0 on
abbrev pub case : List ℕ → List ℕ → ℕ → ℕ → ℕ → Seen → Case
case = case_at 0 false

-- the same with a data area from 210h to 220h, above the held cell at 20Ch, and a return area of four cells up to 400h
abbrev pub case_within : List ℕ → List ℕ → ℕ → ℕ → ℕ → Seen → Case
case_within = case_in (areas_of 0x220 4 0x400 4) 0 false

abbrev pub seen : ℕ → ℕ → ℕ → ℕ → ℕ → Course → Seen
seen item items cycles sp returned course =
    record { item = item; items = items; cycles = cycles; sp = sp; returned = returned; course = course }

abbrev pub run_at : ℕ → Case → Run
run_at order c =
    run_of (machine_of order c.areas no_table 0x400) 0x10 (listed c.kinds c.operands) c.asked
    (resuming (listed c.kinds c.operands)
    (record { item = c.item; ran = c.ran; memory = store_cell order (replicate 0x400 0) 0 c.handler; sp = c.sp; rp = 0x400 }))

abbrev pub seen_of : ℕ → Run → Seen
seen_of order r =
    seen r.position.item r.items r.cycles r.position.sp (cell_at order r.position.memory 0x3FC) r.course

abbrev pub Holding : ℕ → List Case → Type 0
Holding order cases = map (λ c. seen_of order (run_at order c)) cases ≡ map (λ c. c.seen) cases

-- the kinds here: 01h DUP, 19h 0, 1Eh +, 3Ah !, 42h BRANCH, 44h ?BRANCH, 46h EXECUTE, 48h CALL, 4Ah EXIT, 52h literal, 54h THROW, 55h HALT, 57h LIB
abbrev pub cases : List Case
cases =
    -- the first listing of document 01: reason 5, four cycles; and its first two items alone
    case (0x52 ∷ 0x52 ∷ 0x1E ∷ 0x55 ∷ []) (2 ∷ 3 ∷ 0 ∷ 0 ∷ []) 0 0x300 9 (seen 3 4 4 0x300 0 (stopped_by 5))
    ∷ case (0x52 ∷ 0x52 ∷ 0x1E ∷ 0x55 ∷ []) (2 ∷ 3 ∷ 0 ∷ 0 ∷ []) 0 0x300 2 (seen 2 2 2 0x2F8 0 goes_on)
    -- the last item would run on past the end, and is not carried out
    ∷ case (0x19 ∷ 0x19 ∷ []) (0 ∷ 0 ∷ []) 0 0x300 9 (seen 1 1 1 0x2FC 0 (stood_outside PastEnd))
    ∷ case (0x19 ∷ 0x44 ∷ []) (0 ∷ 0 ∷ []) 0 0x300 5 (seen 1 5 5 0x2FC 0 goes_on)
    -- the fifth item opens a cell and is run on into: two cycles
    ∷ case (0x19 ∷ 0x19 ∷ 0x19 ∷ 0x19 ∷ 0x55 ∷ []) (0 ∷ 0 ∷ 0 ∷ 0 ∷ 0 ∷ []) 0 0x300 9 (seen 4 5 6 0x2F4 0 (stopped_by 0))
    -- an item reached by a taken branch from the item before it: one
    ∷ case (0x42 ∷ 0x55 ∷ []) (1 ∷ 0 ∷ []) 0 0x300 9 (seen 1 2 2 0x304 0 (stopped_by 0))
    -- an item run on into from an operand cell's item counts two, from an immediate one
    ∷ case (0x52 ∷ 0x01 ∷ 0x01 ∷ 0x01 ∷ 0x55 ∷ []) (8388608 ∷ 0 ∷ 0 ∷ 0 ∷ 0 ∷ []) 0 0x300 9 (seen 4 5 6 0x2F4 0 (stopped_by 8388608))
    -- ! into the image at 10h, and just below it into -ADDRESS
    ∷ case (0x52 ∷ 0x52 ∷ 0x3A ∷ 0x55 ∷ []) (7 ∷ 0x10 ∷ 0 ∷ 0 ∷ []) 0 0x300 9 (seen 2 2 2 0x2F8 0 (stood_outside WritesImage))
    ∷ case (0x52 ∷ 0x52 ∷ 0x3A ∷ 0x55 ∷ []) (7 ∷ 0xC ∷ 0 ∷ 0 ∷ []) 0 0x300 9 (seen 3 4 4 0x304 0 (stopped_by 0))
    -- LIB throws: its push would fall into the image; SP leaves no room for it; 'THROW is unaligned, an entry, no entry
    ∷ case (0x57 ∷ 0x55 ∷ []) (0 ∷ 0 ∷ []) 0x10 0x14 9 (seen 0 0 0 0x14 0 (stood_outside WritesImage))
    ∷ case (0x57 ∷ 0x55 ∷ []) (0 ∷ 0 ∷ []) 0x10 0 9 (seen 0 1 1 0 0 (stopped_by (2 ^ 32 - 258)))
    ∷ case (0x57 ∷ 0x55 ∷ []) (0 ∷ 0 ∷ []) 0x11 0x300 9 (seen 0 1 1 0x2FC 0 (stopped_by (2 ^ 32 - 259)))
    ∷ case (0x57 ∷ 0x55 ∷ []) (0 ∷ 0 ∷ []) 0x10 0x300 3 (seen 0 3 3 0x2F4 0 goes_on)
    ∷ case (0x57 ∷ 0x55 ∷ []) (0 ∷ 0 ∷ []) 0x14 0x300 3 (seen 0 0 0 0x300 0 (stood_outside NoHandler))
    -- THROW pushes nothing
    ∷ case (0x54 ∷ []) (0 ∷ []) 0x10 0x300 3 (seen 0 3 3 0x300 0 goes_on)
    ∷ case (0x54 ∷ []) (0 ∷ []) 0x400 0x300 3 (seen 0 1 1 0x300 0 (stopped_by (2 ^ 32 - 259)))
    ∷ case (0x54 ∷ []) (0 ∷ []) 0x10 0x302 3 (seen 0 1 1 0x302 0 (stopped_by (2 ^ 32 - 258)))
    -- EXECUTE and CALL leave the address of the following cell; EXECUTE of an address that is no entry
    ∷ case (0x52 ∷ 0x46 ∷ 0x55 ∷ []) (0x10 ∷ 0 ∷ 0 ∷ []) 0 0x300 2 (seen 0 2 2 0x300 0x18 goes_on)
    ∷ case (0x48 ∷ 0x55 ∷ []) (1 ∷ 0 ∷ []) 0 0x300 1 (seen 1 1 1 0x300 0x14 goes_on)
    ∷ case (0x52 ∷ 0x46 ∷ 0x55 ∷ []) (0x14 ∷ 0 ∷ 0 ∷ []) 0 0x300 9 (seen 1 1 1 0x2FC 0 (stood_outside NoEntry))
    -- CALL as the fourth opcode of its cell has an operand cell, and leaves the address behind that
    ∷ case (0x19 ∷ 0x19 ∷ 0x19 ∷ 0x48 ∷ 0x55 ∷ []) (0 ∷ 0 ∷ 0 ∷ 4 ∷ 0 ∷ []) 0 0x300 4 (seen 4 4 4 0x2F4 0x18 goes_on)
    -- EXIT with an empty return stack raises; 'THROW is 0h, valid and no entry
    ∷ case (0x4A ∷ []) (0 ∷ []) 0 0x300 9 (seen 0 0 0 0x300 0 (stood_outside NoHandler))
    -- the call and the return
    ∷ case (0x48 ∷ 0x55 ∷ 0x4A ∷ []) (2 ∷ 0 ∷ 0 ∷ []) 0 0x300 9 (seen 1 3 3 0x304 0x14 (stopped_by 0))
    -- taken up at an item that opens a cell: two cycles if it was run on into, else one
    ∷ case_at 4 true (0x19 ∷ 0x19 ∷ 0x19 ∷ 0x19 ∷ 0x55 ∷ []) (0 ∷ 0 ∷ 0 ∷ 0 ∷ 0 ∷ []) 0 0x2F0 9 (seen 4 1 2 0x2F4 0 (stopped_by 0))
    ∷ case_at 4 false (0x19 ∷ 0x19 ∷ 0x19 ∷ 0x19 ∷ 0x55 ∷ []) (0 ∷ 0 ∷ 0 ∷ 0 ∷ 0 ∷ []) 0 0x2F0 9 (seen 4 1 1 0x2F4 0 (stopped_by 0))
    -- taken up behind the last item: past the end, also where no item is asked for
    ∷ case_at 2 true (0x42 ∷ 0x55 ∷ []) (1 ∷ 0 ∷ []) 0 0x300 9 (seen 2 0 0 0x300 0 (stood_outside PastEnd))
    ∷ case_at 7 false (0x42 ∷ 0x55 ∷ []) (1 ∷ 0 ∷ []) 0 0x300 0 (seen 7 0 0 0x300 0 (stood_outside PastEnd))
    -- 0 with the data area full: -3 goes into the held cell and the run to its first item, whose next push finds no room for its -3
    ∷ case_within (0x19 ∷ 0x55 ∷ []) (0 ∷ 0 ∷ []) 0x10 0x210 1 (seen 0 1 1 0x20C 0 goes_on)
    ∷ case_within (0x19 ∷ 0x55 ∷ []) (0 ∷ 0 ∷ []) 0x10 0x210 9 (seen 0 2 2 0x20C 0 (stopped_by (2 ^ 32 - 258)))
    -- DUP with none in it: -4, then a second one, of the code
    ∷ case_within (0x01 ∷ 0x55 ∷ []) (0 ∷ 0 ∷ []) 0x10 0x220 9 (seen 1 3 3 0x21C 0 (stopped_by (2 ^ 32 - 4)))
    -- HALT at the top
    ∷ case_within (0x55 ∷ []) (0 ∷ []) 0x10 0x220 9 (seen 0 1 1 0x220 0 (stopped_by (2 ^ 32 - 258)))
    ∷ []
