-- Rows on batches, worked on paper from document 02, (k). The machine has 1,024 bytes, order 0, neither areas nor a table; FFFFFFFFh stands in 'THROW, so
-- that every throw stops with -259, and zeros everywhere else. Every form is run with EP at 10h and A 0, so that NEXT comes first, and SP at 300h.
use Rattle.std.specs.Prelude.{◌≡◌, List, [], ◌∷◌, ◌++◌, map, ℕ, ◌-◌, ◌^◌, length, replicate, take}
use Rattle.machine.specs.Places.{table_of}
use Rattle.areas.specs.Areas.{no_areas, areas_of, filed}
use Rattle.areas.specs.declared.Areas.{Areas}
use Rattle.batch_reports.specs.declared.Report.{Report}
use Rattle.batches.specs.Batches.{Forms, common_of, forms_given, BatchAnswer, batch_answer}

abbrev pub start : List ℕ
start = replicate 4 0xFF ++ replicate 1020 0

-- forms of a cell: HALT on the 0 at 300h; 1 HALT; -CELL SP! HALT, with SP outside memory; an opcode with no meaning; nothing but NEXT
abbrev pub good : List ℕ
good = 0x55 ∷ 0 ∷ 0 ∷ 0 ∷ []

abbrev pub one : List ℕ
one = 0x1A ∷ 0x55 ∷ 0 ∷ 0 ∷ []

abbrev pub lost : List ℕ
lost = 0x1D ∷ 0x3F ∷ 0x55 ∷ 0 ∷ []

abbrev pub illegal : List ℕ
illegal = 0x5C ∷ 0 ∷ 0 ∷ 0 ∷ []

abbrev pub idle : List ℕ
idle = 0 ∷ 0 ∷ 0 ∷ 0 ∷ []

-- of two cells: HALT with -258, and with -259
abbrev pub told258 : List ℕ
told258 = 0x53 ∷ 0xFE ∷ 0xFE ∷ 0xFF ∷ 0x55 ∷ 0 ∷ 0 ∷ 0 ∷ []

abbrev pub told259 : List ℕ
told259 = 0x53 ∷ 0xFD ∷ 0xFE ∷ 0xFF ∷ 0x55 ∷ 0 ∷ 0 ∷ 0 ∷ []

-- what is given to a batch, and what it answers
pub record Row : Type 0 where
  pub order : ℕ
  pub start : List ℕ
  pub lent : ℕ
  pub areas : Areas
  pub table_from : ℕ
  pub table_end : ℕ
  pub address : ℕ
  pub budget : ℕ
  pub forms : Forms
  pub number : ℕ
  pub figures : List ℕ
  pub memory : List ℕ

-- memory is lent with 5Ah in every byte
abbrev pub lent_bytes : ℕ → List ℕ
lent_bytes n = replicate n 0x5A

-- forms that go to 10h, with a budget of six cycles
abbrev pub run : List ℕ → ℕ → ℕ → List ℕ → List ℕ → Row
run buffer count size figures memory =
    record {
      order = 0;
      start = start;
      lent = 1024;
      areas = no_areas;
      table_from = 0;
      table_end = 0;
      address = 0x10;
      budget = 6;
      forms = forms_given buffer count size;
      number = 0;
      figures = figures;
      memory = memory;
    }

-- the start memory with a form's bytes at 10h, and a cell in 2FCh, just under the stack, least byte first
abbrev pub with10h : List ℕ → List ℕ
with10h bytes = replicate 4 0xFF ++ replicate 12 0 ++ bytes ++ replicate (1024 - 16 - length bytes) 0

abbrev pub with_pushed : List ℕ → List ℕ → List ℕ
with_pushed bytes cell = take 764 (with10h bytes) ++ cell ++ replicate 256 0

-- figures: forms, stops with 0, -258, -259, any other, spent, cycles, largest, mean
abbrev pub accepted : List Row
accepted =
    -- each ending once: 2, 3, 4, 2 and 6 cycles
    run (good ++ one ++ lost ++ illegal ++ idle) 5 4 (5 ∷ 1 ∷ 1 ∷ 1 ∷ 1 ∷ 1 ∷ 17 ∷ 6 ∷ 3 ∷ 2 ∷ []) (with10h idle)
    -- in another order; what one leaves under the stack is not there for the next
    ∷ run (idle ++ illegal ++ one ++ lost ++ good) 5 4 (5 ∷ 1 ∷ 1 ∷ 1 ∷ 1 ∷ 1 ∷ 17 ∷ 6 ∷ 3 ∷ 2 ∷ []) (with10h good)
    ∷ run (good ++ one) 2 4 (2 ∷ 1 ∷ 0 ∷ 0 ∷ 1 ∷ 0 ∷ 5 ∷ 3 ∷ 2 ∷ 1 ∷ []) (with_pushed one (1 ∷ 0 ∷ 0 ∷ 0 ∷ []))
    -- fewer forms than the buffer has
    ∷ run (good ++ one) 1 4 (1 ∷ 1 ∷ 0 ∷ 0 ∷ 0 ∷ 0 ∷ 2 ∷ 2 ∷ 2 ∷ 0 ∷ []) (with10h good)
    -- reasons that a rule gives count by their numbers
    ∷ run (told258 ++ told259) 2 8 (2 ∷ 0 ∷ 1 ∷ 1 ∷ 0 ∷ 0 ∷ 6 ∷ 3 ∷ 3 ∷ 0 ∷ []) (with_pushed told259 (0xFD ∷ 0xFE ∷ 0xFF ∷ 0xFF ∷ []))
    -- no form, and forms of no bytes: these find the start memory alone
    ∷ run good 0 4 (0 ∷ 0 ∷ 0 ∷ 0 ∷ 0 ∷ 0 ∷ 0 ∷ 0 ∷ 0 ∷ 0 ∷ []) (lent_bytes 1024)
    ∷ run [] 2 0 (2 ∷ 0 ∷ 0 ∷ 0 ∷ 0 ∷ 2 ∷ 12 ∷ 6 ∷ 6 ∷ 0 ∷ []) start
    ∷ []

abbrev pub zeros : List ℕ
zeros = replicate 10 0

-- a batch that is turned away, of one form
abbrev pub refused : ℕ → ℕ → ℕ → ℕ → Areas → ℕ → ℕ → ℕ → Forms → Row
refused number order size lent areas from end a f =
    record {
      order = order;
      start = replicate size 0;
      lent = lent;
      areas = areas;
      table_from = from;
      table_end = end;
      address = a;
      budget = 6;
      forms = f;
      number = 2 ^ 32 - number;
      figures = zeros;
      memory = lent_bytes lent;
    }

abbrev pub turned_away : List Row
turned_away =
    let three = forms_given (good ++ good ++ 0x55 ∷ 0 ∷ 0 ∷ []) 3 4 in
    let bad = areas_of 1 0 0 0 in
    -- each with all that come later wrong too
    refused 4101 2 1020 1020 bad 4 0 1021 three
    ∷ refused 4101 2 1024 1028 bad 4 0 1021 three
    ∷ refused 4102 2 1024 1024 bad 4 0 1021 three
    ∷ refused 4111 0 1024 1024 bad 4 0 1021 three
    ∷ refused 4112 0 1024 1024 no_areas 4 0 1021 three
    ∷ refused 1 0 1024 1024 no_areas 0 0 1021 three
    -- a sum past 2^32; no form
    ∷ refused 1 0 1024 1024 no_areas 0 0 0xFFFFFFFF three
    ∷ refused 1 0 1024 1024 no_areas 0 0 1021 (forms_given [] 0 4)
    -- a byte too few
    ∷ refused 4105 0 1024 1024 no_areas 0 0 1020 three
    ∷ []

abbrev pub figures_of : Report → List ℕ
figures_of r =
    r.tally.forms
    ∷ r.tally.zeros
    ∷ r.tally.stacks
    ∷ r.tally.handlers
    ∷ r.tally.others
    ∷ r.tally.spent
    ∷ r.tally.cycles
    ∷ r.tally.largest
    ∷ r.mean.quotient
    ∷ r.mean.remainder
    ∷ []

-- what a batch answers for each, and what the row has
abbrev pub answered : Row → BatchAnswer
answered w =
    batch_answer
    (common_of w.order w.start w.address (filed w.areas (record { ep = 0x10; a = 0; sp = 0x300; rp = 0x400 }))
    (table_of w.table_from w.table_end) w.budget)
    (lent_bytes w.lent) w.forms

abbrev pub AsOnPaper : List Row → Type 0
AsOnPaper rows =
    (map (λ w. (answered w).number) rows ≡ map (λ w. w.number) rows)
    × (map (λ w. figures_of (answered w).report) rows ≡ map (λ w. w.figures) rows)
    × (map (λ w. (answered w).memory) rows ≡ map (λ w. w.memory) rows)

abbrev pub RowsHold : Type 0
RowsHold = AsOnPaper accepted × AsOnPaper turned_away
