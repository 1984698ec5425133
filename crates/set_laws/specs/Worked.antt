-- Rows on sets of modules, worked on paper from document 02, (d), and document 01, Modules. Memory is lent with 5Ah in every byte.
use Rattle.std.specs.Prelude.{◌≡◌, List, [], ◌∷◌, ◌++◌, map, ℕ, ◌+◌, ◌-◌, ◌^◌, length, replicate}
use Rattle.module_loading.specs.Answers.{LoadResult}
use Rattle.set_loading.specs.Sets.{load_set_of}

-- three modules end to end, from bytes 0, 16 and 36 on: the cell 55h in order 0; 01020304h and A0B0C0D0h in order 1; no cell
abbrev pub buffer : List ℕ
buffer =
    (0x42 ∷ 0x45 ∷ 0x45 ∷ 0x54 ∷ 0x4C ∷ 0x45 ∷ 0x00 ∷ 0x00 ∷ 0x01 ∷ 0x00 ∷ 0x00 ∷ 0x00 ∷ 0x55 ∷ 0x00 ∷ 0x00 ∷ 0x00 ∷ [])
    ++ (0x42 ∷ 0x45 ∷ 0x45 ∷ 0x54 ∷ 0x4C ∷ 0x45 ∷ 0x00 ∷ 0x01 ∷ 0x00 ∷ 0x00 ∷ 0x00 ∷ 0x02 ∷ [])
    ++ (0x01 ∷ 0x02 ∷ 0x03 ∷ 0x04 ∷ 0xA0 ∷ 0xB0 ∷ 0xC0 ∷ 0xD0 ∷ [])
    ++ (0x42 ∷ 0x45 ∷ 0x45 ∷ 0x54 ∷ 0x4C ∷ 0x45 ∷ 0x00 ∷ 0x00 ∷ 0x00 ∷ 0x00 ∷ 0x00 ∷ 0x00 ∷ [])

-- the numbers of each, at an address, before those of others
abbrev pub one : ℕ → List ℕ → List ℕ
one a rest = a ∷ 0 ∷ 16 ∷ rest

abbrev pub two : ℕ → List ℕ → List ℕ
two a rest = a ∷ 16 ∷ 20 ∷ rest

abbrev pub empty : ℕ → List ℕ → List ℕ
empty a rest = a ∷ 36 ∷ 12 ∷ rest

-- sixteen without cells
abbrev pub sixteen : List ℕ → List ℕ
sixteen rest =
    let four : List ℕ → List ℕ = λ more. empty 0x10 (empty 0x10 (empty 0x10 (empty 0x10 more))) in
    four (four (four (four rest)))

abbrev pub lent : ℕ → List ℕ
lent size = replicate size 0x5A

-- a call: byte order, length of memory, the numbers; and what it leaves: the number answered, the count, and memory
pub record Row : Type 0 where
  pub order : ℕ
  pub size : ℕ
  pub numbers : List ℕ
  pub number : ℕ
  pub count : ℕ
  pub memory : List ℕ

-- bytes that went in, one after another from an address on
abbrev pub loaded : ℕ → List ℕ → ℕ → ℕ → List ℕ → Row
loaded order numbers count a bytes =
    record {
      order = order;
      size = 1024;
      numbers = numbers;
      number = 0;
      count = count;
      memory = lent a ++ bytes ++ lent (1024 - (a + length bytes));
    }

abbrev pub refused : ℕ → ℕ → ℕ → List ℕ → Row
refused number order size numbers =
    record { order = order; size = size; numbers = numbers; number = 2 ^ 32 - number; count = 0; memory = lent size }

abbrev pub accepted : List Row
accepted =
    loaded 0 (one 0x10 []) 1 0x10 (0x55 ∷ 0x00 ∷ 0x00 ∷ 0x00 ∷ [])
    -- end to end, given from below and from above
    ∷ loaded 1 (one 0x10 (two 0x14 [])) 3 0x10 (0x00 ∷ 0x00 ∷ 0x00 ∷ 0x55 ∷ 0x01 ∷ 0x02 ∷ 0x03 ∷ 0x04 ∷ 0xA0 ∷ 0xB0 ∷ 0xC0 ∷ 0xD0 ∷ [])
    ∷ loaded 0 (one 0x18 (two 0x10 [])) 3 0x10 (0x04 ∷ 0x03 ∷ 0x02 ∷ 0x01 ∷ 0xD0 ∷ 0xC0 ∷ 0xB0 ∷ 0xA0 ∷ 0x55 ∷ 0x00 ∷ 0x00 ∷ 0x00 ∷ [])
    -- the same bytes twice, up to the end of memory
    ∷ loaded 0 (one 0x3FC (one 0x3F8 [])) 2 0x3F8 (0x55 ∷ 0x00 ∷ 0x00 ∷ 0x00 ∷ 0x55 ∷ 0x00 ∷ 0x00 ∷ 0x00 ∷ [])
    -- no cell: inside another, and where another begins
    ∷ loaded 1 (two 0x10 (empty 0x14 [])) 2 0x10 (0x01 ∷ 0x02 ∷ 0x03 ∷ 0x04 ∷ 0xA0 ∷ 0xB0 ∷ 0xC0 ∷ 0xD0 ∷ [])
    ∷ loaded 0 (empty 0x10 (one 0x10 [])) 1 0x10 (0x55 ∷ 0x00 ∷ 0x00 ∷ 0x00 ∷ [])
    -- sixteen
    ∷ loaded 0 (sixteen []) 0 0x10 []
    ∷ []

abbrev pub turned_away : List Row
turned_away =
    -- no module; numbers left over
    refused 4113 0 1024 []
    ∷ refused 4113 0 1024 (0x10 ∷ 0 ∷ [])
    ∷ refused 4113 0 1024 (one 0x10 (0x20 ∷ []))
    -- seventeen, and seventeen of which the last is outside memory
    ∷ refused 4113 0 1024 (sixteen (empty 0x10 []))
    ∷ refused 1 0 1024 (sixteen (empty 0x400 []))
    -- the same place; the last cell of one is the first of another, in both orders
    ∷ refused 4113 0 1024 (one 0x10 (one 0x10 []))
    ∷ refused 4113 0 1024 (two 0x10 (one 0x14 []))
    ∷ refused 4113 0 1024 (one 0x14 (two 0x10 []))
    -- two that share, and a later one that is refused by itself
    ∷ refused 4104 0 1024 (one 0x10 (one 0x10 (two 0x12 [])))
    -- a byte outside the buffer; a place and a length whose sum is no cell; the first refusal of the first refused
    ∷ refused 2 0 1024 (one 0x10 (0x20 ∷ 37 ∷ 12 ∷ []))
    ∷ refused 2 0 1024 (0x20 ∷ 0xFFFFFFFF ∷ 17 ∷ [])
    ∷ refused 4104 0 1024 (one 0x11 (0x20 ∷ 37 ∷ 12 ∷ []))
    -- longer than its header says; outside memory
    ∷ refused 4103 0 1024 (0x10 ∷ 0 ∷ 20 ∷ [])
    ∷ refused 1 0 1024 (two 0x3FC [])
    -- memory and byte order come before all modules
    ∷ refused 4101 2 1020 []
    ∷ refused 4102 2 1024 (one 0x11 [])
    ∷ []

-- what load_set leaves of each, and what the row has
abbrev pub left : Row → LoadResult
left r = load_set_of r.order (lent r.size) buffer r.numbers

abbrev pub AsOnPaper : List Row → Type 0
AsOnPaper rows =
    (map (λ r. (left r).number) rows ≡ map (λ r. r.number) rows)
    × (map (λ r. (left r).count) rows ≡ map (λ r. r.count) rows)
    × (map (λ r. (left r).memory) rows ≡ map (λ r. r.memory) rows)

abbrev pub RowsHold : Type 0
RowsHold = AsOnPaper accepted × AsOnPaper turned_away
