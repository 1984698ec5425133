-- Rows on listing files of both kinds, worked on paper from document 02, (l). An output is lent with 5Ah in every byte.
use Rattle.std.specs.Prelude.{◌≡◌, List, [], ◌∷◌, ◌++◌, map, ℕ, ◌-◌, ◌^◌, replicate}
use Rattle.packer.specs.Pack.{PackResult}
use Rattle.short_files.specs.Converted.{ConvertResult, shorten_of, lengthen_of}
use Rattle.short_packing.specs.Packing.{pack_short_of}

abbrev pub lent : ℕ → List ℕ
lent size = replicate size 0x5A

-- a file, the bytes of the output, the number answered, and the output afterwards
pub record Row : Type 0 where
  pub file : List ℕ
  pub size : ℕ
  pub number : ℕ
  pub output : List ℕ

abbrev pub taken : List ℕ → ℕ → List ℕ → Row
taken file size output = record { file = file; size = size; number = 0; output = output }

abbrev pub refused : ℕ → List ℕ → ℕ → Row
refused number file size = record { file = file; size = size; number = 2 ^ 32 - number; output = lent size }

-- a call, given as its number and its output, answers the number of each row and leaves its output
abbrev pub Holds : (List ℕ → List ℕ → ℕ) → (List ℕ → List ℕ → List ℕ) → List Row → Type 0
Holds number output rows =
    (map (λ r. number r.file (lent r.size)) rows ≡ map (λ r. r.number) rows)
    × (map (λ r. output r.file (lent r.size)) rows ≡ map (λ r. r.output) rows)

abbrev pub Converts : (List ℕ → List ℕ → ConvertResult) → List Row → Type 0
Converts call rows = Holds (λ file out. (call file out).number) (λ file out. (call file out).output) rows

abbrev pub Packs : (List ℕ → List ℕ → PackResult) → List Row → Type 0
Packs call rows = Holds (λ file out. (call file out).number) (λ file out. (call file out).output) rows

-- a number below 256 in four bytes; FFFFFFFFh
abbrev pub small : ℕ → List ℕ
small x = x ∷ 0 ∷ 0 ∷ 0 ∷ []

abbrev pub ones : List ℕ
ones = 0xFF ∷ 0xFF ∷ 0xFF ∷ 0xFF ∷ []

-- the first rule of document 01, Worked on paper: literals 2 and 3, then 1Eh and 55h, at 10h
abbrev pub rule : List ℕ
rule = 0x52 ∷ 0x52 ∷ 0x1E ∷ 0x55 ∷ []

abbrev pub long : List ℕ
long = small 4 ++ small 0x10 ++ rule ++ small 2 ++ small 3 ++ small 0 ++ small 0

abbrev pub short : List ℕ
short = small 4 ++ small 2 ++ small 0x10 ++ rule ++ small 2 ++ small 3

abbrev pub lengthen_rows : List Row
lengthen_rows =
    -- the rule, with two bytes of the output left
    taken short 30 (long ++ lent 2)
    -- no base and no byte order is judged; a literal has any value; a plain item takes no operand
    ∷ taken (small 2 ++ small 1 ++ ones ++ (0x01 ∷ 0x52 ∷ []) ++ ones) 18 (small 2 ++ ones ++ (0x01 ∷ 0x52 ∷ []) ++ small 0 ++ ones)
    ∷ taken (small 1 ++ small 0 ++ small 3 ++ (0x55 ∷ [])) 13 (small 1 ++ small 3 ++ (0x55 ∷ []) ++ small 0)
    -- a header cut short, by one byte and by all
    ∷ refused 4119 (small 4 ++ small 2 ++ (0x10 ∷ 0 ∷ 0 ∷ [])) 30
    ∷ refused 4119 [] 30
    -- n comes before m: no item, 4,097 items
    ∷ refused 4106 (small 0 ++ small 5 ++ small 0x10) 30
    ∷ refused 4106 ((0x01 ∷ 0x10 ∷ 0 ∷ 0 ∷ []) ++ small 5 ++ small 0x10) 30
    -- m one too large and one too small, in files as long as m says
    ∷ refused 4119 (small 4 ++ small 3 ++ small 0x10 ++ rule ++ small 2 ++ small 3 ++ small 0) 30
    ∷ refused 4119 (small 4 ++ small 1 ++ small 0x10 ++ rule ++ small 2) 30
    -- a byte too many, and one too few
    ∷ refused 4119 (short ++ (0 ∷ [])) 30
    ∷ refused 4119 (small 4 ++ small 2 ++ small 0x10 ++ rule ++ small 2 ++ (3 ∷ 0 ∷ 0 ∷ [])) 30
    -- a byte that is no kind counts for no operand; m is judged before it
    ∷ refused 4107 (small 1 ++ small 0 ++ small 0x10 ++ (0x00 ∷ [])) 30
    ∷ refused 4119 (small 1 ++ small 1 ++ small 0x10 ++ (0x00 ∷ []) ++ small 0) 30
    -- the lowest item first: a branch out of the listing, a byte that is no kind
    ∷ refused 4109 (small 2 ++ small 1 ++ small 0x10 ++ (0x42 ∷ 0x43 ∷ []) ++ small 2) 30
    ∷ refused 4107 (small 2 ++ small 1 ++ small 0x10 ++ (0x43 ∷ 0x42 ∷ []) ++ small 2) 30
    -- an output a byte too short
    ∷ refused 4105 short 27
    ∷ []

abbrev pub shorten_rows : List Row
shorten_rows =
    taken long 26 (short ++ lent 2)
    ∷ taken (small 1 ++ ones ++ (0x55 ∷ []) ++ small 0) 13 (small 1 ++ small 0 ++ ones ++ (0x55 ∷ []))
    -- document 01's input list, then the room
    ∷ refused 4106 (small 1 ++ (0x10 ∷ 0 ∷ 0 ∷ [])) 26
    ∷ refused 4107 (small 1 ++ small 0x10 ++ (0x00 ∷ []) ++ small 0) 26
    ∷ refused 4108 (small 1 ++ small 0x10 ++ (0x55 ∷ []) ++ small 1) 26
    ∷ refused 4109 (small 1 ++ small 0x10 ++ (0x42 ∷ []) ++ small 1) 26
    ∷ refused 4105 long 23
    ∷ []

-- the rule's image in order 0, and what refuses it: -4119 comes before -4104, -4104 before -4110, and -4105 last
abbrev pub pack_rows : List Row
pack_rows =
    taken short 14 ((0x53 ∷ 2 ∷ 0 ∷ 0 ∷ 0x53 ∷ 3 ∷ 0 ∷ 0 ∷ 0x1E ∷ 0x55 ∷ 0 ∷ 0 ∷ []) ++ lent 2)
    ∷ refused 4119 (small 1 ++ small 1 ++ small 3 ++ (0x55 ∷ []) ++ small 0) 14
    ∷ refused 4104 (small 1 ++ small 0 ++ small 3 ++ (0x55 ∷ [])) 14
    ∷ refused 4110 (small 1 ++ small 0 ++ small 8 ++ (0x55 ∷ [])) 14
    ∷ refused 4105 short 11
    ∷ []

-- the byte order comes before all else
abbrev pub order_rows : List Row
order_rows = refused 4102 short 14 ∷ refused 4102 [] 14 ∷ []

abbrev pub RowsHold : Type 0
RowsHold =
    Converts lengthen_of lengthen_rows × Converts shorten_of shorten_rows × Packs (pack_short_of 0) pack_rows × Packs (pack_short_of 2) order_rows
