-- Rows on images, worked on paper from document 02, (h), and document 01, Listings. Arrays are lent with 5Ah in every place.
use Rattle.std.specs.Prelude.{◌≡◌, List, [], ◌∷◌, ◌++◌, map, ℕ, ◌+◌, ◌-◌, ◌^◌, replicate, length}
use Rattle.unpacker.specs.Unpack.{unpack_of}

abbrev pub lent : ℕ → List ℕ
lent size = replicate size 0x5A

-- a call: byte order, image, base, the places of both arrays; and what it leaves: the number answered, the count, both arrays
pub record Row : Type 0 where
  pub order : ℕ
  pub image : List ℕ
  pub base : ℕ
  pub room : ℕ
  pub places : ℕ
  pub number : ℕ
  pub count : ℕ
  pub kinds : List ℕ
  pub operands : List ℕ

-- with room for n items and two places more in each array
abbrev pub taken : ℕ → ℕ → List ℕ → List ℕ → List ℕ → Row
taken order base image kinds operands =
    record {
      order = order;
      image = image;
      base = base;
      room = length kinds + 2;
      places = length operands + 2;
      number = 0;
      count = length kinds;
      kinds = kinds ++ lent 2;
      operands = operands ++ lent 2;
    }

abbrev pub refused : ℕ → ℕ → ℕ → List ℕ → Row
refused number order base image =
    record {
      order = order;
      image = image;
      base = base;
      room = 8;
      places = 8;
      number = 2 ^ 32 - number;
      count = 0;
      kinds = lent 8;
      operands = lent 8;
    }

-- -4105: the places of the two arrays are given
abbrev pub short : ℕ → ℕ → List ℕ → Row
short room places image =
    record {
      order = 0;
      image = image;
      base = 0x10;
      room = room;
      places = places;
      number = 2 ^ 32 - 4105;
      count = 0;
      kinds = lent room;
      operands = lent places;
    }

-- a cell of its four bytes in order 0, and a number below 256 as a cell
abbrev pub small : ℕ → List ℕ
small x = x ∷ 0 ∷ 0 ∷ 0 ∷ []

-- the first rule of document 01, Worked on paper: literals 2 and 3, then 1Eh and 55h
abbrev pub rule : List ℕ
rule = (0x53 ∷ 2 ∷ 0 ∷ 0 ∷ []) ++ (0x53 ∷ 3 ∷ 0 ∷ 0 ∷ []) ++ (0x1E ∷ 0x55 ∷ 0 ∷ 0 ∷ [])

abbrev pub taken_rows : List Row
taken_rows =
    taken 0 0x10 rule (0x52 ∷ 0x52 ∷ 0x1E ∷ 0x55 ∷ []) (2 ∷ 3 ∷ 0 ∷ 0 ∷ [])
    -- the same in the other byte order, and at another base: it has no branch
    ∷ taken 1 0x40 ((0 ∷ 0 ∷ 2 ∷ 0x53 ∷ []) ++ (0 ∷ 0 ∷ 3 ∷ 0x53 ∷ []) ++ (0 ∷ 0 ∷ 0x55 ∷ 0x1E ∷ []))
    (0x52 ∷ 0x52 ∷ 0x1E ∷ 0x55 ∷ []) (2 ∷ 3 ∷ 0 ∷ 0 ∷ [])
    -- two literals and a plain item in one cell, their operand cells behind it: 800000h fits no three bytes, FF7FFFFFh neither
    ∷ taken 0 0x10 ((0x52 ∷ 0x52 ∷ 0x01 ∷ 0 ∷ []) ++ (0 ∷ 0 ∷ 0x80 ∷ 0 ∷ []) ++ (0xFF ∷ 0xFF ∷ 0x7F ∷ 0xFF ∷ []))
    (0x52 ∷ 0x52 ∷ 0x01 ∷ []) (0x800000 ∷ 0xFF7FFFFF ∷ 0 ∷ [])
    -- -1 in the one byte left, and a branch back to item 0, three cells from its EP value
    ∷ taken 0 0x10 ((0x01 ∷ 0x01 ∷ 0x53 ∷ 0xFF ∷ []) ++ (0x43 ∷ 0xFE ∷ 0xFF ∷ 0xFF ∷ [])) (0x01 ∷ 0x01 ∷ 0x52 ∷ 0x42 ∷ []) (0 ∷ 0 ∷ 0xFFFFFFFF ∷ 0 ∷ [])
    -- a branch with no byte left holds its target's address, 18h: the item behind its operand cell
    ∷ taken 0 0x10 ((0x01 ∷ 0x01 ∷ 0x01 ∷ 0x42 ∷ []) ++ small 0x18 ++ small 0x55) (0x01 ∷ 0x01 ∷ 0x01 ∷ 0x42 ∷ 0x55 ∷ []) (0 ∷ 0 ∷ 0 ∷ 4 ∷ 0 ∷ [])
    -- EXECUTE, and the item after it in a cell of its own
    ∷ taken 0 0x10 (small 0x46 ++ small 0x55) (0x46 ∷ 0x55 ∷ []) (0 ∷ 0 ∷ [])
    ∷ []

abbrev pub refused_rows : List Row
refused_rows =
    -- -4116: a 00h byte between two items of a cell
    refused 4116 0 0x10 (0x1E ∷ 0 ∷ 0x55 ∷ 0 ∷ [])
    -- a literal in a cell of its own, although 2 fits the three bytes left
    ∷ refused 4116 0 0x10 (small 0x52 ++ small 2)
    -- an item behind EXECUTE in its cell
    ∷ refused 4116 0 0x10 (0x46 ∷ 0x55 ∷ 0 ∷ 0 ∷ [])
    -- a branch past the image; one to an operand cell; one between two cells
    ∷ refused 4116 0 0x10 (0x43 ∷ 5 ∷ 0 ∷ 0 ∷ [])
    ∷ refused 4116 0 0x10 ((0x43 ∷ 1 ∷ 0 ∷ 0 ∷ []) ++ small 0x52 ++ (0xFF ∷ 0xFF ∷ 0xFF ∷ 0x7F ∷ []))
    ∷ refused 4116 0 0x10 ((0x01 ∷ 0x01 ∷ 0x01 ∷ 0x42 ∷ []) ++ small 0x1A ++ small 0x55)
    -- items that find room in the cell before; a branch that could be immediate; padding that is not 00h
    ∷ refused 4116 0 0x10 (small 0x1E ++ small 0x55)
    ∷ refused 4116 0 0x10 (small 0x42 ++ small 0x10)
    ∷ refused 4116 0 0x10 (0x1E ∷ 0x55 ∷ 0 ∷ 1 ∷ [])
    -- an operand cell that is missing, and a cell too many
    ∷ refused 4116 0 0x10 (small 0x52)
    ∷ refused 4116 0 0x10 (rule ++ small 0)
    -- no kind; the other byte order; a base for which the address in a branch is not that of an entry
    ∷ refused 4116 0 0x10 (small 0x56)
    ∷ refused 4116 1 0x10 rule
    ∷ refused 4116 0 0x14 ((0x01 ∷ 0x01 ∷ 0x01 ∷ 0x42 ∷ []) ++ small 0x18 ++ small 0x55)
    -- no byte; no whole cell
    ∷ refused 4116 0 0x10 []
    ∷ refused 4116 0 0x10 (rule ++ (0 ∷ []))
    -- -4102, -4104, -4110 come first, in this order; -4110 counts the bytes of an image that is no whole cells
    ∷ refused 4102 2 0x11 []
    ∷ refused 4104 0 0x6 []
    ∷ refused 4110 0 0xC []
    ∷ refused 4110 0 0x1000000 (0 ∷ [])
    ∷ refused 4116 0 0x1000000 []
    -- -4105 last: either array a place short
    ∷ short 3 4 rule
    ∷ short 4 3 rule
    ∷ []

abbrev pub Holds : List Row → Type 0
Holds rows =
    (map (λ r. (unpack_of r.order r.image r.base (lent r.room) (lent r.places)).number) rows ≡ map (λ r. r.number) rows)
    × (map (λ r. (unpack_of r.order r.image r.base (lent r.room) (lent r.places)).count) rows ≡ map (λ r. r.count) rows)
    × (map (λ r. (unpack_of r.order r.image r.base (lent r.room) (lent r.places)).kinds) rows ≡ map (λ r. r.kinds) rows)
    × (map (λ r. (unpack_of r.order r.image r.base (lent r.room) (lent r.places)).operands) rows ≡ map (λ r. r.operands) rows)

abbrev pub RowsHold : Type 0
RowsHold = Holds taken_rows × Holds refused_rows
