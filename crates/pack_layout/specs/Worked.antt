-- The rows of document 01, Worked on paper, that speak of packing: a listing in two arrays, and the cells of its image.
use Rattle.std.specs.Prelude.{◌≡◌, Bool, true, false, List, [], ◌∷◌, ◌++◌, map, ℕ, zero, suc, ◌+◌, ◌-◌, ◌^◌, replicate, Err, Ok}
use Rattle.cell.specs.Choice.{if}
use Rattle.cell.specs.Refusals.{refusal_number, Judged, passed}
use Rattle.pack_layout.specs.declared.Class.{Class}
use Rattle.pack_layout.specs.Kinds.{class_of, plain, literal, branch, no_kind}
use Rattle.pack_layout.specs.Listing.{listed, judged_arrays}
use Rattle.pack_layout.specs.Packing.{image}

pub record Row : Type 0 where
  pub base : ℕ
  pub kinds : List ℕ
  pub operands : List ℕ
  pub cells : List ℕ

abbrev pub row : ℕ → List ℕ → List ℕ → List ℕ → Row
row base kinds operands cells = record { base = base; kinds = kinds; operands = operands; cells = cells }

abbrev pub row_judged : Row → Judged
row_judged r = judged_arrays r.kinds r.operands

abbrev pub row_image : Row → List ℕ
row_image r = image r.base (listed r.kinds r.operands)

-- every row of a table is accepted and packs to its cells
abbrev pub RowsHold : List Row → Type 0
RowsHold rows = (map row_judged rows ≡ map (λ r. passed) rows) × (map row_image rows ≡ map (λ r. r.cells) rows)

-- the kinds here: 01h DUP, 1Eh, 42h BRANCH, 52h literal, 55h HALT
abbrev pub worked : List Row
worked =
    -- two literals, + and HALT
    row 0x10 (0x52 ∷ 0x52 ∷ 0x1E ∷ 0x55 ∷ []) (2 ∷ 3 ∷ 0 ∷ 0 ∷ []) (0x00000253 ∷ 0x00000353 ∷ 0x0000551E ∷ [])
    -- after two DUPs literal -1
    ∷ row 0x10 (0x01 ∷ 0x01 ∷ 0x52 ∷ []) (0 ∷ 0 ∷ 0xFFFFFFFF ∷ []) (0xFF530101 ∷ [])
    -- 127 and -128 fit there
    ∷ row 0x10 (0x01 ∷ 0x01 ∷ 0x52 ∷ []) (0 ∷ 0 ∷ 127 ∷ []) (0x7F530101 ∷ [])
    ∷ row 0x10 (0x01 ∷ 0x01 ∷ 0x52 ∷ []) (0 ∷ 0 ∷ 0xFFFFFF80 ∷ []) (0x80530101 ∷ [])
    -- 128 and -129 not
    ∷ row 0x10 (0x01 ∷ 0x01 ∷ 0x52 ∷ []) (0 ∷ 0 ∷ 128 ∷ []) (0x00520101 ∷ 128 ∷ [])
    ∷ row 0x10 (0x01 ∷ 0x01 ∷ 0x52 ∷ []) (0 ∷ 0 ∷ 0xFFFFFF7F ∷ []) (0x00520101 ∷ 0xFFFFFF7F ∷ [])
    -- 8388607 first in a cell; 8388608
    ∷ row 0x10 (0x52 ∷ []) (8388607 ∷ []) (0x7FFFFF53 ∷ [])
    ∷ row 0x10 (0x52 ∷ []) (8388608 ∷ []) (0x00000052 ∷ 0x00800000 ∷ [])
    -- three DUPs, literal 0
    ∷ row 0x10 (0x01 ∷ 0x01 ∷ 0x01 ∷ 0x52 ∷ []) (0 ∷ 0 ∷ 0 ∷ 0 ∷ []) (0x52010101 ∷ 0x00000000 ∷ [])
    -- branch to itself at 10h
    ∷ row 0x10 (0x42 ∷ []) (0 ∷ []) (0xFFFFFF43 ∷ [])
    ∷ []

abbrev pub repeated : ℕ → List ℕ → List ℕ
repeated zero s = []
repeated (suc k) s = s ++ repeated k s

-- Further rows, worked by hand from document 01, Listings, one for each rule that the rows above leave out.
-- 46h EXECUTE, 47h @EXECUTE, 48h CALL, 4Ah EXIT
abbrev pub further : List Row
further =
    -- the item after 46h and 47h opens a cell; the one after EXIT does not
    row 0x10 (0x46 ∷ 0x01 ∷ []) (0 ∷ 0 ∷ []) (0x00000046 ∷ 0x00000001 ∷ [])
    ∷ row 0x10 (0x47 ∷ 0x01 ∷ []) (0 ∷ 0 ∷ []) (0x00000047 ∷ 0x00000001 ∷ [])
    ∷ row 0x10 (0x4A ∷ 0x01 ∷ []) (0 ∷ 0 ∷ []) (0x0000014A ∷ [])
    -- a branch target opens a cell
    ∷ row 0x10 (0x01 ∷ 0x01 ∷ 0x42 ∷ []) (0 ∷ 0 ∷ 1 ∷ []) (0x00000001 ∷ 0xFFFF4301 ∷ [])
    -- a full cell: the next item opens one behind the operand cell
    ∷ row 0x10 (0x01 ∷ 0x01 ∷ 0x01 ∷ 0x52 ∷ 0x01 ∷ []) (0 ∷ 0 ∷ 0 ∷ 5 ∷ 0 ∷ []) (0x52010101 ∷ 5 ∷ 0x00000001 ∷ [])
    -- operand cells join one after the other, the cell staying open
    ∷ row 0x10 (0x52 ∷ 0x52 ∷ 0x01 ∷ []) (8388608 ∷ 8388609 ∷ 0 ∷ []) (0x00015252 ∷ 8388608 ∷ 8388609 ∷ [])
    -- a branch is measured from its EP value, which counts the operand cell before it
    ∷ row 0x10 (0x52 ∷ 0x42 ∷ []) (8388608 ∷ 0 ∷ []) (0xFFFE4352 ∷ 8388608 ∷ [])
    -- a branch over 132 cells with one byte left is marked, and holds its target's address
    ∷ row 0x10 (0x01 ∷ 0x01 ∷ 0x42 ∷ replicate 105 0x52 ++ (0x01 ∷ [])) (0 ∷ 0 ∷ 108 ∷ replicate 105 8388608 ++ (0 ∷ []))
    (0x52420101 ∷ 0x224 ∷ 8388608 ∷ repeated 26 (0x52525252 ∷ replicate 4 8388608) ++ (0x00000001 ∷ []))
    -- so is a call, and the item after it leaves the cell's last byte unused
    ∷ row
    0x10
    (0x01 ∷ 0x01 ∷ 0x48 ∷ replicate 104 0x52 ++ (0x01 ∷ []))
    (0 ∷ 0 ∷ 107 ∷ replicate 104 8388608 ++ (0 ∷ []))
    (0x00480101 ∷ 0x220 ∷ repeated 26 (0x52525252 ∷ replicate 4 8388608) ++ (0x00000001 ∷ []))
    ∷ []

-- the number of a judgement: 0, or the refusal's
abbrev pub judged_number : Judged → ℕ
judged_number (Ok _) = 0
judged_number (Err r) = refusal_number r

-- Listings that are refused: arrays, and k where document 01 gives the refusal -k
pub record RefusedRow : Type 0 where
  pub kinds : List ℕ
  pub operands : List ℕ
  pub number : ℕ

abbrev pub refused : List ℕ → List ℕ → ℕ → RefusedRow
refused kinds operands number = record { kinds = kinds; operands = operands; number = number }

abbrev pub RefusedRows : List RefusedRow → Type 0
RefusedRows rows =
    map (λ r. judged_number (judged_arrays r.kinds r.operands)) rows ≡ map (λ r. 2 ^ 32 - r.number) rows

abbrev pub refused_listings : List RefusedRow
refused_listings =
    -- no item; arrays unequal
    refused [] [] 4106
    ∷ refused (0x01 ∷ []) [] 4106
    ∷ refused (0x43 ∷ []) (0 ∷ 0 ∷ []) 4106
    -- 4,097 items, each of no kind
    ∷ refused (replicate 4097 0) (replicate 4097 0) 4106
    -- NEXT, an immediate opcode, one that raises -256, one past the table
    ∷ refused (0x00 ∷ []) (0 ∷ []) 4107
    ∷ refused (0x53 ∷ []) (0 ∷ []) 4107
    ∷ refused (0x56 ∷ []) (0 ∷ []) 4107
    ∷ refused (0x5C ∷ []) (0 ∷ []) 4107
    -- a plain operand; a target of n
    ∷ refused (0x57 ∷ []) (1 ∷ []) 4108
    ∷ refused (0x42 ∷ []) (1 ∷ []) 4109
    -- the lowest item decides
    ∷ refused (0x52 ∷ 0x42 ∷ 0x01 ∷ 0xFF ∷ []) (9 ∷ 4 ∷ 1 ∷ 0 ∷ []) 4109
    ∷ []

-- how many of the bytes below k are of a class
abbrev pub is_plain : Class → Bool
is_plain plain = true
is_plain literal = false
is_plain branch = false
is_plain no_kind = false

abbrev pub is_kind : Class → Bool
is_kind plain = true
is_kind literal = true
is_kind branch = true
is_kind no_kind = false

unfoldable pub bytes_of : (Class → Bool) → ℕ → ℕ
bytes_of test zero = 0
bytes_of test (suc k) = if (test (class_of k)) 1 0 + bytes_of test k
