-- What refuses a load or a save. Document 01, Turned back for the input, Turned back for the state, and the order below them. Every sum
-- is exact: a count of FFFFFFFFh or an address near 2^32 refuses, and never wraps.
use Rattle.std.specs.Prelude.{Bool, true, not, ◌||◌, ◌&&◌, List, [], ◌∷◌, ℕ, suc, ◌+◌, ◌*◌, leb, ltb, eqb, length, get_or}
use Rattle.cell.specs.Refusals.{Judged, Ground, judge, memory_length, byte_order, unaligned}
use Rattle.cell.specs.declared.Refusal.TheVariants.{Header, FileLength, Outside, ShortOutput}
use Rattle.module_judging.specs.Format.{title, order_of, count_of}

-- the bytes of a file from `at` on are those of a list
abbrev pub stands_at : List ℕ → ℕ → List ℕ → Bool
stands_at file at [] = true
stands_at file at (x ∷ xs) = eqb (get_or file at 0) x && stands_at file (suc at) xs

abbrev pub titled : List ℕ → Bool
titled file = stands_at file 0 title

-- -2: a file without the title, with an unknown byte order, or too short to have both
abbrev pub header : List ℕ → Ground
header file =
    record { applies = ltb (length file) 8 || (not (titled file) || ltb 1 (order_of file)); refusal = Header }

-- -4103: a file that is not as long as its count says, or too short to have one
abbrev pub file_length : List ℕ → Ground
file_length file =
    record { applies = ltb (length file) 12 || not (eqb (length file) (12 + 4 * count_of file)); refusal = FileLength }

-- -1: an address outside memory, or cells that run over its end
abbrev pub outside : ℕ → ℕ → ℕ → Ground
outside len a l = record { applies = leb len a || ltb len (a + 4 * l); refusal = Outside }

-- -4105: an output without room for a module of l cells
abbrev pub short_output : ℕ → ℕ → Ground
short_output size l = record { applies = ltb size (12 + 4 * l); refusal = ShortOutput }

-- what a file, and a place for l cells, are judged by
unfoldable pub judge_file : List ℕ → Judged
judge_file file = judge (header file ∷ file_length file ∷ [])

unfoldable pub judge_place : ℕ → ℕ → ℕ → Judged
judge_place len a l = judge (unaligned a ∷ outside len a l ∷ [])

-- a load into a memory of len bytes: -4101, -4102, -2, -4103, -4104, -1
unfoldable pub judge_load : ℕ → ℕ → List ℕ → ℕ → Judged
judge_load len order file a =
    judge
    (memory_length len
    ∷ byte_order order
    ∷ header file
    ∷ file_length file
    ∷ unaligned a
    ∷ outside len a (count_of file)
    ∷ [])

-- a save of l cells into an output of `size` bytes: -4101, -4102, -4104, -1, -4105
unfoldable pub judge_save : ℕ → ℕ → ℕ → ℕ → ℕ → Judged
judge_save len order a l size =
    judge (memory_length len ∷ byte_order order ∷ unaligned a ∷ outside len a l ∷ short_output size l ∷ [])
