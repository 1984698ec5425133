-- What a packing leaves and answers. Document 01, Turned back for the state: a refusal has a number, a count of 0 and leaves the output;
-- a success changes the bytes of its image alone.
use Rattle.std.specs.Prelude.{List, ℕ, length, Result, Err, Ok}
use Rattle.cell.specs.Memory.{cell_count}
use Rattle.cell.specs.Refusals.{answer_number, Judged}
use Rattle.cell.specs.declared.CellCount.{CellCount}
use Rattle.cell.specs.declared.Refusal.{Refusal}
use Rattle.pack_layout.specs.Listing.{Listing, listed}
use Rattle.pack_layout.specs.Packing.{image, image_cells}
use Rattle.pack_layout.specs.Output.{written}
use Rattle.pack_refusals.specs.Judgement.{judge_pack}

-- what a packing answers: the number of cells of the image
abbrev pub Packed : Type 0
Packed = Result CellCount Refusal

-- the count of each answer: the cells of the image, or 0 on a refusal
abbrev pub pack_count : Packed → ℕ
pack_count (Err r) = 0
pack_count (Ok n) = n.0

-- the output after a packing, and its answer
pub record PackResult : Type 0 where
  pub output : List ℕ
  pub answer : Packed
  pub number : ℕ
  pub count : ℕ

abbrev pub packed_to : List ℕ → Packed → PackResult
packed_to out a = record { output = out; answer = a; number = answer_number a; count = pack_count a }

-- a listing at a base: refused, or its image in the output's first cells, in the byte order
abbrev pub pack_if : Judged → ℕ → ℕ → Listing → List ℕ → PackResult
pack_if (Err r) order base l out = packed_to out (Err r)
pack_if (Ok _) order base l out =
    packed_to (written order (image base l) out) (Ok (cell_count (image_cells l)))

-- pack, on a listing in two arrays
unfoldable pub pack_of : ℕ → List ℕ → List ℕ → ℕ → List ℕ → PackResult
pack_of order kinds operands base out =
    pack_if (judge_pack order kinds operands base (length out)) order base (listed kinds operands) out
