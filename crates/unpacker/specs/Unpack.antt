-- What an unpacking leaves and answers. Document 02, (h): a success writes the kinds and the operands of the listing, and nothing else; a
-- refusal has a number, a count of 0 and leaves both arrays.
use Rattle.std.specs.Prelude.{◌≡◌, List, ℕ, length, take, Result, Err, Ok}
use Rattle.cell.specs.Refusals.{answer_number, Judged, passed}
use Rattle.cell.specs.declared.Refusal.{Refusal}
use Rattle.pack_layout.specs.Reading.{cells_of, items_read, kinds_read, operands_read}
use Rattle.unpack_writing.specs.Writing.{over}
use Rattle.unpacker.specs.Judgement.{judge_read, judge_unpack}

-- what an unpacking answers: the number of items of the listing
abbrev pub Unpacked : Type 0
Unpacked = Result ℕ Refusal

-- the count of each answer: the items of the listing, or 0 on a refusal
abbrev pub unpack_count : Unpacked → ℕ
unpack_count (Err r) = 0
unpack_count (Ok n) = n

-- both arrays after an unpacking, and its answer
pub record UnpackResult : Type 0 where
  pub kinds : List ℕ
  pub operands : List ℕ
  pub answer : Unpacked
  pub number : ℕ
  pub count : ℕ

abbrev pub unpacked_to : List ℕ → List ℕ → Unpacked → UnpackResult
unpacked_to kinds operands a = record { kinds = kinds; operands = operands; answer = a; number = answer_number a; count = unpack_count a }

-- refused, or a listing's kinds and operands in the first places
abbrev pub unpack_if : Judged → List ℕ → List ℕ → List ℕ → List ℕ → UnpackResult
unpack_if (Err r) ks xs kinds operands = unpacked_to kinds operands (Err r)
unpack_if (Ok _) ks xs kinds operands = unpacked_to (over ks kinds) (over xs operands) (Ok (length ks))

-- unpack, on an image in bytes
unfoldable pub unpack_of : ℕ → List ℕ → ℕ → List ℕ → List ℕ → UnpackResult
unpack_of order s base kinds operands =
    unpack_if (judge_unpack order base s (length kinds) (length operands)) (kinds_read (cells_of order s)) (operands_read (cells_of order s) base)
    kinds operands

-- what the reading of an image by itself answers
abbrev pub read_if : Judged → ℕ → Unpacked
read_if (Err r) n = Err r
read_if (Ok _) n = Ok n

-- working arrays that begin with the listing of an image that is not refused
pub record Recovered (order base : ℕ) (s kinds operands : List ℕ) : Type 0 where
  pub kinds_front : judge_read order base s ≡ passed → take (items_read (cells_of order s)) kinds ≡ kinds_read (cells_of order s)
  pub operands_front : judge_read order base s ≡ passed → take (items_read (cells_of order s)) operands ≡ operands_read (cells_of order s) base
