-- What refuses the packing of a listing file, and what it leaves and answers.
use Rattle.std.specs.Prelude.{◌≡◌, List, [], ◌∷◌, ℕ, ◌+◌, ◌*◌, ◌≤◌, ltb, length}
use Rattle.cell.specs.Refusals.{Ground, judge, in_order, Judged}
use Rattle.cell.specs.declared.Refusal.TheVariants.{ItemCount}
use Rattle.pack_layout.specs.File.{filed, file_count, file_base, judged_length, judged_file}
use Rattle.pack_refusals.specs.Judgement.{judge_order, judge_all}
use Rattle.packer.specs.Pack.{PackResult, pack_if}

-- a file that is as long as its count of items says, with at most 4,096 of them
pub record Header (file : List ℕ) : Type 0 where
  pub whole : length file ≡ 8 + 5 * file_count file
  pub most : file_count file ≤ 4096

-- what can be told of a file before its items are read: the byte order, the length, and a count above 4,096
abbrev pub many_items : ℕ → Ground
many_items n = record { applies = ltb 4096 n; refusal = ItemCount }

unfoldable pub judge_header : ℕ → List ℕ → Judged
judge_header order file =
    in_order (judge_order order ∷ judged_length file ∷ judge (many_items (file_count file) ∷ []) ∷ [])

-- a packing of the file into an output of `size` bytes
unfoldable pub judge_pack_file : ℕ → List ℕ → ℕ → Judged
judge_pack_file order file size = judge_all order (judged_file file) (file_base file) (filed file) size

-- pack_file, on a listing file
unfoldable pub pack_file_of : ℕ → List ℕ → List ℕ → PackResult
pack_file_of order file out = pack_if (judge_pack_file order file (length out)) order (file_base file) (filed file) out
