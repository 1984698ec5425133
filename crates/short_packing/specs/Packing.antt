-- What refuses the packing of a short listing file, and what it leaves and answers. Document 02, (l): the packer gets the listing that the file
-- carries, so all but the input list is as for document 01's file.
use Rattle.std.specs.Prelude.{List, ℕ, length}
use Rattle.cell.specs.Refusals.{after, Judged}
use Rattle.pack_refusals.specs.Judgement.{judge_order, judge_all}
use Rattle.packer.specs.Pack.{PackResult, pack_if}
use Rattle.short_judging.specs.ShortFile.{short_base, short_listing}
use Rattle.short_judging.specs.Judging.{judged_short}

-- what can be told before the layout: the byte order, then the file's input list
unfoldable pub judge_input : ℕ → List ℕ → Judged
judge_input order s = after (judge_order order) (judged_short s)

-- a packing of the file into an output of `size` bytes
unfoldable pub judge_pack_short : ℕ → List ℕ → ℕ → Judged
judge_pack_short order s size = judge_all order (judged_short s) (short_base s) (short_listing s) size

-- pack_short, on a short file
unfoldable pub pack_short_of : ℕ → List ℕ → List ℕ → PackResult
pack_short_of order s out = pack_if (judge_pack_short order s (length out)) order (short_base s) (short_listing s) out
