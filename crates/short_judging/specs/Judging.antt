-- What refuses a short listing file. Document 02, (l): -4119 where its header is cut short; -4106 by n; -4119 where m or the length does not fit
-- the kinds; then document 01's judgement of the items. -4108 has no place, since the file has no operand for a plain item.
use Rattle.std.specs.Prelude.{not, ◌||◌, List, [], ◌∷◌, ℕ, ◌+◌, ◌*◌, ltb, eqb, length, Result, Err, Ok}
use Rattle.cell.specs.Refusals.{Ground, judge, after, Judged}
use Rattle.cell.specs.declared.Refusal.{Refusal}
use Rattle.cell.specs.declared.Refusal.TheVariants.{OperandCount}
use Rattle.pack_layout.specs.Grounds.{item_count}
use Rattle.pack_layout.specs.File.{file_count, filed, judged_file}
use Rattle.pack_layout.specs.Listing.{judged_from}
use Rattle.short_judging.specs.Operands.{operands_before}
use Rattle.short_judging.specs.ShortFile.{short_count, operand_count, short_kind, short_listing}

-- -4119: a file of this size ends inside its header
abbrev pub cut_header : ℕ → Ground
cut_header size = record { applies = ltb size 12; refusal = OperandCount }

-- -4119: m is not the k operands that the kinds have, or the size is not that of header, n kinds and m operands
abbrev pub other_count : ℕ → ℕ → ℕ → ℕ → Ground
other_count size n m k =
    record { applies = not (eqb m k) || not (eqb size (12 + n + 4 * m)); refusal = OperandCount }

abbrev pub judged_counts : List ℕ → Judged
judged_counts s =
    let n = short_count s in
    judge (cut_header (length s) ∷ item_count n ∷ other_count (length s) n (operand_count s) (operands_before (short_kind s) n) ∷ [])

-- the input list of a short file
unfoldable pub judged_short : List ℕ → Judged
judged_short s = after (judged_counts s) (judged_from (short_listing s) (short_count s) 0)

-- what a listing file is judged on the way to a short one: the operands that its short file has
abbrev pub Counted : Type 0
Counted = Result ℕ Refusal

-- refused, or the operands that it keeps
abbrev pub keeping : Judged → ℕ → Counted
keeping (Err r) m = Err r
keeping (Ok _) m = Ok m

-- the operands that the short file of a listing file has
abbrev pub kept_count : List ℕ → ℕ
kept_count s = operands_before (filed s).kind (file_count s)

unfoldable pub counted_file : List ℕ → Counted
counted_file s = keeping (judged_file s) (kept_count s)
