-- What refuses a listing and its base. Document 01, Turned back for the input and Turned back for the state.
use Rattle.std.specs.Prelude.{not, ◌||◌, ℕ, ◌+◌, ◌*◌, leb, ltb, eqb}
use Rattle.cell.specs.Refusals.{Ground}
use Rattle.cell.specs.declared.Refusal.TheVariants.{ItemCount, PlainOperand, Target, Base}

-- -4106: no item, or more than 4,096
abbrev pub item_count : ℕ → Ground
item_count n = record { applies = eqb n 0 || ltb 4096 n; refusal = ItemCount }

-- -4106: the lengths of two arrays differ
abbrev pub unequal : ℕ → ℕ → Ground
unequal k n = record { applies = not (eqb k n); refusal = ItemCount }

-- -4106: a file's size is not that of its header and its n items
abbrev pub listing_length : ℕ → ℕ → Ground
listing_length size n = record { applies = ltb size 8 || not (eqb size (8 + 5 * n)); refusal = ItemCount }

-- -4108: a plain item's operand is not 0
abbrev pub plain_operand : ℕ → Ground
plain_operand x = record { applies = not (eqb x 0); refusal = PlainOperand }

-- -4109: a branch of a listing of n items leads to none of them
abbrev pub no_target : ℕ → ℕ → Ground
no_target n x = record { applies = leb n x; refusal = Target }

-- -4110: an image of size cells begins among the first four cells, or ends past 16,777,216
abbrev pub out_of_place : ℕ → ℕ → Ground
out_of_place base size = record { applies = ltb base 0x10 || ltb 16777216 (base + 4 * size); refusal = Base }
