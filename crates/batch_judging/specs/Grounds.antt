-- What refuses a batch. Document 02, (k): -4101 for either memory, then -4102, -4111 and -4112 as of a run, then -1 and -4105. Sums and products are exact.
use Rattle.std.specs.Prelude.{not, [], ◌∷◌, ℕ, ◌+◌, ◌*◌, ltb, eqb}
use Rattle.cell.specs.Refusals.{Ground, Judged, judge, after}
use Rattle.cell.specs.declared.Refusal.TheVariants.{MemoryLength, Outside, ShortOutput}
use Rattle.machine.specs.declared.Table.{Table}
use Rattle.areas.specs.declared.Areas.{Areas}
use Rattle.bounds.specs.Bounds.{judge_bounded}

-- -4101: the memory that is run in is not as long as the start memory, which is judged as every memory is
abbrev pub other_length : ℕ → ℕ → Ground
other_length len lent = record { applies = not (eqb lent len); refusal = MemoryLength }

-- -1: a form at the address passes the end of memory. One of no bytes may stand there
abbrev pub past_memory : ℕ → ℕ → ℕ → Ground
past_memory len a size = record { applies = ltb len (a + size); refusal = Outside }

-- -4105: the buffer is shorter than so many forms
abbrev pub too_few_bytes : ℕ → ℕ → ℕ → Ground
too_few_bytes size forms count = record { applies = ltb forms (count * size); refusal = ShortOutput }

unfoldable pub judge_forms : ℕ → ℕ → ℕ → ℕ → ℕ → Judged
judge_forms len a size forms count = judge (past_memory len a size ∷ too_few_bytes size forms count ∷ [])

-- of a start memory of len bytes, a memory of lent bytes, and a buffer of so many bytes
unfoldable pub judge_batch : ℕ → ℕ → ℕ → Areas → Table → ℕ → ℕ → ℕ → ℕ → Judged
judge_batch order len lent areas table a size forms count =
    after (judge (other_length len lent ∷ []))
    (after (judge_bounded len order areas table) (judge_forms len a size forms count))
