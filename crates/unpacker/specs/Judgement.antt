-- What refuses an unpacking. Document 02, (h), and document 01, Turned back for the state: -4102, -4104, -4110, -4116, and the room of outputs last.
use Rattle.std.specs.Prelude.{not, List, [], ◌∷◌, ℕ, length}
use Rattle.cell.specs.Refusals.{Ground, judge, after, Judged}
use Rattle.cell.specs.declared.Refusal.TheVariants.{NoListing}
use Rattle.pack_layout.specs.Reading.{cells_of, items_read}
use Rattle.pack_layout.specs.Unpacking.{taken}
use Rattle.unpack_judging.specs.Judgement.{judge_place, judge_arrays}

-- -4116: no listing packs to these bytes
abbrev pub no_listing : ℕ → ℕ → List ℕ → Ground
no_listing order base s = record { applies = not (taken order base s); refusal = NoListing }

unfoldable pub judge_read : ℕ → ℕ → List ℕ → Judged
judge_read order base s = after (judge_place order base (length s)) (judge (no_listing order base s ∷ []))

unfoldable pub judge_unpack : ℕ → ℕ → List ℕ → ℕ → ℕ → Judged
judge_unpack order base s k x = after (judge_read order base s) (judge_arrays (items_read (cells_of order s)) k x)
