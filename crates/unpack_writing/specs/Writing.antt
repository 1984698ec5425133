-- Arrays after a listing was written to their first places. Document 02, (h): a success writes nothing else, a refusal nothing.
use Rattle.std.specs.Prelude.{List, ◌++◌, ℕ, length, drop, Err, Ok}
use Rattle.cell.specs.Refusals.{Judged}

-- a list written over the first places of another
abbrev pub over : List ℕ → List ℕ → List ℕ
over xs l = xs ++ drop (length xs) l

abbrev pub over_if : Judged → List ℕ → List ℕ → List ℕ
over_if (Ok _) xs l = over xs l
over_if (Err r) xs l = l
