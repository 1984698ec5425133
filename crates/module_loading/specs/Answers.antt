-- What load_object and load_first leave and answer. Document 01, Turned back for the state: a refusal has a number and a count of
-- 0 and leaves everything lent; a success changes its own bytes alone. The number of a success is 0, document 001, section 4.3.
use Rattle.std.specs.Prelude.{List, ℕ, min, length, Result, Ok, Err}
use Rattle.cell.specs.Memory.{cell_count}
use Rattle.cell.specs.Refusals.{Judged, answer_number}
use Rattle.cell.specs.declared.CellCount.{CellCount}
use Rattle.cell.specs.declared.Refusal.{Refusal}
use Rattle.module_judging.specs.Format.{order_of, count_of, code_of}
use Rattle.module_judging.specs.Grounds.{judge_load}
use Rattle.module_copying.specs.Copies.{copied}

-- what a load answers: the number of cells loaded, or why there are none
abbrev pub Loaded : Type 0
Loaded = Result CellCount Refusal

-- the count of each answer of a load: the cells loaded, or 0; its number is 0, or the refusal's
abbrev pub load_count : Loaded → ℕ
load_count (Err r) = 0
load_count (Ok l) = l.0

-- memory after a load, and its answer
pub record LoadResult : Type 0 where
  pub memory : List ℕ
  pub answer : Loaded
  pub number : ℕ
  pub count : ℕ

abbrev pub loaded_to : List ℕ → Loaded → LoadResult
loaded_to m a = record { memory = m; answer = a; number = answer_number a; count = load_count a }

-- where the judgement is no refusal, the first n cells of the file go in
abbrev pub load_if : Judged → ℕ → List ℕ → List ℕ → ℕ → ℕ → LoadResult
load_if (Err r) order m file a n = loaded_to m (Err r)
load_if (Ok _) order m file a n =
    loaded_to (copied (order_of file) order (code_of file) m a n) (Ok (cell_count n))

-- load_object on a machine of a byte order, with its memory, a file and a byte address: all cells of the file
unfoldable pub load_of : ℕ → List ℕ → List ℕ → ℕ → LoadResult
load_of order m file a = load_if (judge_load (length m) order file a) order m file a (count_of file)

-- load_first, told to halt after k cells (document 02, (c)): it is judged as load_object is, and a file of fewer cells goes in whole
unfoldable pub load_first_of : ℕ → List ℕ → List ℕ → ℕ → ℕ → LoadResult
load_first_of order m file a k =
    load_if (judge_load (length m) order file a) order m file a (min k (count_of file))
