-- What load_set leaves and answers. Document 02, (d): all modules of a set go in, or none.
use Rattle.std.specs.Prelude.{List, [], ◌∷◌, ℕ, ◌+◌, length, Ok, Err}
use Rattle.cell.specs.Memory.{cell_count}
use Rattle.cell.specs.Refusals.{Judged}
use Rattle.module_judging.specs.Format.{order_of, code_of}
use Rattle.module_copying.specs.Copies.{copied}
use Rattle.module_loading.specs.Answers.{LoadResult, loaded_to}
use Rattle.set_judging.specs.declared.Member.{Member}
use Rattle.set_judging.specs.Members.{members_of, file_of, cells_of}
use Rattle.set_judging.specs.Grounds.{judge_set}

module _ (order : ℕ) (buffer : List ℕ) where
  -- memory with the cells of a module at its address
  unfoldable pub copied_one : Member → List ℕ → List ℕ
  copied_one x m =
      let file = file_of buffer x in
      copied (order_of file) order (code_of file) m x.address.0 (cells_of buffer x)

  -- memory with the cells of each, one module after another
  abbrev pub copied_set : List Member → List ℕ → List ℕ
  copied_set [] m = m
  copied_set (x ∷ xs) m = copied_set xs (copied_one x m)

-- how many cells all of them have
abbrev pub cells_in : List ℕ → List Member → ℕ
cells_in buffer [] = 0
cells_in buffer (x ∷ xs) = cells_of buffer x + cells_in buffer xs

-- where the judgement is no refusal, every module goes in
abbrev pub load_set_if : Judged → ℕ → List ℕ → List ℕ → List Member → LoadResult
load_set_if (Err r) order m buffer xs = loaded_to m (Err r)
load_set_if (Ok _) order m buffer xs =
    loaded_to (copied_set order buffer xs m) (Ok (cell_count (cells_in buffer xs)))

-- load_set on a machine of a byte order, with its memory, a buffer, and three numbers for each module
unfoldable pub load_set_of : ℕ → List ℕ → List ℕ → List ℕ → LoadResult
load_set_of order m buffer numbers =
    load_set_if (judge_set (length m) order buffer numbers) order m buffer (members_of numbers)
