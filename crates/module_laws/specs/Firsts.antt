-- What is proved of a load that is told to halt after k cells. Document 02, (c). The proofs stand in proofs/FirstLaws.antt and, of saved
-- modules, in proofs/Theorems.antt. FirstCells, AllCells and LoadedFurther hold for every file and address, accepted or refused.
use Rattle.std.specs.Prelude.{◌≡◌, List, ◌++◌, ℕ, zero, suc, ◌+◌, ◌-◌, ◌*◌, ◌≤◌, min, length, take, drop}
use Rattle.cell.specs.Memory.{cell_at, store_cell, Bytewise}
use Rattle.cell.specs.Refusals.{GoodMachine}
use Rattle.module_judging.specs.Format.{order_of, count_of, code_of}
use Rattle.module_judging.specs.Conditions.{GoodPlace}
use Rattle.module_loading.specs.Answers.{LoadResult, load_of, load_first_of}
use Rattle.module_saving.specs.Answers.{save_of}
use Rattle.module_laws.specs.Theorems.{saved_file, SameCells}

-- the bytes of one memory on the n cells from byte address a on, and of another, the lent one, elsewhere
abbrev pub cells_from : List ℕ → ℕ → ℕ → List ℕ → List ℕ
cells_from whole a n lent = take a lent ++ take (4 * n) (drop a whole) ++ drop (a + 4 * n) lent

-- a load that halts, against the whole load of the same file: it answers the same number; it counts k cells, or all that the whole load counts; it
-- leaves the whole load's memory on the cells that it counts, and the lent memory elsewhere
pub record HaltedAfter (k : ℕ) (lent : List ℕ) (a : ℕ) (whole first : LoadResult) : Type 0 where
  pub number : first.number ≡ whole.number
  pub count : first.count ≡ min k whole.count
  pub memory : first.memory ≡ cells_from whole.memory a first.count lent

abbrev pub FirstCells : Type 0
FirstCells =
    (order : ℕ) (m file : List ℕ) (a k : ℕ)
    → HaltedAfter k m a (load_of order m file a) (load_first_of order m file a k)

-- load_object is the load that halts after the last cell, or later
abbrev pub AllCells : Type 0
AllCells =
    (order : ℕ) (m file : List ℕ) (a k : ℕ) → count_of file ≤ k → load_first_of order m file a k ≡ load_of order m file a

-- the cells of a code part from number k on, j of them, stored one by one
unfoldable pub stored_from : ℕ → ℕ → List ℕ → ℕ → ℕ → ℕ → List ℕ → List ℕ
stored_from theirs ours code a k zero m = m
stored_from theirs ours code a k (suc j) m =
    stored_from theirs ours code a (suc k) j (store_cell ours m (a + 4 * k) (cell_at theirs code (4 * k)))

-- k cells loaded, and then the rest of them, if any, cell by cell, are the whole load
abbrev pub RestByCells : Type 0
RestByCells =
    (order : ℕ) (m file : List ℕ) (a k : ℕ) → (load_of order m file a).number ≡ 0
    → stored_from (order_of file) order (code_of file) a k (count_of file - k) (load_first_of order m file a k).memory
    ≡ (load_of order m file a).memory

-- a load in the memory that an earlier halt left, of the same file and no shorter, is the load with no such halt before it
abbrev pub LoadedFurther : Type 0
LoadedFurther =
    (order : ℕ) (m file : List ℕ) (a k n : ℕ) → k ≤ n
    → load_first_of order (load_first_of order m file a k).memory file a n ≡ load_first_of order m file a n

-- the first k cells of a saved module, loaded on a machine of either byte order, are the first k that were saved
abbrev pub SavedLoadsFirst : Type 0
SavedLoadsFirst =
    (theirs : ℕ) (m : List ℕ) (b l : ℕ) (out : List ℕ) → Bytewise m → (save_of theirs m b l out).number ≡ 0
    → (ours : ℕ) (lent : List ℕ) (a k : ℕ) → GoodMachine (length lent) ours → GoodPlace (length lent) a l
    → SameCells theirs m b (min k l) ours lent a (load_first_of ours lent (saved_file (save_of theirs m b l out)) a k)
