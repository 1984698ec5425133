-- The copy of cells from one byte order to another, first cell first. Document 01, Modules: a cell that is read in the order of its file and
-- stored in the machine's has its bytes reversed exactly where the two differ.
use Rattle.std.specs.Prelude.{List, ℕ, zero, suc, ◌+◌, ◌*◌}
use Rattle.cell.specs.Memory.{cell_at, store_cell}

-- memory with the first k cells of a code part from byte address a on
unfoldable pub copied : ℕ → ℕ → List ℕ → List ℕ → ℕ → ℕ → List ℕ
copied theirs ours code m a zero = m
copied theirs ours code m a (suc k) =
    store_cell ours (copied theirs ours code m a k) (a + 4 * k) (cell_at theirs code (4 * k))
