-- An image as bytes in a lent output. Document 01, The processor: order 0 puts the least significant byte first, order 1 the most;
-- Turned back for the state: a success leaves every other byte.
use Rattle.std.specs.Prelude.{List, [], ◌∷◌, ◌++◌, ℕ, ◌*◌, Bool, true, false, length, drop}
use Rattle.std.proofs.lemmas.List.Edits.{sets}
use Rattle.cell.specs.Memory.{cell_bytes}
use Rattle.pack_layout.specs.declared.ItemForm.{ItemForm}
use Rattle.pack_layout.specs.Layout.{alone, immediate, in_cell}

-- the bytes of cells in a row
unfoldable pub bytes_of : ℕ → List ℕ → List ℕ
bytes_of order [] = []
bytes_of order (x ∷ xs) = cell_bytes order x ++ bytes_of order xs

-- the output after an image was written to its first cells
abbrev pub written : ℕ → List ℕ → List ℕ → List ℕ
written order image out = bytes_of order image ++ drop (4 * length image) out

-- a store of one cell at index a: an item's operand cell, and the cell that it opens
abbrev pub joined_at : ItemForm → ℕ → List ℕ → ℕ → ℕ → List ℕ
joined_at alone order out a x = out
joined_at immediate order out a x = out
joined_at in_cell order out a x = sets out (4 * a) (cell_bytes order x)

abbrev pub opened_at : Bool → ℕ → List ℕ → ℕ → ℕ → List ℕ
opened_at true order out a x = sets out (4 * a) (cell_bytes order x)
opened_at false order out a x = out
