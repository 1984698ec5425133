-- What the code is handed: a listing in two arrays, its settled layout in one table with a row for each item, and where its image is to stand.
use Rattle.std.specs.Prelude.{◌≡◌, Bool, false, ◌&&◌, List, ℕ, zero, suc, ◌+◌, ◌*◌, ◌^◌, ◌≤◌, ◌<◌, eqb, length, get_or, Some, None}
use Rattle.cell.specs.Refusals.{passed}
use Rattle.cell.specs.Choice.{if}
use Rattle.pack_layout.specs.Listing.{Listing, listed, entry, Checked}
use Rattle.pack_layout.specs.Layout.{extra, opens, mid, form_at}
use Rattle.pack_layout.specs.Packing.{layout, image_cells, judged_place, Entry}
use Rattle.list_machine.specs.ListMachine.{is_immediate}
use Rattle.list_tables.specs.declared.Image.{Image}
use Rattle.list_tables.specs.declared.ItemRow.{ItemRow}

-- a row before it is written
abbrev pub no_row : ItemRow
no_row =
    record { at = record { 0 = 0 }; next = record { 0 = 0 }; behind = record { 0 = 0 }; entry = false; opens = false; immediate = false }

-- the row of item i, and its parts
abbrev pub row_at : List ItemRow → ℕ → ItemRow
row_at table i = get_or table i no_row

abbrev pub place_in : List ItemRow → ℕ → ℕ
place_in table i = (row_at table i).at.0

abbrev pub next_in : List ItemRow → ℕ → ℕ
next_in table i = (row_at table i).next.0

abbrev pub behind_in : List ItemRow → ℕ → ℕ
behind_in table i = (row_at table i).behind.0

abbrev pub entry_in : List ItemRow → ℕ → Bool
entry_in table i = (row_at table i).entry

abbrev pub opens_in : List ItemRow → ℕ → Bool
opens_in table i = (row_at table i).opens

abbrev pub immediate_in : List ItemRow → ℕ → Bool
immediate_in table i = (row_at table i).immediate

-- the number of rows
abbrev pub rows : List ItemRow → ℕ
rows table = length table

-- the entry that an address leads to, among the first items, as many as k says
unfoldable pub entry_below : List ItemRow → ℕ → ℕ → ℕ → Entry
entry_below table base zero a = None
entry_below table base (suc i) a =
    if (entry_in table i && eqb (base + 4 * place_in table i) a) (Some (record { 0 = i })) (entry_below table base i a)

-- few rows, and every cell that they name has an address
pub record Near (table : List ItemRow) (base : ℕ) : Type 0 where
  pub few : rows table ≤ 4096
  pub near : (i : ℕ) → i < rows table → base + 4 * place_in table i < 2 ^ 32

-- the row of item i says what the layout does
pub record Row (l : Listing) (table : List ItemRow) (i : ℕ) : Type 0 where
  pub place : place_in table i ≡ (mid (layout l) i).at
  pub next : next_in table i ≡ (mid (layout l) i).next
  pub behind : behind_in table i ≡ (mid (layout l) i).next + extra (form_at (layout l) i)
  pub entry : entry_in table i ≡ entry l i
  pub opens : opens_in table i ≡ opens (layout l) i
  pub immediate : immediate_in table i ≡ is_immediate (form_at (layout l) i)

-- the rows of the first n items
abbrev pub Rows : Listing → List ItemRow → ℕ → Type 0
Rows l table n = (i : ℕ) → i < n → Row l table i

-- an accepted listing, its layout, and a legal base
pub record Settled (kinds operands : List ℕ) (table : List ItemRow) (image : Image) : Type 0 where
  pub checked : Checked kinds operands
  pub whole : length table ≡ length kinds
  pub rows : Rows (listed kinds operands) table (length kinds)
  pub size : image.cells.0 ≡ image_cells (listed kinds operands)
  pub place : judged_place image.base.0 image.cells.0 ≡ passed
