-- Where the items of a listing go. Document 01, Listings: an entry begins a cell, and so does an item that finds no free byte; any other
-- takes the next byte.
use Rattle.std.specs.Prelude.{◌≡◌, Bool, true, false, List, ℕ, zero, suc, ◌+◌, ◌-◌, ◌<◌}
use Rattle.pack_layout.specs.declared.Cursor.{Cursor}
use Rattle.pack_layout.specs.declared.ItemForm.{ItemForm}
use Rattle.pack_layout.specs.declared.PlacedItem.{PlacedItem}
use Rattle.pack_layout.specs.Placed.{placed_at}
pub use Rattle.pack_layout.specs.declared.ItemForm.TheVariants.{Alone as alone, Immediate as immediate, InCell as in_cell}

-- where the layout stands: at, the index of the open cell; free, the bytes left in it, 0 if none is open or it is full; next, the index
-- of the next cell
pub record Spot : Type 0 where
  pub at : ℕ
  pub free : ℕ
  pub next : ℕ

-- the code's cursor, in plain numbers
abbrev pub spot_of : Cursor → Spot
spot_of c = record { at = c.at.0; free = c.free; next = c.next.0 }

-- an item opens a cell: an entry, or no byte is free
abbrev pub fresh : ℕ → Bool → Bool
fresh zero entry = true
fresh (suc f) entry = entry

-- a new cell comes after all cells placed so far
abbrev pub opening : ℕ → Spot
opening next = record { at = next; free = 4; next = next + 1 }

abbrev pub begin : Bool → Spot → Spot
begin true c = opening c.next
begin false c = c

-- after an item with f bytes left behind its opcode: the immediate form closes the cell; with an operand cell, which
-- goes behind all cells so far, it stays open
abbrev pub finish : ItemForm → ℕ → Spot → Spot
finish alone f d = record { at = d.at; free = f; next = d.next }
finish immediate f d = record { at = d.at; free = 0; next = d.next }
finish in_cell f d = record { at = d.at; free = f; next = d.next + 1 }

abbrev pub step : Bool → (ℕ → ItemForm) → Spot → Spot
step o g c = finish (g ((begin o c).free - 1)) ((begin o c).free - 1) (begin o c)

-- the operand cells of a form
abbrev pub extra : ItemForm → ℕ
extra alone = 0
extra immediate = 0
extra in_cell = 1

-- what a layout goes by: the entries, and the form that item i takes where its opcode leaves f bytes
pub record Plan : Type 0 where
  pub entry : ℕ → Bool
  pub form : ℕ → ℕ → ItemForm

module _ (p : Plan) where
  -- the spot before item i
  unfoldable pub cur : ℕ → Spot
  cur zero = record { at = 0; free = 0; next = 0 }
  cur (suc i) = step (fresh (cur i).free (p.entry i)) (p.form i) (cur i)

  abbrev pub opens : ℕ → Bool
  opens i = fresh (cur i).free (p.entry i)

  -- the spot when item i's cell is open: the item's cell is at index mid i .at, and its EP value is the address of index
  -- mid i .next. Document 01, Listings: it lies behind the cell and the operand cells of the items before it in that cell
  abbrev pub mid : ℕ → Spot
  mid i = begin (opens i) (cur i)

  -- f of document 01: the bytes behind the item's opcode
  abbrev pub left : ℕ → ℕ
  left i = (mid i).free - 1

  abbrev pub form_at : ℕ → ItemForm
  form_at i = p.form i (left i)

-- the array holds, for each of the first n items, the indexes of its cell and of its EP value, and the bytes left behind its opcode
pub record Laid (p : Plan) (placed : List PlacedItem) (n : ℕ) : Type 0 where
  pub at : (j : ℕ) → j < n → (placed_at placed j).at.0 ≡ (mid p j).at
  pub next : (j : ℕ) → j < n → (placed_at placed j).next.0 ≡ (mid p j).next
  pub left : (j : ℕ) → j < n → (placed_at placed j).left ≡ left p j
