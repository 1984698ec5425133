-- An image read back, item by item. Document 02, (h). A cell is read as A uncovers it, document 01, Listings: an item's opcode is the
-- lowest byte of what is left of its cell. Cells are named by their index in the image; behind its end there is nothing, 0.
use Rattle.std.specs.Prelude.{Bool, true, false, ◌&&◌, List, [], ◌∷◌, ℕ, zero, suc, ◌+◌, ◌-◌, ◌*◌, ◌/◌, ◌%◌, ◌^◌, leb, eqb, length, get_or}
use Rattle.cell.specs.Choice.{if}
use Rattle.cell.specs.Memory.{cell_at}
use Rattle.cell.specs.Shift.{asr8}
use Rattle.pack_layout.specs.declared.Class.{Class}
use Rattle.pack_layout.specs.declared.ItemForm.{ItemForm}
use Rattle.pack_layout.specs.Kinds.{class_of, among, immediates, plain, literal, branch, no_kind}
use Rattle.pack_layout.specs.Layout.{extra, alone, immediate, in_cell}
use Rattle.pack_layout.specs.Listing.{Listing, listed}

-- what f gives for the k numbers from i on
unfoldable pub each : (ℕ → ℕ) → ℕ → ℕ → List ℕ
each f zero i = []
each f (suc k) i = f i ∷ each f k (suc i)

-- the whole cells of bytes in a byte order
unfoldable pub cells_of : ℕ → List ℕ → List ℕ
cells_of order s = each (λ j. cell_at order s (4 * j)) (length s / 4) 0

-- an opcode's form: the immediate opcodes apart, literals and branches have an operand cell
abbrev pub form_in : Class → ItemForm
form_in plain = alone
form_in literal = in_cell
form_in branch = in_cell
form_in no_kind = alone

abbrev pub form_read : ℕ → ItemForm
form_read b = if (among b immediates) immediate (form_in (class_of b))

-- document 01, Listings: an immediate opcode is the number after its kind's
abbrev pub kind_read : ItemForm → ℕ → ℕ
kind_read alone b = b
kind_read immediate b = b - 1
kind_read in_cell b = b

-- where an item is read: at, the index of its cell; rest, that cell from its opcode up; next, the index of its EP value; first, whether it
-- is the first of its cell
pub record Reader : Type 0 where
  pub at : ℕ
  pub rest : ℕ
  pub next : ℕ
  pub first : Bool

-- the cell is read to its end: by an immediate, or with nothing left above the item's opcode
abbrev pub done : ItemForm → ℕ → Bool
done alone above = eqb above 0
done immediate above = true
done in_cell above = eqb above 0

-- document 01, Listings: an immediate branch leads as many cells on from its EP value as its value says, any other to the address in its
-- operand cell
abbrev pub leads_to : ℕ → ItemForm → ℕ → ℕ → ℕ
leads_to base alone next v = 0
leads_to base immediate next v = (base + 4 * next + 4 * v) % 2 ^ 32
leads_to base in_cell next v = v

abbrev pub opcode_read : Reader → ℕ
opcode_read r = r.rest % 256

module _ (img : List ℕ) where
  abbrev pub at_cell : ℕ → Reader
  at_cell j = record { at = j; rest = get_or img j 0; next = j + 1; first = true }

  -- behind an item in the form g: the next cell, or on in the same one
  abbrev pub behind_item : ItemForm → Reader → Reader
  behind_item g r =
      if (done g (asr8 r.rest)) (at_cell (r.next + extra g))
      (record { at = r.at; rest = asr8 r.rest; next = r.next + extra g; first = false })

  -- where item i is read
  unfoldable pub reader : ℕ → Reader
  reader zero = at_cell 0
  reader (suc i) = behind_item (form_read (opcode_read (reader i))) (reader i)

  -- the first item from i on whose cell would lie behind the image, with k items to look at
  unfoldable pub items_from : ℕ → ℕ → ℕ
  items_from zero i = i
  items_from (suc k) i = if (leb (length img) (reader i).at) i (items_from k (suc i))

  -- the number of items; 4,097 if there are more than 4,096
  unfoldable pub items_read : ℕ
  items_read = items_from 4097 0

  -- an item's value: what is left of its cell, or its operand cell
  abbrev pub value_read : ItemForm → Reader → ℕ
  value_read alone r = 0
  value_read immediate r = asr8 r.rest
  value_read in_cell r = get_or img r.next 0

  abbrev pub form_read_at : ℕ → ItemForm
  form_read_at i = form_read (opcode_read (reader i))

  abbrev pub kind_read_at : ℕ → ℕ
  kind_read_at i = kind_read (form_read_at i) (opcode_read (reader i))

  -- the kinds and, below, the operands of the listing read
  unfoldable pub kinds_read : List ℕ
  kinds_read = each kind_read_at items_read 0

  module _ (base : ℕ) where
    -- of the first k items the last that begins the cell at address a; 4,096, the number of no item, if none does
    unfoldable pub first_at : ℕ → ℕ → ℕ
    first_at zero a = 4096
    first_at (suc j) a = if ((reader j).first && eqb (base + 4 * (reader j).at) a) j (first_at j a)

    -- what an item holds: a literal its value, a branch the address that it leads to
    abbrev pub held_of : Class → ItemForm → Reader → ℕ
    held_of plain g r = 0
    held_of literal g r = value_read g r
    held_of branch g r = leads_to base g r.next (value_read g r)
    held_of no_kind g r = 0

    -- document 01, Listings: a branch's operand is the number of an item
    abbrev pub operand_of : Class → ℕ → ℕ
    operand_of plain x = x
    operand_of literal x = x
    operand_of branch x = first_at items_read x
    operand_of no_kind x = x

    abbrev pub held_at : ℕ → ℕ
    held_at i = held_of (class_of (kind_read_at i)) (form_read_at i) (reader i)

    abbrev pub operand_read_at : ℕ → ℕ
    operand_read_at i = operand_of (class_of (kind_read_at i)) (held_at i)

    unfoldable pub operands_read : List ℕ
    operands_read = each operand_read_at items_read 0

    abbrev pub listing_read : Listing
    listing_read = listed kinds_read operands_read
