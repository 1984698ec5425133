-- The cells of a layout. A cell is given as A uncovers it from its lowest byte up: the opcode, then what one shift leaves. Values and
-- opcodes are functions of the item's number.
use Rattle.std.specs.Prelude.{Bool, true, false, List, [], ◌∷◌, ℕ, zero, suc, ◌+◌, ◌-◌, ◌*◌, ◌%◌, ◌^◌, get_or}
use Rattle.cell.specs.Choice.{if}
use Rattle.pack_layout.specs.declared.ItemForm.{ItemForm}
use Rattle.pack_layout.specs.Bytes.{pack, shifts}
use Rattle.pack_layout.specs.Layout.{Plan, opens, mid, left, form_at, alone, immediate, in_cell}

-- document 01, Listings: the immediate opcode is the next number
abbrev pub byte_of : ItemForm → ℕ → ℕ
byte_of alone k = k
byte_of immediate k = k + 1
byte_of in_cell k = k

-- what stands above an item's opcode: o, the next item opens a cell; v, the item's value; w, the cell from the next item's byte up.
-- Document 01, Listings: an immediate's value fills the bytes behind its opcode; bytes that nothing fills are 00h
abbrev pub above : ItemForm → Bool → ℕ → ℕ → ℕ
above alone o v w = if o 0 w
above immediate o v w = v
above in_cell o v w = if o 0 w

-- the item's cell, if it opens one, goes before the cells that follow
abbrev pub opened : Bool → ℕ → List ℕ → List ℕ
opened true w rest = w ∷ rest
opened false w rest = rest

-- its operand cell, if it has one, comes next
abbrev pub joined : ItemForm → ℕ → List ℕ → List ℕ
joined alone v rest = rest
joined immediate v rest = rest
joined in_cell v rest = v ∷ rest

module _ (p : Plan) (kind val : ℕ → ℕ) where
  -- the open cell from item i's byte up, with k items left from item i on
  unfoldable pub word : ℕ → ℕ → ℕ
  word zero i = 0
  word (suc k) i = pack (byte_of (form_at p i) (kind i)) (above (form_at p i) (opens p (suc i)) (val i) (word k (suc i)))

  -- the same, byte by byte: an immediate's value gives its low f bytes. proofs/Direct.antt has that a whole cell is the same either way
  unfoldable pub direct : ℕ → ℕ → ℕ
  direct zero i = 0
  direct (suc k) i =
      byte_of (form_at p i) (kind i) + 256 * above (form_at p i) (opens p (suc i)) (val i % 256 ^ left p i) (direct k (suc i))

  -- the cells that items i to i + k - 1 open or join
  unfoldable pub cells : ℕ → ℕ → List ℕ
  cells zero i = []
  cells (suc k) i = opened (opens p i) (word (suc k) i) (joined (form_at p i) (val i) (cells k (suc i)))

-- A when item i's opcode is its low byte, read from an image: the item's cell, shifted once for each byte below
abbrev pub reg : Plan → List ℕ → ℕ → ℕ
reg p img i = shifts (3 - left p i) (get_or img (mid p i).at 0)
