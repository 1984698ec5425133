-- The image of a listing: forms, values, marks and cells. Document 01, Listings, the paragraph on entries, its second half.
use Rattle.std.specs.Prelude.{◌≡◌, Bool, true, false, not, ◌&&◌, ◌||◌, List, [], ◌∷◌, ℕ, zero, suc, ◌+◌, ◌-◌, ◌*◌, ◌%◌, ◌^◌, ◌<◌, eqb, Option, None, Some}
use Rattle.cell.specs.Choice.{if}
use Rattle.cell.specs.Refusals.{judge, unaligned, Judged, passed}
use Rattle.pack_layout.specs.declared.Class.{Class}
use Rattle.pack_layout.specs.declared.ItemForm.{ItemForm}
use Rattle.pack_layout.specs.declared.ItemNumber.{ItemNumber}
use Rattle.pack_layout.specs.Bytes.{fits}
use Rattle.pack_layout.specs.declared.PlacedItem.{PlacedItem}
use Rattle.pack_layout.specs.Placed.{placed_at, marked_in, with_mark}
use Rattle.pack_layout.specs.Kinds.{class_of, plain, literal, branch, no_kind}
use Rattle.pack_layout.specs.Grounds.{out_of_place}
use Rattle.pack_layout.specs.Listing.{Listing, entry, judged_listing}
use Rattle.pack_layout.specs.Layout.{Plan, extra, cur, mid, left, form_at, alone, immediate, in_cell}
use Rattle.pack_layout.specs.Image.{cells, reg}
use Rattle.pack_layout.specs.Rounds.{settled}

-- document 01, Listings: without a mark and with a byte or more left, the immediate form; else an operand cell
abbrev pub taking : Bool → ℕ → ItemForm
taking marked zero = in_cell
taking true (suc f) = in_cell
taking false (suc f) = immediate

-- the form of an item with operand x where its opcode leaves f bytes; m is its mark if it is a branch. Document 01, Listings: a
-- literal counts as marked where, and only where, its value does not fit f signed bytes
abbrev pub form_of : Class → Bool → ℕ → ℕ → ItemForm
form_of plain m x f = alone
form_of literal m x f = taking (not (fits f x)) f
form_of branch m x f = taking m f
form_of no_kind m x f = alone

-- document 01, Listings: a branch holds the cells from its EP value to its target, or in an operand cell the target's address. next and
-- to are the indexes of the EP value and of the target's cell; a way back is a cell's negative number
abbrev pub distance : ℕ → ℕ → ℕ
distance next to = (to + 2 ^ 32 - next) % 2 ^ 32

abbrev pub branch_value : ItemForm → ℕ → ℕ → ℕ → ℕ
branch_value alone next to base = 0
branch_value immediate next to base = distance next to
branch_value in_cell next to base = base + 4 * to

-- the value of an item with operand x
abbrev pub value_of : Class → ItemForm → ℕ → ℕ → ℕ → ℕ → ℕ
value_of plain g x next to base = 0
value_of literal g x next to base = x
value_of branch g x next to base = branch_value g next to base
value_of no_kind g x next to base = 0

-- document 01, Listings: a round marks each immediate branch whose value does not fit
abbrev pub new_in : ItemForm → Bool → Bool
new_in alone fit = false
new_in immediate fit = not fit
new_in in_cell fit = false

abbrev pub new_of : Class → ItemForm → Bool → Bool
new_of plain g fit = false
new_of literal g fit = false
new_of branch g fit = new_in g fit
new_of no_kind g fit = false

module _ (l : Listing) where
  -- the layout under the branch marks m
  abbrev pub plan : (ℕ → Bool) → Plan
  plan m = record { entry = entry l; form = λ i f. form_of (class_of (l.kind i)) (m i) (l.operand i) f }

  abbrev pub distance_at : (ℕ → Bool) → ℕ → ℕ
  distance_at m i = distance (mid (plan m) i).next (mid (plan m) (l.operand i)).at

  abbrev pub new : (ℕ → Bool) → ℕ → Bool
  new m i = new_of (class_of (l.kind i)) (form_at (plan m) i) (fits (left (plan m) i) (distance_at m i))

  -- document 01, Listings: the marks when the rounds end, from none
  unfoldable pub marks : ℕ → Bool
  marks = settled l.count new

  abbrev pub layout : Plan
  layout = plan marks

  abbrev pub image_cells : ℕ
  image_cells = (cur layout l.count).next

-- document 01, Turned back for the state: -4104, then -4110, of the base of an image of size cells
abbrev pub judged_place : ℕ → ℕ → Judged
judged_place base size = judge (unaligned base ∷ out_of_place base size ∷ [])

-- the array before and after a round of marking, for the first n items: nothing but marks changes
abbrev pub Marked : Listing → List PlacedItem → List PlacedItem → ℕ → Type 0
Marked l before after n =
    (j : ℕ) → j < n → placed_at after j ≡ with_mark (marked_in before j || new l (marked_in before) j) (placed_at before j)

-- the entry that an address leads to, if any
abbrev pub Entry : Type 0
Entry = Option ItemNumber

module _ (base : ℕ) (l : Listing) where
  abbrev pub value : ℕ → ℕ
  value i =
      value_of (class_of (l.kind i)) (form_at (layout l) i) (l.operand i)
      (mid (layout l) i).next (mid (layout l) (l.operand i)).at base

  unfoldable pub image : List ℕ
  image = cells (layout l) l.kind value l.count 0

  -- the address of an item's cell, and its EP value
  abbrev pub address_of : ℕ → ℕ
  address_of i = base + 4 * (mid (layout l) i).at

  abbrev pub ep_value : ℕ → ℕ
  ep_value i = base + 4 * (mid (layout l) i).next

  -- document 01, Listings, the list machine: the entry whose cell is at an address; here among the first items, as many as the first
  -- argument says
  unfoldable pub entry_below : ℕ → ℕ → Entry
  entry_below zero a = None
  entry_below (suc i) a = if (entry l i && eqb (address_of i) a) (Some (record { 0 = i })) (entry_below i a)

  unfoldable pub entry_at : ℕ → Entry
  entry_at = entry_below l.count

  -- A when item i's opcode is its low byte
  abbrev pub register : ℕ → ℕ
  register i = reg (layout l) image i

  -- EP behind item i, once its operand cell, if it has one, is passed
  abbrev pub behind : ℕ → ℕ
  behind i = ep_value i + 4 * extra (form_at (layout l) i)

  abbrev pub judged_base : Judged
  judged_base = judged_place base (image_cells l)

-- document 01, Listings, on demand 3: what an accepted listing and a legal base are; operands are cells
pub record Legal (base : ℕ) (l : Listing) : Type 0 where
  pub input : judged_listing l ≡ passed
  pub state : judged_base base l ≡ passed
  pub cell : (i : ℕ) → i < l.count → l.operand i < 2 ^ 32
