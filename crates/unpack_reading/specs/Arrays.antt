-- What the working arrays of a reading hold.
use Rattle.std.specs.Prelude.{◌≡◌, List, ℕ, ◌+◌, ◌*◌, ◌/◌, ◌%◌, ◌<◌, eqb, length, get_or, set}
use Rattle.cell.specs.Choice.{if}
use Rattle.cell.specs.Number.{difference}
use Rattle.pack_layout.specs.declared.Class.{Class}
use Rattle.pack_layout.specs.declared.Class.TheVariants.{Plain as plain, Literal as literal, Branch as branch, NoKind as no_kind}
use Rattle.pack_layout.specs.Reading.{Reader, first_at, kind_read_at, held_at}

-- arrays hold the kinds of the first n items and what the items hold, and for each cell of the image the item that begins it
pub record Filled (img : List ℕ) (base : ℕ) (kinds held firsts : List ℕ) (n : ℕ) : Type 0 where
  pub kind : (j : ℕ) → j < n → get_or kinds j 0 ≡ kind_read_at img j
  pub value : (j : ℕ) → j < n → get_or held j 0 ≡ held_at img base j
  pub first : (c : ℕ) → c < length firsts → get_or firsts c 0 ≡ first_at img base n (base + 4 * c)

-- the array once item i is noted, if it begins its cell
abbrev pub first_noted : Reader → List ℕ → ℕ → List ℕ
first_noted r firsts i = if r.first (set firsts r.at i) firsts

-- the item that the array has for the cell at address a; 4,096, the number of no item, if the image has no such cell
abbrev pub item_in : ℕ → List ℕ → ℕ → ℕ
item_in base firsts a = if (eqb (difference a base % 4) 0) (get_or firsts (difference a base / 4) 4096) 4096

-- a branch's operand, from the address that it leads to; any other item's is what it holds
abbrev pub operand_in : Class → ℕ → List ℕ → ℕ → ℕ
operand_in plain base firsts x = x
operand_in literal base firsts x = x
operand_in branch base firsts x = item_in base firsts x
operand_in no_kind base firsts x = x
