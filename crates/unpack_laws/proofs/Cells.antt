-- Every operand read from bytes is a cell.
-- Assumes nothing.
use mathlib.Core.Bool.{Bool, true, false, ◌&&◌}
use mathlib.Core.List.{List}
use Prim.Native.Nat.{ℕ, zero, suc, ◌+◌, ◌*◌, ◌/◌, ◌^◌, ◌≤◌, ◌<◌}
use native.Mathlib.Decide.{dec_lt}
use native.Mathlib.Omega.{arith}
use lib.Dec.{leb, eqb}
use lib.ListN.{length, get_or}
use Rattle.cell.specs.Choice.{if}
use Rattle.cell.specs.Memory.{Bytewise}
use Rattle.cell.specs.Shift.{asr8}
use Rattle.cell.proofs.MemoryLaws.{cell_below}
use Rattle.pack_layout.specs.declared.Class.{Class}
use Rattle.pack_layout.specs.declared.Class.TheVariants.{Plain as plain, Literal as literal, Branch as branch, NoKind as no_kind}
use Rattle.pack_layout.specs.declared.ItemForm.{ItemForm}
use Rattle.pack_layout.specs.declared.ItemForm.TheVariants.{Alone as alone, Immediate as immediate, InCell as in_cell}
use Rattle.pack_layout.specs.Kinds.{class_of}
use Rattle.pack_layout.specs.Layout.{extra}
use Rattle.pack_layout.specs.Reading.{Reader, done, at_cell, behind_item, cells_of, reader, items_read, form_read_at, kind_read_at, value_read, first_at, held_of, operand_of, operand_read_at, operands_read}
use Rattle.pack_layout.proofs.Reading.{each_length, each_at}
use Rattle.unpack_items.proofs.Cells.{cell_inside, cell_behind}
use Rattle.unpack_laws.specs.Claims.{Words}

asr_below : (x : ℕ) → x < 2 ^ 32 → asr8 x < 2 ^ 32
unfolding asr8
asr_below x h = go (leb 0x80000000 x)
  where
    go : (b : Bool) → x / 256 + if b 0xFF000000 0 < 2 ^ 32
    go true = omega arith
    go false = omega arith

first_most : (img : List ℕ) (base k a : ℕ) → k ≤ 4097 → first_at img base k a ≤ 4096
unfolding first_at
first_most img base zero a h = omega arith
first_most img base (suc k) a h = go ((reader img k).first && eqb (base + 4 * (reader img k).at) a) (first_most img base k a (omega arith))
  where
    go : (b : Bool) → first_at img base k a ≤ 4096 → if b k (first_at img base k a) ≤ 4096
    go true e = omega arith
    go false e = e

module _ (order base : ℕ) (s : List ℕ) (low : Bytewise s) where
  abbrev img : List ℕ
  img = cells_of order s

  cell_most : (j : ℕ) → get_or img j 0 < 2 ^ 32
  cell_most j = go (dec_lt (length s) (4 * j + 4))
    where
      go : Dec (length s < 4 * j + 4) → get_or img j 0 < 2 ^ 32
      go (yes h) = rw (cell_behind order s j h) (omega arith)
      go (no h) = rw (cell_inside order s j (omega arith)) (cell_below order s (4 * j) low)

  behind_most : (g : ItemForm) (r : Reader) → r.rest < 2 ^ 32 → (behind_item img g r).rest < 2 ^ 32
  behind_most g r h = go (done g (asr8 r.rest))
    where
      go : (b : Bool)
          → (if b (at_cell img (r.next + extra g)) (record { at = r.at; rest = asr8 r.rest; next = r.next + extra g; first = false })).rest < 2 ^ 32
      go true = cell_most (r.next + extra g)
      go false = asr_below r.rest h

  rest_most : (i : ℕ) → (reader img i).rest < 2 ^ 32
  unfolding reader
  rest_most zero = cell_most 0
  rest_most (suc i) = behind_most (form_read_at img i) (reader img i) (rest_most i)

  value_most : (g : ItemForm) (i : ℕ) → value_read img g (reader img i) < 2 ^ 32
  value_most alone i = omega arith
  value_most immediate i = asr_below (reader img i).rest (rest_most i)
  value_most in_cell i = cell_most (reader img i).next

  operand_most : (c : Class) (g : ItemForm) (i : ℕ) → items_read img ≤ 4097
      → operand_of img base c (held_of img base c g (reader img i)) < 2 ^ 32
  operand_most plain g i h = omega arith
  operand_most literal g i h = value_most g i
  operand_most branch g i h = omega (arith, first_most img base (items_read img) (held_of img base branch g (reader img i)) h)
  operand_most no_kind g i h = omega arith

  pub words_read : items_read img ≤ 4097 → Words (operands_read img base)
  unfolding operands_read
  words_read h i b =
      rw (each_at (operand_read_at img base) (items_read img) 0 i (omega (arith, each_length (operand_read_at img base) (items_read img) 0)))
      (operand_most (class_of (kind_read_at img (0 + i))) (form_read_at img (0 + i)) (0 + i) h)
