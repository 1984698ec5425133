-- What stands where in a file of either kind.
-- Assumes nothing.
use mathlib.Core.Path.{◌≡◌, ◌∙◌}
use mathlib.Core.Bool.{Bool, true, false}
use mathlib.Core.List.{List}
use Prim.Native.Nat.{ℕ, ◌+◌, ◌*◌, ◌^◌, ◌≤◌, ◌<◌}
use native.Mathlib.Omega.{arith}
use lib.ListN.{length, get_or, take, drop, length-take, length-drop}
use lib.Seq.{get_or-take, get_or-drop}
use Rattle.cell.specs.Choice.{if}
use Rattle.cell.specs.Memory.{Bytewise}
use Rattle.cell.proofs.MemoryLaws.{cell_below}
use Rattle.pack_layout.specs.Kinds.{class_of}
use Rattle.pack_layout.specs.File.{least_first, file_count, file_kinds, file_operands}
use Rattle.pack_judging.proofs.Reading.{cells_at, cells_length}
use Rattle.short_judging.specs.Operands.{has_operand, operands_before}
use Rattle.short_judging.specs.ShortFile.{short_count, short_kinds, short_kind, short_operand, short_operands}
use Rattle.short_judging.proofs.Turns.{singles_length, singles_at}

-- n kinds behind a header of h bytes
kind_at : (s : List ℕ) (h n i : ℕ) → i < n → get_or (take n (drop h s)) i 0 ≡ get_or s (h + i) 0
kind_at s h n i l = get_or-take n (drop h s) i 0 l ∙ get_or-drop h s i 0

kinds_length : (s : List ℕ) (h n : ℕ) → h + n ≤ length s → length (take n (drop h s)) ≡ n
kinds_length s h n l = length-take n (drop h s) ∙ simp (length-drop) (omega arith)

module _ (s : List ℕ) where
  pub file_kind : (i : ℕ) → i < file_count s → get_or (file_kinds s) i 0 ≡ get_or s (8 + i) 0
  file_kind i h = kind_at s 8 (file_count s) i h

  pub file_count_lem : 8 + file_count s ≤ length s → length (file_kinds s) ≡ file_count s
  file_count_lem h = kinds_length s 8 (file_count s) h

  pub file_operand : (i : ℕ) → i < file_count s → get_or (file_operands s) i 0 ≡ least_first s (8 + file_count s + 4 * i)
  file_operand i h = cells_at s (8 + file_count s) (file_count s) i h

  pub file_operands_lem : length (file_operands s) ≡ file_count s
  file_operands_lem = cells_length s (8 + file_count s) (file_count s)

  pub short_kind_lem : (i : ℕ) → i < short_count s → short_kind s i ≡ get_or s (12 + i) 0
  short_kind_lem i h = kind_at s 12 (short_count s) i h

  pub short_count_lem : 12 + short_count s ≤ length s → length (short_kinds s) ≡ short_count s
  short_count_lem h = kinds_length s 12 (short_count s) h

  pub short_operand_lem : (i : ℕ) → i < length (short_kinds s) → get_or (short_operands s) i 0 ≡ short_operand s i
  short_operand_lem i h = singles_at (short_operand s) (length (short_kinds s)) i h

  pub short_operands_lem : length (short_operands s) ≡ length (short_kinds s)
  short_operands_lem = singles_length (short_operand s) (length (short_kinds s))

  -- the operands of a file's bytes are cells
  short_cell : Bytewise s → (i : ℕ) → short_operand s i < 2 ^ 32
  unfolding short_operand
  short_cell low i = go (has_operand (class_of (short_kind s i)))
    where
      at : ℕ
      at = 12 + short_count s + 4 * operands_before (short_kind s) i

      go : (b : Bool) → if b (least_first s at) 0 < 2 ^ 32
      go true = cell_below 0 s at low
      go false = omega arith

  pub short_cells : Bytewise s → (i : ℕ) → i < length (short_operands s) → get_or (short_operands s) i 0 < 2 ^ 32
  short_cells low i h = rw (short_operand_lem i (omega (arith, short_operands_lem))) (short_cell low i)
