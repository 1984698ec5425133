-- How long the files of a listing are.
-- Assumes nothing.
use mathlib.Core.Path.{◌≡◌, refl, ap, ◌∙◌}
use mathlib.Core.Bool.{Bool, true, false}
use mathlib.Core.List.{[], ◌++◌}
use Prim.Native.Nat.{ℕ, zero, suc, ◌+◌, ◌*◌}
use native.Mathlib.Omega.{arith}
use lib.ListN.{length, length-append}
use Rattle.cell.specs.Choice.{if}
use Rattle.pack_layout.specs.Flags.{bit}
use Rattle.pack_layout.specs.Kinds.{class_of}
use Rattle.pack_layout.specs.Listing.{Listing}
use Rattle.short_judging.specs.Operands.{has_operand, operands_before, in_turn}
use Rattle.short_judging.proofs.Turns.{singles_length}
use Rattle.short_files.specs.Files.{least_bytes, kind_byte, operand_bytes, kept_bytes, header, short_header, long_file, short_file}

kept_length : (b : Bool) (x : ℕ) → length (if b (least_bytes x) []) ≡ 4 * bit b
kept_length true x = refl
kept_length false x = refl

module _ (l : Listing) where
  pub operands_length : (i : ℕ) → length (in_turn (operand_bytes l) i) ≡ 4 * i
  unfolding in_turn
  operands_length zero = refl
  operands_length (suc i) = length-append (in_turn (operand_bytes l) i) (operand_bytes l i) ∙ omega (arith, operands_length i)

  pub keeps_length : (i : ℕ) → length (in_turn (kept_bytes l) i) ≡ 4 * operands_before l.kind i
  unfolding in_turn operands_before
  keeps_length zero = refl
  keeps_length (suc i) =
      length-append (in_turn (kept_bytes l) i) (kept_bytes l i)
      ∙ omega (arith, keeps_length i, kept_length (has_operand (class_of (l.kind i))) (l.operand i))

  pub long_length : (base : ℕ) → length (long_file l base) ≡ 8 + 5 * l.count
  unfolding long_file
  long_length base =
      length-append (header l base ++ in_turn (kind_byte l) l.count) (in_turn (operand_bytes l) l.count)
      ∙ ap (λ (k : ℕ). k + length (in_turn (operand_bytes l) l.count)) (length-append (header l base) (in_turn (kind_byte l) l.count))
      ∙ omega (arith, operands_length l.count, singles_length l.kind l.count)

  pub short_length : (base : ℕ) → length (short_file l base) ≡ 12 + l.count + 4 * operands_before l.kind l.count
  unfolding short_file
  short_length base =
      length-append (short_header l base ++ in_turn (kind_byte l) l.count) (in_turn (kept_bytes l) l.count)
      ∙ ap (λ (k : ℕ). k + length (in_turn (kept_bytes l) l.count)) (length-append (short_header l base) (in_turn (kind_byte l) l.count))
      ∙ omega (arith, keeps_length l.count, singles_length l.kind l.count)
