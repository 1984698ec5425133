-- The whole of each file, as it is written: its header, then its items.
-- Assumes nothing.
use mathlib.Core.Path.{◌≡◌, ◌∙◌}
use mathlib.Core.List.{List, ◌++◌}
use Prim.Native.Nat.{ℕ, ◌+◌, ◌*◌, ◌≤◌}
use native.Mathlib.Omega.{arith}
use lib.ListN.{length, drop}
use Rattle.cell.specs.Memory.{store_cell}
use Rattle.pack_layout.specs.Listing.{Listing}
use Rattle.short_judging.specs.Operands.{operands_before}
use Rattle.short_files.specs.Files.{operand_bytes, kept_bytes, header, short_header, long_file, short_file}
use Rattle.short_files.proofs.Filling.{filled, whole_file}
use Rattle.short_files.proofs.Lengths.{long_length, short_length}

module _ (l : Listing) (out : List ℕ) (base n : ℕ) (c : n ≡ l.count) where
  pub short_written : (a b d e : List ℕ) (m x : ℕ) → x ≡ base → m ≡ operands_before l.kind l.count → 12 + n + 4 * m ≤ length out
      → a ≡ store_cell 0 out 0 n → b ≡ store_cell 0 a 4 m → d ≡ store_cell 0 b 8 x → e ≡ filled d 12 n l.kind (kept_bytes l) n
      → e ≡ short_file l base ++ drop (length (short_file l base)) out
  unfolding short_file store_cell
  short_written a b d e m x v p h q r s t =
      t ∙ rw (s, r, q, p, v, c) (whole_file out (short_header l base) l.count l.kind (kept_bytes l) (omega (arith, short_length l base)))

  pub long_written : (a b e : List ℕ) (x : ℕ) → x ≡ base → 8 + 5 * n ≤ length out
      → a ≡ store_cell 0 out 0 n → b ≡ store_cell 0 a 4 x → e ≡ filled b 8 n l.kind (operand_bytes l) n
      → e ≡ long_file l base ++ drop (length (long_file l base)) out
  unfolding long_file store_cell
  long_written a b e x v h q r t =
      t ∙ rw (r, q, v, c) (whole_file out (header l base) l.count l.kind (operand_bytes l) (omega (arith, long_length l base)))
