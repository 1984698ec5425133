-- One item of each pass that writes.
-- Assumes nothing.
use mathlib.Core.Path.{◌≡◌, refl, sym, ap, ◌∙◌}
use mathlib.Core.List.{List, []}
use Prim.Native.Nat.{ℕ, ◌+◌, ◌*◌, ◌≤◌, ◌<◌}
use native.Mathlib.Omega.{arith}
use lib.ListN.{length, get_or, set}
use lib.Seq.{sets}
use Rattle.cell.specs.Choice.{if}
use Rattle.cell.specs.Memory.{cell_bytes, store_cell}
use Rattle.cell.proofs.StoreLaws.{store_sets}
use Rattle.pack_layout.specs.declared.Class.{Class}
use Rattle.pack_layout.specs.File.{least_first, file_count, filed}
use Rattle.pack_layout.specs.Kinds.{class_of}
use Rattle.short_judging.specs.Operands.{has_operand, operands_before}
use Rattle.short_judging.specs.ShortFile.{short_count, short_kind, short_operand, short_listing}
use Rattle.short_judging.proofs.Parts.{file_kind, file_operand, short_kind_lem, short_count_lem, short_operand_lem}
use Rattle.short_files.specs.Files.{operand_bytes, kept_bytes}
use Rattle.short_files.proofs.Stores.{kept_sets}
use Rattle.short_files.proofs.Filling.{filled, filled_more}
use Rattle.short_files.proofs.Lengths.{operands_length, keeps_length}

module _ (s out : List ℕ) (n : ℕ) where
  -- the output after i items of a listing file have gone to the short one
  abbrev pub shortening : ℕ → List ℕ
  shortening i = filled out 12 n (filed s).kind (kept_bytes (filed s)) i

  pub shorten_item : (now next : List ℕ) (i at kind x : ℕ) (c : Class) → n ≡ file_count s → i < n → kind ≡ get_or s (8 + i) 0
      → c ≡ class_of kind → x ≡ least_first s (8 + n + 4 * i) → at ≡ 12 + n + 4 * operands_before (filed s).kind i → now ≡ shortening i
      → next ≡ if (has_operand c) (store_cell 0 (set now (12 + i) kind) at x) (set now (12 + i) kind) → next ≡ shortening (i + 1)
  shorten_item now next i at kind x c e h k q r p t u =
      let a : kind ≡ (filed s).kind i = k ∙ sym (file_kind s i (omega arith)) in
      let b : x ≡ (filed s).operand i = r ∙ rw e (sym (file_operand s i (omega arith))) in
      let v : if (has_operand c) (cell_bytes 0 x) [] ≡ kept_bytes (filed s) i = rw (q, a, b) refl in
      filled_more out 12 n (filed s).kind (kept_bytes (filed s)) i at kind now next t h a (omega (arith, p, keeps_length (filed s) i))
      (u ∙ kept_sets (has_operand c) (set now (12 + i) kind) at x ∙ ap (sets (set now (12 + i) kind) at) v)

  -- the output after i items of a short file have gone to the listing file
  abbrev pub lengthening : ℕ → List ℕ
  lengthening i = filled out 8 n (short_listing s).kind (operand_bytes (short_listing s)) i

  pub lengthen_item : (now next : List ℕ) (i at kind x : ℕ) (c : Class) → n ≡ short_count s → 12 + n ≤ length s → i < n → kind ≡ get_or s (12 + i) 0
      → c ≡ class_of kind → at ≡ 12 + n + 4 * operands_before (short_kind s) i → x ≡ if (has_operand c) (least_first s at) 0
      → now ≡ lengthening i → next ≡ store_cell 0 (set now (8 + i) kind) (8 + n + 4 * i) x → next ≡ lengthening (i + 1)
  unfolding short_operand
  lengthen_item now next i at kind x c e l h k q p r t u =
      let a : kind ≡ (short_listing s).kind i = k ∙ sym (short_kind_lem s i (omega arith)) in
      let b : x ≡ short_operand s i = r ∙ rw (q, a, p, e) refl in
      let d : x ≡ (short_listing s).operand i = b ∙ sym (short_operand_lem s i (omega (arith, short_count_lem s (omega arith)))) in
      filled_more out 8 n (short_listing s).kind (operand_bytes (short_listing s)) i (8 + n + 4 * i) kind now next t h a
      (omega (arith, operands_length (short_listing s) i))
      (u ∙ store_sets 0 (set now (8 + i) kind) (8 + n + 4 * i) x ∙ ap (λ (y : ℕ). sets (set now (8 + i) kind) (8 + n + 4 * i) (cell_bytes 0 y)) d)
