-- What the files of two arrays at a base carry: these arrays and this base.
-- Assumes nothing.
use mathlib.Core.Path.{◌≡◌, refl, sym, ap, ◌∙◌}
use mathlib.Core.Bool.{Bool, true, false}
use mathlib.Core.List.{List, ◌++◌}
use Prim.Native.Nat.{ℕ, ◌+◌, ◌*◌, ◌^◌, ◌≤◌, ◌<◌}
use native.Mathlib.Omega.{arith}
use lib.ListN.{length, get_or, length-append}
use lib.Seq.{take_at, ext_get_or}
use Rattle.cell.specs.Choice.{if}
use Rattle.cell.specs.Memory.{cell_bytes, cell_at}
use Rattle.cell.proofs.BytesLaws.{join_bytes}
use Rattle.pack_layout.specs.Kinds.{class_of}
use Rattle.pack_layout.specs.Listing.{Listing, listed}
use Rattle.pack_layout.specs.File.{least_first, file_count, file_base, file_kinds, file_operands}
use Rattle.pack_judging.proofs.Reading.{all_read}
use Rattle.short_judging.specs.Operands.{has_operand, operands_before, in_turn}
use Rattle.short_judging.specs.ShortFile.{short_count, operand_count, short_base, short_kinds, short_operand, short_operands}
use Rattle.short_judging.proofs.Turns.{singles_length, operands_most}
use Rattle.short_judging.proofs.Parts.{short_operand_lem, short_operands_lem}
use Rattle.short_files.specs.Files.{kind_byte, operand_bytes, kept_bytes, header, short_header, long_file, short_file}
use Rattle.short_files.proofs.Lengths.{operands_length, keeps_length}
use Rattle.short_laws.proofs.Turns.{singles_all, number_in_turn}

-- two arrays that a file can hold
pub record Arrays (kinds operands : List ℕ) (base : ℕ) : Type 0 where
  pub equal : length operands ≡ length kinds
  pub most : length kinds ≤ 4096
  pub cells : (i : ℕ) → i < length kinds → get_or operands i 0 < 2 ^ 32
  pub base_cell : base < 2 ^ 32

module _ (kinds operands : List ℕ) (base : ℕ) (a : Arrays kinds operands base) where
  abbrev l : Listing
  l = listed kinds operands

  abbrev ks : List ℕ
  ks = in_turn (kind_byte l) (length kinds)

  ks_length : length ks ≡ length kinds
  ks_length = singles_length l.kind (length kinds)

  -- document 01's file
  abbrev long : List ℕ
  long = long_file l base

  pub long_count : file_count long ≡ length kinds
  unfolding long_file cell_at
  long_count = join_bytes (length kinds) (omega (arith, a.most))

  pub long_base : file_base long ≡ base
  unfolding long_file cell_at
  long_base = join_bytes base a.base_cell

  pub long_kinds : file_kinds long ≡ kinds
  unfolding long_file
  long_kinds = rw long_count (take_at ks (in_turn (operand_bytes l) (length kinds)) (length kinds) ks_length ∙ singles_all kinds)

  long_cell : (i : ℕ) → i < length kinds → get_or operands i 0 ≡ least_first long (8 + length kinds + 4 * i)
  unfolding long_file
  long_cell i h =
      let p = header l base ++ ks in
      let e : 8 + length kinds + 4 * i ≡ length p + length (in_turn (operand_bytes l) i) = omega (arith, length-append (header l base) ks, ks_length, operands_length l i) in
      sym (ap (least_first (p ++ in_turn (operand_bytes l) (length kinds))) e
      ∙ number_in_turn (operand_bytes l) p (length kinds) i (get_or operands i 0) h refl (a.cells i h))

  pub long_operands : file_operands long ≡ operands
  long_operands = rw long_count (sym (all_read long (8 + length kinds) (length kinds) operands a.equal long_cell))

  -- the short file
  abbrev short : List ℕ
  short = short_file l base

  pub short_count_lem : short_count short ≡ length kinds
  unfolding short_file cell_at
  short_count_lem = join_bytes (length kinds) (omega (arith, a.most))

  pub short_operand_count : operand_count short ≡ operands_before l.kind (length kinds)
  unfolding short_file cell_at
  short_operand_count = join_bytes (operands_before l.kind (length kinds)) (omega (arith, a.most, operands_most l.kind (length kinds)))

  pub short_base_lem : short_base short ≡ base
  unfolding short_file cell_at
  short_base_lem = join_bytes base a.base_cell

  pub short_kinds_lem : short_kinds short ≡ kinds
  unfolding short_file
  short_kinds_lem = rw short_count_lem (take_at ks (in_turn (kept_bytes l) (length kinds)) (length kinds) ks_length ∙ singles_all kinds)

  short_cell : (i : ℕ) → i < length kinds → kept_bytes l i ≡ cell_bytes 0 (get_or operands i 0)
      → least_first short (12 + length kinds + 4 * operands_before l.kind i) ≡ get_or operands i 0
  unfolding short_file
  short_cell i h k =
      let p = short_header l base ++ ks in
      let e : 12 + length kinds + 4 * operands_before l.kind i ≡ length p + length (in_turn (kept_bytes l) i) = omega (arith, length-append (short_header l base) ks, ks_length, keeps_length l i) in
      ap (least_first (p ++ in_turn (kept_bytes l) (length kinds))) e
      ∙ number_in_turn (kept_bytes l) p (length kinds) i (get_or operands i 0) h k (a.cells i h)

  module _ (zero : (i : ℕ) → i < length kinds → has_operand (class_of (get_or kinds i 0)) ≡ false → get_or operands i 0 ≡ 0) where
    operand_back : (i : ℕ) → i < length kinds → short_operand short i ≡ get_or operands i 0
    unfolding short_operand
    operand_back i h = ap (λ (ks : List ℕ). read ks (short_count short)) short_kinds_lem ∙ ap (read kinds) short_count_lem ∙ go (has_operand (class_of (get_or kinds i 0))) refl
      where
        read : List ℕ → ℕ → ℕ
        read ks n = if (has_operand (class_of (get_or ks i 0))) (least_first short (12 + n + 4 * operands_before (λ j. get_or ks j 0) i)) 0

        go : (b : Bool) → has_operand (class_of (get_or kinds i 0)) ≡ b
            → if b (least_first short (12 + length kinds + 4 * operands_before l.kind i)) 0 ≡ get_or operands i 0
        go true e = short_cell i h (rw e refl)
        go false e = sym (zero i h e)

    pub short_operands_back : short_operands short ≡ operands
    short_operands_back =
        let k = short_operands_lem short ∙ ap length short_kinds_lem in
        ext_get_or 0 (short_operands short) operands (k ∙ sym a.equal)
        (λ i h. short_operand_lem short i (omega (arith, short_operands_lem short)) ∙ operand_back i (omega (arith, k)))
