-- The files of what a file carries: this file.
-- Assumes nothing.
use mathlib.Core.Path.{◌≡◌, refl, sym, ap, ◌∙◌}
use mathlib.Core.Bool.{Bool, true, false}
use mathlib.Core.List.{List, [], ◌++◌}
use Prim.Native.Nat.{ℕ, ◌+◌, ◌*◌, ◌≤◌, ◌<◌}
use native.Mathlib.Omega.{arith}
use lib.ListN.{length, take, drop, take-append-drop, length-drop}
use lib.Seq.{take-add, take_all, drop-drop}
use Rattle.cell.specs.Choice.{if}
use Rattle.cell.specs.Memory.{cell_bytes, Bytewise}
use Rattle.pack_layout.specs.Flags.{bit}
use Rattle.pack_layout.specs.Kinds.{class_of}
use Rattle.pack_layout.specs.File.{least_first, file_count, file_base, file_kinds, filed}
use Rattle.short_judging.specs.Operands.{has_operand, operands_before, in_turn}
use Rattle.short_judging.specs.ShortFile.{short_count, short_base, short_kinds, short_kind, short_operand, short_listing}
use Rattle.short_judging.proofs.Turns.{operands_room}
use Rattle.short_judging.proofs.Parts.{file_count_lem, file_operand, short_count_lem, short_operand_lem}
use Rattle.short_judging.proofs.Passing.{GoodFile, GoodShort}
use Rattle.short_files.specs.Files.{least_bytes, operand_bytes, kept_bytes, long_file, short_file}
use Rattle.short_files.proofs.Lengths.{operands_length, keeps_length}
use Rattle.short_laws.proofs.Bytes.{bytes_at}
use Rattle.short_laws.proofs.Turns.{singles_all, laid}

-- a list in three parts
three : (s : List ℕ) (h n : ℕ) → take h s ++ take n (drop h s) ++ drop (h + n) s ≡ s
three s h n = ap (λ (m : List ℕ). m ++ drop (h + n) s) (sym (take-add h n s)) ∙ take-append-drop (h + n) s

-- parts that are the same
both : {a b c d : List ℕ} → a ≡ c → b ≡ d → a ++ b ≡ c ++ d
both {a} {b} {c} {d} p q = ap (λ (m : List ℕ). m ++ b) p ∙ ap (λ (m : List ℕ). c ++ m) q

parts : {a b c x y z : List ℕ} → a ≡ x → b ≡ y → c ≡ z → a ++ b ++ c ≡ x ++ y ++ z
parts p q r = both (both p q) r

-- the number at a place behind p, as bytes
bytes_behind : (s : List ℕ) (p k a : ℕ) → Bytewise s → a ≡ p + k → a + 4 ≤ length s → cell_bytes 0 (least_first s a) ≡ take 4 (drop k (drop p s))
bytes_behind s p k a low e h = bytes_at s a low h ∙ ap (take 4) (ap (λ (i : ℕ). drop i s) e ∙ sym (drop-drop k p s))

module _ (s : List ℕ) (low : Bytewise s) where
  -- document 01's file
  module _ (good : GoodFile s) where
    n_kinds : length (file_kinds s) ≡ file_count s
    n_kinds = file_count_lem s (omega (arith, good.whole))

    long_bytes : (i : ℕ) → i < file_count s
        → operand_bytes (filed s) i ≡ take 4 (drop (length (in_turn (operand_bytes (filed s)) i)) (drop (8 + file_count s) s))
    long_bytes i h =
        ap (cell_bytes 0) (file_operand s i h)
        ∙ bytes_behind s (8 + file_count s) (length (in_turn (operand_bytes (filed s)) i)) (8 + file_count s + 4 * i) low
        (omega (arith, operands_length (filed s) i)) (omega (arith, good.whole))

    long_rest : in_turn (operand_bytes (filed s)) (file_count s) ≡ drop (8 + file_count s) s
    long_rest =
        laid (operand_bytes (filed s)) (drop (8 + file_count s) s) (file_count s) long_bytes
        ∙ take_all (length (in_turn (operand_bytes (filed s)) (file_count s))) (drop (8 + file_count s) s)
        (omega (arith, length-drop (8 + file_count s) s, operands_length (filed s) (file_count s), good.whole))

    pub long_again : long_file (filed s) (file_base s) ≡ s
    unfolding long_file
    long_again =
        parts
        (ap (λ (k : ℕ). least_bytes k ++ least_bytes (file_base s)) n_kinds
        ∙ both (bytes_at s 0 low (omega (arith, good.whole))) (bytes_at s 4 low (omega (arith, good.whole))) ∙ sym (take-add 4 4 s))
        (singles_all (file_kinds s))
        (ap (in_turn (operand_bytes (filed s))) n_kinds ∙ long_rest)
        ∙ three s 8 (file_count s)

  -- the short file
  module _ (good : GoodShort s) where
    n_short : length (short_kinds s) ≡ short_count s
    n_short = short_count_lem s (omega (arith, good.whole))

    short_bytes : (i : ℕ) → i < short_count s
        → kept_bytes (short_listing s) i
        ≡ take (length (kept_bytes (short_listing s) i)) (drop (length (in_turn (kept_bytes (short_listing s)) i)) (drop (12 + short_count s) s))
    unfolding short_operand
    short_bytes i h =
        let g = operands_room (short_kind s) i (short_count s) (class_of (short_kind s i)) h refl in
        go (has_operand (class_of (short_kind s i))) refl (omega (arith, g, good.whole, good.operands))
      where
        at : ℕ
        at = 12 + short_count s + 4 * operands_before (short_kind s) i

        go : (b : Bool) → has_operand (class_of (short_kind s i)) ≡ b → at + 4 * bit b ≤ length s
            → if b (least_bytes ((short_listing s).operand i)) []
            ≡ take (length (if b (least_bytes ((short_listing s).operand i)) [])) (drop (length (in_turn (kept_bytes (short_listing s)) i)) (drop (12 + short_count s) s))
        go true e r =
            ap least_bytes (short_operand_lem s i (omega (arith, n_short)) ∙ rw e refl)
            ∙ bytes_behind s (12 + short_count s) (length (in_turn (kept_bytes (short_listing s)) i)) at low (omega (arith, keeps_length (short_listing s) i)) (omega arith)
        go false e r = refl

    short_rest : in_turn (kept_bytes (short_listing s)) (short_count s) ≡ drop (12 + short_count s) s
    short_rest =
        laid (kept_bytes (short_listing s)) (drop (12 + short_count s) s) (short_count s) short_bytes
        ∙ take_all (length (in_turn (kept_bytes (short_listing s)) (short_count s))) (drop (12 + short_count s) s)
        (omega (arith, length-drop (12 + short_count s) s, keeps_length (short_listing s) (short_count s), good.whole, good.operands))

    pub short_again : short_file (short_listing s) (short_base s) ≡ s
    unfolding short_file
    short_again =
        parts
        (ap (λ (k : ℕ). least_bytes k ++ least_bytes (operands_before (short_kind s) k) ++ least_bytes (short_base s)) n_short
        ∙ ap (λ (k : ℕ). least_bytes (short_count s) ++ least_bytes k ++ least_bytes (short_base s)) (sym good.operands)
        ∙ both (both (bytes_at s 0 low (omega (arith, good.whole))) (bytes_at s 4 low (omega (arith, good.whole))) ∙ sym (take-add 4 4 s))
        (bytes_at s 8 low (omega (arith, good.whole)))
        ∙ sym (take-add 8 4 s))
        (singles_all (short_kinds s))
        (ap (in_turn (kept_bytes (short_listing s))) n_short ∙ short_rest)
        ∙ three s 12 (short_count s)
