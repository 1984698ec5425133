-- What an accepted packing is: a legal listing, and its image in the output.
use Rattle.std.specs.Prelude.{Ok, Err}
use Rattle.cell.specs.Refusals.{Judged, passed}
use mathlib.Core.Path.{◌≡◌, refl, sym}
use mathlib.Core.List.{List, [], ◌∷◌}
use Prim.Native.Nat.{ℕ, zero, suc, ◌+◌, ◌*◌, ◌<◌}
use native.Mathlib.Omega.{arith}
use lib.ListN.{length, get_or, drop, get_or-append}
use Rattle.cell.specs.Memory.{Bytewise}
use Rattle.cell.proofs.JudgementLaws.{both_pass, refusal_some}
use Rattle.cell.proofs.MemoryLaws.{cell_below}
use Rattle.pack_layout.specs.Listing.{Listing, listed, judged_arrays}
use Rattle.pack_layout.specs.File.{file_base, file_count, file_kinds, file_operands, cells_from, judged_file, judged_length}
use Rattle.pack_layout.specs.Output.{bytes_of, written}
use Rattle.pack_layout.specs.Packing.{image, image_cells, judged_place, Legal}
use Rattle.pack_layout.proofs.Output.{bytes_length}
use Rattle.pack_layout.proofs.Packing.{size_is}
use Rattle.pack_refusals.specs.Judgement.{judge_order, judge_all, judge_pack}
use Rattle.packer.specs.Pack.{PackResult, pack_if, pack_of}
use Rattle.pack_files.specs.Files.{judge_pack_file, pack_file_of}
use Rattle.short_judging.specs.ShortFile.{short_base, short_kinds, short_operands}
use Rattle.short_judging.specs.Judging.{judged_short}
use Rattle.short_judging.proofs.Parts.{short_cells}
use Rattle.short_packing.specs.Packing.{judge_pack_short, pack_short_of}
use Rattle.short_packing.proofs.Packing.{arrays_passed}
use Rattle.pack_prepare.proofs.Checking.{arrays_checked}
use Rattle.approved.specs.Approved.{Cells, Packs, of_arrays, of_file, of_short}

-- the listing is legal at the base, and the output begins with the bytes of its image
pub record Made (order base : ℕ) (l : Listing) (p : PackResult) : Type 0 where
  pub legal : Legal base l
  pub counted : p.count ≡ image_cells l
  pub bytes : (i : ℕ) → i < 4 * image_cells l → get_or p.output i 0 ≡ get_or (bytes_of order (image base l)) i 0

written_front : (order : ℕ) (xs out : List ℕ) (i : ℕ) → i < 4 * length xs → get_or (written order xs out) i 0 ≡ get_or (bytes_of order xs) i 0
written_front order xs out i h = get_or-append (bytes_of order xs) (drop (4 * length xs) out) 0 i (omega (arith, bytes_length order xs))

-- a packing of two arrays, judged by j, that answered 0
module _ (order base : ℕ) (kinds operands : List ℕ) (low : Cells operands) (out : List ℕ) where
  made_of : (input : Judged) → (input ≡ passed → judged_arrays kinds operands ≡ passed)
      → (j : Judged) → j ≡ judge_all order input base (listed kinds operands) (length out)
      → (pack_if j order base (listed kinds operands) out).number ≡ 0 → Made order base (listed kinds operands) (pack_if j order base (listed kinds operands) out)
  made_of input f (Err r) e q = absurd (refusal_some r q)
  made_of input f (Ok _) e q =
      let s = both_pass (judge_order order) _ (sym e) in
      let t = both_pass input _ s.1 in
      let u = both_pass (judged_place base (image_cells (listed kinds operands))) _ t.1 in
      let ok = arrays_checked kinds operands (f t.0) in
      let legal : Legal base (listed kinds operands) =
      record { input = ok.input; state = u.0; cell = λ i h. low i (omega (arith, ok.equal)) } in
      record {
        legal = legal;
        counted = refl;
        bytes = λ i h. written_front order (image base (listed kinds operands)) out i (omega (arith, size_is base (listed kinds operands) legal));
      }

operands_below : (s : List ℕ) (a k : ℕ) → Bytewise s → Cells (cells_from s a k)
unfolding cells_from
operands_below s a zero low i h = absurd (omega arith)
operands_below s a (suc k) low zero h = cell_below 0 s a low
operands_below s a (suc k) low (suc i) h = operands_below s (a + 4) k low i (omega arith)

pub made : (order base : ℕ) (l : Listing) (p : PackResult) → Packs order base l p → p.number ≡ 0 → Made order base l p
unfolding pack_of pack_file_of pack_short_of judge_pack judge_pack_file judge_pack_short judged_file
made order _ _ _ (of_arrays kinds operands base output low) q =
    made_of order base kinds operands low output (judged_arrays kinds operands) (λ e. e) _ refl q
made order _ _ _ (of_file file output low) q =
    made_of order (file_base file) (file_kinds file) (file_operands file) (operands_below file (8 + file_count file) (file_count file) low) output (judged_file file)
    (λ e. (both_pass (judged_length file) (judged_arrays (file_kinds file) (file_operands file)) e).1) _ refl q
made order _ _ _ (of_short file output low) q =
    made_of order (short_base file) (short_kinds file) (short_operands file) (short_cells file low) output (judged_short file) (arrays_passed file) _ refl q
