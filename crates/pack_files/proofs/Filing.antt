-- A listing file: its header, and the two arrays that it holds.
-- Assumes nothing.
use mathlib.Core.Path.{◌≡◌, refl, sym, ap, ◌∙◌}
use mathlib.Core.Bool.{Bool, true, false, not}
use mathlib.Core.List.{List, [], ◌∷◌, ◌++◌}
use Prim.Native.Nat.{ℕ, ◌+◌, ◌-◌, ◌*◌, ◌<◌, ◌≤◌}
use native.Mathlib.Omega.{arith}
use borrow.Author.Tests.{eq-eqb, ne_eqb, lt-ltb, le-ltb, ltb-true, ltb-false}
use lib.Dec.{eqb, ltb}
use lib.ListN.{length, take, drop, length-append, length-take, length-drop}
use lib.Seq.{take_at}
use Rattle.std.specs.Prelude.{Err, Ok}
use Rattle.cell.specs.Choice.{if}
use Rattle.cell.specs.Refusals.{judge, after, in_order, Judged, passed}
use Rattle.cell.specs.declared.Refusal.{Refusal}
use Rattle.cell.specs.declared.Refusal.TheVariants.{ItemCount}
use Rattle.cell.proofs.JudgementLaws.{both_pass, one_clear}
use Rattle.pack_layout.specs.Listing.{listed, judged_arrays, judged_listing}
use Rattle.pack_layout.specs.File.{cells_from, file_count, file_base, file_kinds, file_operands, filed, judged_length, judged_file}
use Rattle.pack_layout.specs.Packing.{image_cells, judged_place}
use Rattle.pack_judging.proofs.Reading.{length_of}
use Rattle.pack_refusals.specs.Judgement.{judge_order, judge_room, judge_pack}
use Rattle.packer.specs.Pack.{pack_count, PackResult, packed_to, pack_of, Packed}
use Rattle.pack_refusals.proofs.Judging.{all_room}
use Rattle.packer.proofs.Answering.{if_room, handed_judged, handed_packed}
use Rattle.pack_files.specs.Files.{Header, many_items, judge_header, judge_pack_file, pack_file_of}

-- more than 4,096 items
many : (kinds operands : List ℕ) → 4096 < length kinds → judged_arrays kinds operands ≡ Err ItemCount
unfolding judged_arrays judged_listing
many kinds operands h = go (eqb (length kinds) (length operands))
  where
    go : (b : Bool) → after (if (not b) (Err ItemCount) passed) (judged_listing (listed kinds operands)) ≡ Err ItemCount
    go false = refl
    go true =
        let z : length kinds ≡ 0 → ⊥ = λ q. omega arith in
        simp (ne_eqb (length kinds) 0 z, lt-ltb 4096 (length kinds) h)

many_file : (s : List ℕ) → judged_length s ≡ passed → 4096 < file_count s
    → judged_arrays (file_kinds s) (file_operands s) ≡ Err ItemCount
many_file s e h =
    let k : 4096 < length (file_kinds s) = simp (length-take, length-drop) (omega (arith, length_of s e)) in
    many (file_kinds s) (file_operands s) k

-- the operands, read into the first n elements of an array of 4,096
pub operands_back : (s x y : List ℕ) (n k : ℕ) → Header s → n ≡ file_count s → k ≡ n → length x ≡ 4096 → length y ≡ length (take k x)
    → y ≡ cells_from s (8 + n) (length (take k x)) → (4096 ≡ length (y ++ drop k x)) × (take (file_count s) (y ++ drop k x) ≡ file_operands s)
operands_back s x y n k h e g l f q =
    let m : length (take k x) ≡ file_count s = length-take k x ∙ omega (arith, h.most) in (
      simp (length-append, length-drop) (omega (arith, h.most)),
      take_at y (drop k x) (file_count s) (f ∙ m) ∙ q ∙ rw (m, e),
    )

module _ (order : ℕ) (s : List ℕ) where
  pub header_good : judge_header order s ≡ passed → Header s
  unfolding judge_header
  header_good e =
      let p = both_pass (judge_order order) (in_order (judged_length s ∷ judge (many_items (file_count s) ∷ []) ∷ [])) e in
      let q = both_pass (judged_length s) (in_order (judge (many_items (file_count s) ∷ []) ∷ [])) p.1 in
      let t = both_pass (judge (many_items (file_count s) ∷ [])) passed q.1 in
      record {
        whole = length_of s q.0;
        most = ltb-false 4096 (file_count s) (one_clear (ltb 4096 (file_count s)) ItemCount passed t.0).0;
      }

  -- a bad header refuses the packing, whatever follows
  pub header_refused : (r : Refusal) → judge_header order s ≡ Err r → (size : ℕ) → judge_pack_file order s size ≡ Err r
  unfolding judge_header judge_pack_file judged_file
  header_refused r e size = go (judge_order order) (judged_length s) refl (ltb 4096 (file_count s)) refl e
      (in_order (judged_place (file_base s) (image_cells (filed s)) ∷ judge_room (image_cells (filed s)) size ∷ []))
    where
      arrays : Judged → Judged
      arrays j = after j (judged_arrays (file_kinds s) (file_operands s))

      go : (a b : Judged) → judged_length s ≡ b → (t : Bool) → ltb 4096 (file_count s) ≡ t
          → in_order (a ∷ b ∷ if t (Err ItemCount) passed ∷ []) ≡ Err r → (j : Judged) → after a (after (judged_file s) j) ≡ Err r
      go (Err x) b p t q e j = e
      go (Ok _) (Err x) p t q e j = ap (λ (i : Judged). after i j) (ap arrays p) ∙ e
      go (Ok _) (Ok _) p true q e j =
          ap (λ (i : Judged). after i j)
          (ap arrays p ∙ many_file s p (ltb-true 4096 (file_count s) q))
          ∙ e
      go (Ok _) (Ok _) p false q e j = absurd (let z : ◌≡◌ {A = ℕ} 0 1 = cc in omega arith)

  -- with a good header a file is packed as its two arrays are
  length_judged : Header s → judged_length s ≡ passed
  length_judged h = simp (le-ltb (length s) 8 (omega (arith, h.whole)), eq-eqb (length s) (8 + 5 * file_count s) h.whole)

  file_arrays : Header s → judged_file s ≡ judged_arrays (file_kinds s) (file_operands s)
  unfolding judged_file
  file_arrays h = rw (length_judged h)

  header_passed : Header s → (size : ℕ) → judge_pack_file order s size ≡ judge_pack order (file_kinds s) (file_operands s) (file_base s) size
  unfolding judge_pack_file judge_pack
  header_passed h size = rw (file_arrays h)

  pub pack_file_refused : (out : List ℕ) (r : Refusal) → judge_header order s ≡ Err r
      → packed_to out (Err r) ≡ pack_file_of order s out
  unfolding pack_file_of
  pack_file_refused out r e = rw (header_refused r e (length out))

  pack_file_passed : (out : List ℕ) → Header s
      → pack_file_of order s out ≡ pack_of order (file_kinds s) (file_operands s) (file_base s) out
  unfolding pack_file_of pack_of
  pack_file_passed out h = rw (header_passed h (length out))

  -- the parts of the file that are handed on: n is its count
  module _ (h : Header s) (n base : ℕ) (operands : List ℕ) (e : n ≡ file_count s) (b : base ≡ file_base s)
      (o : take (file_count s) operands ≡ file_operands s) where
    pub parts_judged : (size : ℕ) (j : Judged) → j ≡ judge_pack order (take (8 + n - 8) (drop 8 s)) (take (n - 0) operands) base size
        → j ≡ judge_pack_file order s size
    parts_judged size j q =
        q ∙ handed_judged order s 8 n (file_count s) base (file_base s) operands (file_operands s) e b o size ∙ sym (header_passed h size)

    pub parts_packed : (out : List ℕ) (p : PackResult)
        → p ≡ pack_of order (take (8 + n - 8) (drop 8 s)) (take (n - 0) operands) base out → p ≡ pack_file_of order s out
    parts_packed out p q =
        q ∙ handed_packed order s 8 n (file_count s) base (file_base s) operands (file_operands s) e b o out ∙ sym (pack_file_passed out h)

-- the cells that an answer counts are inside the output
pub pack_file_room : (order : ℕ) (out next : List ℕ) (a : Packed) (file : List ℕ) → packed_to next a ≡ pack_file_of order file out
    → 4 * pack_count a ≤ length out
unfolding pack_file_of judge_pack_file
pack_file_room order out next a file e =
    rw (ap (λ (p : PackResult). p.count) e)
    (if_room _ order (file_base file) (filed file) out
    (all_room order (judged_file file) (file_base file) (filed file) (length out)))
