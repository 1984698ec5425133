-- The theorems.
-- Assumes nothing.
use mathlib.Core.Path.{◌≡◌, refl, sym, ap, ap₂, ◌∙◌}
use mathlib.Core.Bool.{Bool, true, false}
use mathlib.Core.List.{List, [], ◌∷◌, ◌++◌}
use Prim.Native.Nat.{ℕ, ◌*◌, ◌/◌, ◌≤◌}
use native.Mathlib.Omega.{arith}
use borrow.Author.Tests.{le-ltb}
use lib.ListN.{length, take, drop}
use lib.Seq.{take_at}
use Rattle.std.specs.Prelude.{Err, Ok}
use Rattle.cell.specs.Memory.{Bytewise, cell_count}
use Rattle.cell.specs.Refusals.{judge, unaligned, Judged, passed}
use Rattle.cell.specs.declared.Refusal.TheVariants as refusal
use Rattle.cell.proofs.JudgementLaws.{both_pass, refusal_some}
use Rattle.pack_layout.specs.Listing.{Listing, listed, judged_arrays}
use Rattle.pack_layout.specs.Packing.{image, image_cells, judged_place, Legal}
use Rattle.pack_layout.specs.Output.{bytes_of}
use Rattle.pack_layout.specs.Reading.{cells_of, items_read, kinds_read, operands_read, listing_read}
use Rattle.pack_layout.specs.Unpacking.{taken}
use Rattle.pack_layout.proofs.Output.{bytes_length}
use Rattle.pack_layout.proofs.Unpacking.{Packs, packs_is, kinds_again, operands_again, taken_again}
use Rattle.pack_prepare.proofs.Checking.{arrays_checked}
use Rattle.pack_refusals.specs.Judgement.{judge_order, judge_pack}
use Rattle.packer.specs.Pack.{PackResult, packed_to, pack_if, pack_of}
use Rattle.unpack_judging.specs.Judgement.{bytes_out_of_place, judge_place, judge_arrays}
use Rattle.unpack_writing.specs.Writing.{over}
use Rattle.unpacker.specs.Judgement.{judge_read, judge_unpack}
use Rattle.unpacker.specs.Unpack.{unpacked_to, unpack_if, unpack_of}
use Rattle.unpack_comparing.proofs.Comparing.{cells_of_lem, packs_size, pack_passes}
use Rattle.unpacker.proofs.Recovering.{passed_taken, passed_items, kinds_length, operands_length}
use Rattle.unpack_laws.specs.Claims.{Words, image_of, ReadsBack, PacksAgain, OneListing, Packed, by_pack, TakenExactly}
use Rattle.unpack_laws.proofs.Cells.{words_read}

-- a packing that answered 0: a legal listing, and the bytes of its image
record Made (order : ℕ) (kinds operands : List ℕ) (base : ℕ) (p : PackResult) : Type 0 where
  known : judge_order order ≡ passed
  equal : length operands ≡ length kinds
  legal : Legal base (listed kinds operands)
  bytes : image_of p ≡ bytes_of order (image base (listed kinds operands))

module _ (order : ℕ) (kinds operands : List ℕ) (base : ℕ) (out : List ℕ) (words : Words operands) where
  abbrev l : Listing
  l = listed kinds operands

  made_of : (j : Judged) → j ≡ judge_pack order kinds operands base (length out) → (pack_if j order base l out).number ≡ 0
      → Made order kinds operands base (pack_if j order base l out)
  unfolding judge_pack
  made_of (Err r) e q = absurd (refusal_some r q)
  made_of (Ok _) e q =
      let s = both_pass (judge_order order) _ (sym e) in
      let t = both_pass (judged_arrays kinds operands) _ s.1 in
      let u = both_pass (judged_place base (image_cells l)) _ t.1 in
      let ok = arrays_checked kinds operands t.0 in
      record {
        known = s.0;
        equal = ok.equal;
        legal = record { input = ok.input; state = u.0; cell = λ i h. words i (omega (arith, ok.equal)) };
        bytes =
            take_at (bytes_of order (image base l)) (drop (4 * length (image base l)) out) (4 * image_cells l)
            (bytes_length order (image base l) ∙ ap (λ (n : ℕ). 4 * n) (cells_of_lem base l));
      }

  made : (pack_of order kinds operands base out).number ≡ 0 → Made order kinds operands base (pack_of order kinds operands base out)
  unfolding pack_of
  made q = made_of (judge_pack order kinds operands base (length out)) refl q

-- the bytes of a legal listing's image are not refused
module _ (order base : ℕ) (kinds operands : List ℕ) (known : judge_order order ≡ passed) (equal : length operands ≡ length kinds)
    (ok : Legal base (listed kinds operands)) where
  abbrev stored : List ℕ
  stored = bytes_of order (image base (listed kinds operands))

  size : length stored ≡ 4 * image_cells (listed kinds operands)
  size = bytes_length order (image base (listed kinds operands)) ∙ ap (λ (n : ℕ). 4 * n) (cells_of_lem base (listed kinds operands))

  read_passes : judge_read order base stored ≡ passed
  unfolding judge_read judge_place
  read_passes =
      let q : judge (unaligned base ∷ bytes_out_of_place base (length stored) ∷ []) ≡ passed =
      ap (λ (n : ℕ). judge (unaligned base ∷ bytes_out_of_place base n ∷ [])) size ∙ ok.state
      in
      rw (known, q, taken_again order base kinds operands equal ok)

  items_are : items_read (cells_of order stored) ≡ length kinds
  items_are = sym (kinds_length (cells_of order stored)) ∙ ap length (kinds_again order base kinds operands equal ok)

  unpacks : (ks xs : List ℕ) → length kinds ≤ length ks → length operands ≤ length xs
      → unpack_of order stored base ks xs ≡ unpacked_to (over kinds ks) (over operands xs) (Ok (length kinds))
  unfolding unpack_of judge_unpack judge_arrays
  unpacks ks xs h b =
      rw (
        read_passes,
        items_are,
        le-ltb (length ks) (length kinds) h,
        le-ltb (length xs) (length kinds) (omega arith),
        kinds_again order base kinds operands equal ok,
        operands_again order base kinds operands equal ok,
      )

pub reads_back : ReadsBack
reads_back order kinds operands base out ks xs words e h b =
    let m = made order kinds operands base out words e in
    ap (λ (s : List ℕ). unpack_of order s base ks xs) m.bytes ∙ unpacks order base kinds operands m.known m.equal m.legal ks xs h b

pub one_listing : OneListing
one_listing order base kinds operands out kinds2 operands2 out2 words words2 e e2 same =
    let m = made order kinds operands base out words e in
    let m2 = made order kinds2 operands2 base out2 words2 e2 in
    let q : bytes_of order (image base (listed kinds operands)) ≡ bytes_of order (image base (listed kinds2 operands2)) = sym m.bytes ∙ same ∙ m2.bytes in (
      sym (kinds_again order base kinds operands m.equal m.legal) ∙ ap (λ (s : List ℕ). kinds_read (cells_of order s)) q
          ∙ kinds_again order base kinds2 operands2 m2.equal m2.legal,
      sym (operands_again order base kinds operands m.equal m.legal) ∙ ap (λ (s : List ℕ). operands_read (cells_of order s) base) q
          ∙ operands_again order base kinds2 operands2 m2.equal m2.legal,
    )

-- an image that is not refused, packed from what is read
module _ (order base : ℕ) (s : List ℕ) (pass : judge_read order base s ≡ passed) where
  abbrev img : List ℕ
  img = cells_of order s

  packs : Packs order base (listing_read img base) s
  packs = packs_is order base (listing_read img base) s (passed_taken order base s pass)

  packs_there : (out : List ℕ) → length s ≤ length out
      → pack_of order (kinds_read img) (operands_read img base) base out ≡ packed_to (s ++ drop (length s) out) (Ok (cell_count (length s / 4)))
  unfolding pack_of judge_read
  packs_there out h =
      let p = both_pass (judge_place order base (length s)) _ pass in
      let n = packs_size order base (listing_read img base) s packs in
      let k : 4 * length (image base (listing_read img base)) ≡ length s = ap (λ (m : ℕ). 4 * m) (cells_of_lem base (listing_read img base)) ∙ sym n in
      let c : image_cells (listing_read img base) ≡ length s / 4 = omega arith in
      rw (pack_passes order base (kinds_read img) (operands_read img base) s (operands_length img base ∙ sym (kinds_length img)) p.0 packs (length out) h)
      (ap₂ (λ (t : List ℕ) (m : ℕ). packed_to t (Ok (cell_count m)))
      (ap₂ (λ (t : List ℕ) (m : ℕ). t ++ drop m out) packs.bytes k) c)

-- an unpacking that answered 0
unpacked_of : (order : ℕ) (s : List ℕ) (base : ℕ) (ks xs : List ℕ) (j : Judged) → (unpack_if j (kinds_read (cells_of order s)) (operands_read (cells_of order s) base) ks xs).number ≡ 0
    → (j ≡ passed)
unpacked_of order s base ks xs (Ok _) e = refl
unpacked_of order s base ks xs (Err r) e = absurd (refusal_some r e)

pub packs_again : PacksAgain
unfolding unpack_of judge_unpack
packs_again order s base ks xs out e h =
    let q = unpacked_of order s base ks xs (judge_unpack order base s (length ks) (length xs)) e in
    let p = (both_pass (judge_read order base s) _ q).0 in
    let img = cells_of order s in
    rw (
      q,
      take_at (kinds_read img) (drop (length (kinds_read img)) ks) (length (kinds_read img)) refl,
      take_at (operands_read img base) (drop (length (operands_read img base)) xs) (length (kinds_read img)) (operands_length img base ∙ sym (kinds_length img)),
    )
    (packs_there order base s p out h)

-- the operands that were written are cells
pub words_again : (order : ℕ) (s : List ℕ) (base : ℕ) (ks xs : List ℕ) → Bytewise s → (unpack_of order s base ks xs).number ≡ 0
    → Words (take (unpack_of order s base ks xs).count (unpack_of order s base ks xs).operands)
unfolding unpack_of judge_unpack
words_again order s base ks xs low e =
    let q = unpacked_of order s base ks xs (judge_unpack order base s (length ks) (length xs)) e in
    let p = (both_pass (judge_read order base s) _ q).0 in
    let img = cells_of order s in
    rw (q, take_at (operands_read img base) (drop (length (operands_read img base)) xs) (length (kinds_read img)) (operands_length img base ∙ sym (kinds_length img)))
    (words_read order base s low (omega (arith, passed_items order base s p)))

-- bytes that were packed are not refused, and bytes that are not refused were packed
packed_passes : (order base : ℕ) (s : List ℕ) → Packed order base s → judge_read order base s ≡ passed
packed_passes order base _ (by_pack kinds operands out words e) =
    let m = made order kinds operands base out words e in
    ap (judge_read order base) m.bytes ∙ read_passes order base kinds operands m.known m.equal m.legal

passes_packed : (order base : ℕ) (s : List ℕ) → Bytewise s → judge_read order base s ≡ passed → Packed order base s
passes_packed order base s low pass =
    let img = cells_of order s in
    let e = packs_there order base s pass s (omega arith) in
    let n = packs_size order base (listing_read img base) s (packs order base s pass) in
    let q : image_of (pack_of order (kinds_read img) (operands_read img base) base s) ≡ s =
    ap image_of e ∙ take_at s (drop (length s) s) (4 * (length s / 4)) (omega arith)
    in
    let p : Packed order base (image_of (pack_of order (kinds_read img) (operands_read img base) base s)) =
    by_pack (kinds_read img) (operands_read img base) s (words_read order base s low (omega (arith, passed_items order base s pass)))
    (ap (λ (r : PackResult). r.number) e)
    in
    rw q at p

pub taken_exactly : TakenExactly
unfolding judge_read
taken_exactly =
    record {
      taken = packed_passes;
      only = passes_packed;
      others = λ order base s low place h. none order base s place (λ t. h (passes_packed order base s low t)) (taken order base s) refl;
    }
  where
    none : (order base : ℕ) (s : List ℕ) → judge_place order base (length s) ≡ passed → (judge_read order base s ≡ passed → ⊥)
        → (b : Bool) → taken order base s ≡ b → judge_read order base s ≡ Err refusal.NoListing
    none order base s place h true e = absurd (h (rw (place, e)))
    none order base s place h false e = rw (place, e)
