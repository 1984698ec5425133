-- A listing packed again: what the packer answers says whether the listing packs to the image.
-- Assumes nothing.
use mathlib.Core.Path.{◌≡◌, refl, sym, ap, ◌∙◌}
use mathlib.Core.Bool.{Bool, true, false}
use mathlib.Core.List.{List, [], ◌∷◌, ◌++◌, append-nil}
use Prim.Native.Nat.{ℕ, ◌*◌, ◌≤◌}
use native.Mathlib.Omega.{arith}
use borrow.Author.Tests.{eq-eqb, le-ltb}
use lib.ListN.{length, drop}
use lib.Seq.{drop-length}
use Rattle.std.specs.Prelude.{Err, Ok}
use Rattle.cell.specs.Refusals.{judge, unaligned, Judged, passed}
use Rattle.cell.specs.declared.CellCount.{CellCount}
use Rattle.cell.specs.declared.Refusal.{Refusal}
use Rattle.cell.proofs.JudgementLaws.{both_pass}
use Rattle.pack_layout.specs.Listing.{Listing, listed, judged_arrays}
use Rattle.pack_layout.specs.Packing.{layout, value, image, image_cells, judged_place}
use Rattle.pack_layout.specs.Output.{bytes_of}
use Rattle.pack_layout.specs.Unpacking.{same, packs_to}
use Rattle.pack_layout.proofs.Image.{image_size}
use Rattle.pack_layout.proofs.Output.{bytes_length}
use Rattle.pack_layout.proofs.Unpacking.{Packs, packs_is}
use Rattle.pack_prepare.proofs.Checking.{arrays_checked}
use Rattle.pack_refusals.specs.Judgement.{judge_order, judge_room, judge_pack}
use Rattle.packer.specs.Pack.{PackResult, packed_to, pack_if, pack_of, Packed}
use Rattle.unpack_judging.specs.Judgement.{bytes_out_of_place, judge_place}

pub cells_of_lem : (base : ℕ) (l : Listing) → length (image base l) ≡ image_cells l
unfolding image
cells_of_lem base l = image_size (layout l) l.kind (value base l) l.count

-- bytes that a listing packs to are four a cell
pub packs_size : (order base : ℕ) (l : Listing) (s : List ℕ) → Packs order base l s → length s ≡ 4 * image_cells l
packs_size order base l s p =
    sym (ap length p.bytes) ∙ bytes_length order (image base l) ∙ ap (λ (n : ℕ). 4 * n) (cells_of_lem base l)

module _ (order base : ℕ) (kinds operands s : List ℕ) (equal : length operands ≡ length kinds) (place : judge_place order base (length s) ≡ passed) where
  abbrev l : Listing
  l = listed kinds operands

  -- a packing of that listing into as many bytes or more is not refused
  pub pack_passes : Packs order base l s → (room : ℕ) → length s ≤ room → judge_pack order kinds operands base room ≡ passed
  unfolding judge_pack judged_arrays judge_room judge_place
  pack_passes p room h =
      let n = packs_size order base l s p in
      let o = both_pass (judge_order order) (judge (unaligned base ∷ bytes_out_of_place base (length s) ∷ [])) place in
      let q : judged_place base (image_cells l) ≡ passed =
      ap (λ (k : ℕ). judge (unaligned base ∷ bytes_out_of_place base k ∷ [])) (sym n) ∙ o.1
      in
      rw (o.0, eq-eqb (length kinds) (length operands) (sym equal), p.input, q, le-ltb room (4 * image_cells l) (omega arith))

  packs_then : (b : Bool) → packs_to order base l s ≡ b → (Packs order base l s → false ≡ b) → false ≡ b
  packs_then true e f = f (packs_is order base l s e)
  packs_then false e f = refl

  module _ (out : List ℕ) (room : length out ≡ length s) where
    passing : Packs order base l s → pack_of order kinds operands base out ≡ pack_if passed order base l out
    unfolding pack_of
    passing p = ap (λ (j : Judged). pack_if j order base l out) (pack_passes p (length out) (omega arith))

    pub packed_refused : (next : List ℕ) (r : Refusal) → packed_to next (Err r) ≡ pack_of order kinds operands base out
        → false ≡ packs_to order base l s
    packed_refused next r e =
        packs_then (packs_to order base l s) refl
        (λ p. absurd (let z : ◌≡◌ {A = Packed} (Err r) _ = ap (λ (x : PackResult). x.answer) (e ∙ passing p) in let y : ◌≡◌ {A = ℕ} 0 1 = cc in omega arith))

    pub packed_other : (next : List ℕ) (c : CellCount) → packed_to next (Ok c) ≡ pack_of order kinds operands base out
        → (4 * c.0 ≡ length s → ⊥) → false ≡ packs_to order base l s
    packed_other next c e h =
        packs_then (packs_to order base l s) refl
        (λ p. absurd (h (ap (λ (x : PackResult). 4 * x.count) (e ∙ passing p) ∙ sym (packs_size order base l s p))))

    -- the answer of a packing that was not refused
    answered : (j : Judged) → j ≡ judge_pack order kinds operands base (length out) → (next : List ℕ) (c : CellCount)
        → packed_to next (Ok c) ≡ pack_if j order base l out → 4 * c.0 ≡ length s → same next s ≡ packs_to order base l s
    unfolding packs_to judge_pack
    answered (Err r) q next c e h =
        absurd (let z : ◌≡◌ {A = Packed} (Ok c) (Err r) = ap (λ (x : PackResult). x.answer) e in let y : ◌≡◌ {A = ℕ} 0 1 = cc in omega arith)
    answered (Ok _) q next c e h =
        let a = both_pass (judged_arrays kinds operands) _ (both_pass (judge_order order) _ (sym q)).1 in
        let n : 4 * length (image base l) ≡ length out = ap (λ (k : ℕ). 4 * k) (cells_of_lem base l ∙ sym (ap (λ (x : PackResult). x.count) e)) ∙ h ∙ sym room in
        rw (arrays_checked kinds operands a.0).input
        (ap (λ (t : List ℕ). same t s)
        (ap (λ (x : PackResult). x.output) e ∙ ap (λ (k : ℕ). bytes_of order (image base l) ++ drop k out) n
        ∙ ap (λ (t : List ℕ). bytes_of order (image base l) ++ t) (drop-length out) ∙ append-nil (bytes_of order (image base l))))

    pub packed_same : (next : List ℕ) (c : CellCount) → packed_to next (Ok c) ≡ pack_of order kinds operands base out → 4 * c.0 ≡ length s
        → same next s ≡ packs_to order base l s
    unfolding pack_of
    packed_same next c e h = answered (judge_pack order kinds operands base (length out)) refl next c e h
