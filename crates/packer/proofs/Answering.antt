-- What a packing leaves and answers, from what its parts do.
-- Assumes nothing.
use mathlib.Core.Path.{◌≡◌, refl, ap, sym, ◌∙◌}
use mathlib.Core.List.{List}
use Prim.Native.Nat.{ℕ, ◌+◌, ◌-◌, ◌*◌, ◌≤◌}
use native.Mathlib.Omega.{arith}
use lib.ListN.{length, take, drop}
use Rattle.std.specs.Prelude.{Err, Ok}
use Rattle.cell.specs.Refusals.{Judged, passed}
use Rattle.cell.specs.Memory.{cell_count}
use Rattle.cell.specs.declared.CellCount.{CellCount}
use Rattle.cell.specs.declared.Refusal.{Refusal}
use Rattle.pack_layout.specs.Listing.{Listing, listed, judged_arrays}
use Rattle.pack_layout.specs.Packing.{image, image_cells}
use Rattle.pack_layout.specs.Output.{written}
use Rattle.pack_refusals.specs.Judgement.{judge_input, judge_image, judge_pack}
use Rattle.packer.specs.Pack.{pack_count, PackResult, packed_to, pack_if, pack_of, Packed}
use Rattle.pack_refusals.proofs.Judging.{pack_halves, all_room}

-- an image of cells that were counted, refused or written
module _ (order base : ℕ) (l : Listing) (out : List ℕ) (cells : CellCount) (e : cells ≡ cell_count (image_cells l)) where
  pub image_refused : (r : Refusal) → judge_image base cells.0 (length out) ≡ Err r
      → packed_to out (Err r) ≡ pack_if (judge_image base (image_cells l) (length out)) order base l out
  image_refused r q = rw (sym (ap (λ (x : CellCount). judge_image base x.0 (length out)) e) ∙ q)

  pub image_packed : (next : List ℕ) → judge_image base cells.0 (length out) ≡ passed → next ≡ written order (image base l) out
      → packed_to next (Ok cells) ≡ pack_if (judge_image base (image_cells l) (length out)) order base l out
  image_packed next q w = rw (sym (ap (λ (x : CellCount). judge_image base x.0 (length out)) e) ∙ q, w, e)

-- a packing by its two halves
module _ (order : ℕ) (kinds operands : List ℕ) (base : ℕ) (out : List ℕ) where
  pub pack_refused : (r : Refusal) → judge_input order kinds operands ≡ Err r
      → packed_to out (Err r) ≡ pack_of order kinds operands base out
  unfolding pack_of
  pack_refused r q = rw (pack_halves, q)

  pub pack_packed : (p : PackResult) → judge_input order kinds operands ≡ passed
      → p ≡ pack_if (judge_image base (image_cells (listed kinds operands)) (length out)) order base (listed kinds operands) out
      → p ≡ pack_of order kinds operands base out
  unfolding pack_of
  pack_packed p q w = rw (pack_halves, q) w

-- the cells that an answer counts are inside the output
pub if_room : (j : Judged) (order base : ℕ) (l : Listing) (out : List ℕ) → (j ≡ passed → 4 * image_cells l ≤ length out)
    → 4 * (pack_if j order base l out).count ≤ length out
if_room (Ok _) order base l out f = f refl
if_room (Err r) order base l out f = omega arith

module _ (order : ℕ) (out next : List ℕ) (a : Packed) where
  pub pack_room : (kinds operands : List ℕ) (base : ℕ) → packed_to next a ≡ pack_of order kinds operands base out
      → 4 * pack_count a ≤ length out
  unfolding pack_of judge_pack
  pack_room kinds operands base e =
      rw (ap (λ (p : PackResult). p.count) e)
      (if_room _ order base (listed kinds operands) out
      (all_room order (judged_arrays kinds operands) base (listed kinds operands) (length out)))

-- a file hands on its n kinds, behind h bytes, and the first n of an array of operands
module _ (order : ℕ) (s : List ℕ) (h n k base b : ℕ) (operands os : List ℕ) (e : n ≡ k) (q : base ≡ b) (o : take k operands ≡ os) where
  kinds_part : take (h + n - h) (drop h s) ≡ take k (drop h s)
  kinds_part = ap (λ (i : ℕ). take i (drop h s)) (let t : h + n - h ≡ k = omega arith in t)

  operands_part : take (n - 0) operands ≡ os
  operands_part = ap (λ (i : ℕ). take i operands) (let t : n - 0 ≡ k = omega arith in t) ∙ o

  pub handed_judged : (size : ℕ)
      → judge_pack order (take (h + n - h) (drop h s)) (take (n - 0) operands) base size ≡ judge_pack order (take k (drop h s)) os b size
  handed_judged size = rw (kinds_part, operands_part, q) refl

  pub handed_packed : (out : List ℕ)
      → pack_of order (take (h + n - h) (drop h s)) (take (n - 0) operands) base out ≡ pack_of order (take k (drop h s)) os b out
  handed_packed out = rw (kinds_part, operands_part, q) refl
