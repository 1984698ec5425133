-- What an unpacking leaves and answers, from what its parts do.
-- Assumes nothing.
use mathlib.Core.Path.{◌≡◌, refl, sym, ap, ap₂, ◌∙◌}
use mathlib.Core.List.{List}
use Prim.Native.Nat.{ℕ, ◌-◌, ◌≤◌}
use native.Mathlib.Omega.{arith}
use lib.ListN.{length, take}
use lib.Seq.{length-take-le}
use Rattle.std.specs.Prelude.{Err, Ok}
use Rattle.cell.specs.Refusals.{Judged, passed}
use Rattle.cell.specs.declared.Refusal.{Refusal}
use Rattle.pack_layout.specs.Reading.{cells_of, items_read, kinds_read, operands_read}
use Rattle.unpack_judging.specs.Judgement.{judge_arrays}
use Rattle.unpack_writing.specs.Writing.{over_if}
use Rattle.unpacker.specs.Judgement.{judge_read, judge_unpack}
use Rattle.unpacker.specs.Unpack.{UnpackResult, unpacked_to, unpack_if, unpack_of, read_if, Recovered, Unpacked}
use Rattle.unpacker.proofs.Recovering.{part, passed_items, kinds_length}

-- what the answer of a reading says of its judgement
pub read_refused : (j : Judged) (n : ℕ) (a : Unpacked) (r : Refusal) → a ≡ read_if j n → a ≡ Err r → j ≡ Err r
read_refused (Ok _) n a r e q = absurd (let z : ◌≡◌ {A = ℕ} 0 1 = cc in omega arith)
read_refused (Err s) n a r e q = let z : ◌≡◌ {A = Unpacked} (Err s) (Err r) = sym e ∙ q in cc

pub read_passed : (j : Judged) (n : ℕ) (a : Unpacked) (m : ℕ) → a ≡ read_if j n → a ≡ Ok m → (j ≡ passed) × (m ≡ n)
read_passed (Ok _) n a m e q = (refl, (let z : ◌≡◌ {A = Unpacked} (Ok m) (Ok n) = sym q ∙ e in cc))
read_passed (Err s) n a m e q = absurd (let z : ◌≡◌ {A = ℕ} 0 1 = cc in omega arith)

-- a listing of m items, written or not
written_so : (j : Judged) (ks xs kinds operands : List ℕ) (m : ℕ) → m ≡ length ks
    → unpacked_to (over_if j ks kinds) (over_if j xs operands) (read_if j m) ≡ unpack_if j ks xs kinds operands
written_so (Ok _) ks xs kinds operands m e = rw e
written_so (Err r) ks xs kinds operands m e = refl

module _ (order base : ℕ) (s : List ℕ) where
  abbrev img : List ℕ
  img = cells_of order s

  -- items were answered: their number
  pub counted : (a : Unpacked) (m : ℕ) → a ≡ read_if (judge_read order base s) (items_read img) → a ≡ Ok m → m ≤ 4096
  counted a m e q =
      let p = read_passed (judge_read order base s) (items_read img) a m e q in
      omega (arith, p.1, passed_items order base s p.0)

  pub judged_refused : (r : Refusal) (k x : ℕ) → judge_read order base s ≡ Err r → Err r ≡ judge_unpack order base s k x
  unfolding judge_unpack
  judged_refused r k x e = rw e

  pub judged_passed : (m k x : ℕ) → judge_read order base s ≡ passed → m ≡ items_read img → judge_arrays m k x ≡ judge_unpack order base s k x
  unfolding judge_unpack
  judged_passed m k x e q = rw (e, q)

  module _ (kinds operands : List ℕ) where
    pub unpack_refused : (r : Refusal) → judge_read order base s ≡ Err r
        → unpacked_to kinds operands (Err r) ≡ unpack_of order s base kinds operands
    unfolding unpack_of
    unpack_refused r e =
        ap (λ (j : Judged). unpack_if j (kinds_read img) (operands_read img base) kinds operands) (judged_refused r (length kinds) (length operands) e)

    module _ (m : ℕ) (ks xs : List ℕ) (pass : judge_read order base s ≡ passed) (count : m ≡ items_read img) (got : Recovered order base s ks xs) where
      kinds_part : take (m - 0) ks ≡ kinds_read img
      kinds_part = ap (λ (k : ℕ). take k ks) (part m ∙ count) ∙ got.kinds_front pass

      operands_part : take (m - 0) xs ≡ operands_read img base
      operands_part = ap (λ (k : ℕ). take k xs) (part m ∙ count) ∙ got.operands_front pass

      unpack_as : (p : UnpackResult)
          → p ≡ unpack_if (judge_arrays (length (take (m - 0) ks)) (length kinds) (length operands)) (take (m - 0) ks) (take (m - 0) xs) kinds operands
          → p ≡ unpack_of order s base kinds operands
      unfolding unpack_of
      unpack_as p e =
          e
          ∙ ap₂ (λ (k x : List ℕ). unpack_if (judge_arrays (length k) (length kinds) (length operands)) k x kinds operands) kinds_part operands_part
          ∙ ap (λ (j : Judged). unpack_if j (kinds_read img) (operands_read img base) kinds operands)
          (judged_passed (length (kinds_read img)) (length kinds) (length operands) pass (kinds_length img))

      -- both arrays as they were written, and the answer
      pub unpack_written : m ≤ length ks → (j : Judged) (k x : List ℕ) (a : Unpacked)
          → j ≡ judge_arrays (length (take (m - 0) ks)) (length kinds) (length operands)
          → k ≡ over_if j (take (m - 0) ks) kinds → x ≡ over_if j (take (m - 0) xs) operands → a ≡ read_if j m
          → unpacked_to k x a ≡ unpack_of order s base kinds operands
      unpack_written h j k x a ej ek ex ea =
          unpack_as (unpacked_to k x a)
          (rw (ek, ex, ea) (written_so j (take (m - 0) ks) (take (m - 0) xs) kinds operands m (sym (rw (part m) (length-take-le m ks h))))
          ∙ ap (λ (i : Judged). unpack_if i (take (m - 0) ks) (take (m - 0) xs) kinds operands) ej)
