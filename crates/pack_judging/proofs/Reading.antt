-- Cells of a file, and its length.
-- Assumes nothing.
use mathlib.Core.Path.{◌≡◌, refl, sym, ap, ◌∙◌}
use mathlib.Core.Bool.{not, ◌||◌}
use mathlib.Core.List.{List}
use Prim.Native.Nat.{ℕ, zero, suc, ◌+◌, ◌*◌, ◌<◌}
use native.Mathlib.Omega.{arith}
use borrow.Author.Tests.{eqb-true, not-false}
use lib.Dec.{eqb, ltb}
use lib.ListN.{length, get_or}
use lib.Seq.{ext_get_or}
use Rattle.cell.specs.Refusals.{passed}
use Rattle.cell.specs.declared.Refusal.TheVariants.{ItemCount}
use Rattle.cell.proofs.BooleanLaws.{neither}
use Rattle.cell.proofs.JudgementLaws.{one_clear}
use Rattle.pack_layout.specs.File.{least_first, cells_from, file_count, judged_length}

pub cells_length : (s : List ℕ) (a k : ℕ) → length (cells_from s a k) ≡ k
unfolding cells_from
cells_length s a zero = refl
cells_length s a (suc k) = ap suc (cells_length s (a + 4) k)

pub cells_at : (s : List ℕ) (a k j : ℕ) → j < k → get_or (cells_from s a k) j 0 ≡ least_first s (a + 4 * j)
unfolding cells_from
cells_at s a zero j h = absurd (omega arith)
cells_at s a (suc k) zero h = ap (least_first s) (let e : a ≡ a + 4 * 0 = omega arith in e)
cells_at s a (suc k) (suc j) h =
    cells_at s (a + 4) k j (omega arith) ∙ ap (least_first s) (let e : a + 4 + 4 * j ≡ a + 4 * suc j = omega arith in e)

pub all_read : (s : List ℕ) (a k : ℕ) (l : List ℕ) → length l ≡ k → ((j : ℕ) → j < k → get_or l j 0 ≡ least_first s (a + 4 * j))
    → l ≡ cells_from s a k
all_read s a k l e f =
    ext_get_or 0 l (cells_from s a k) (e ∙ sym (cells_length s a k))
    (λ i h. f i (omega arith) ∙ sym (cells_at s a k i (omega arith)))

-- a file whose length is that of its header and its items
pub length_of : (s : List ℕ) → judged_length s ≡ passed → length s ≡ 8 + 5 * file_count s
length_of s e =
    let same = eqb (length s) (8 + 5 * file_count s) in
    let p = one_clear (ltb (length s) 8 || not same) ItemCount passed e in
    eqb-true (length s) (8 + 5 * file_count s) (not-false same (neither (ltb (length s) 8) (not same) p.0).1)
