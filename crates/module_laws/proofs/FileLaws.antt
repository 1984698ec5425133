-- A module as a file: what a saved one says, and what a good one is made of.
use mathlib.Core.Path.{◌≡◌, refl, sym, ap, ◌∙◌}
use mathlib.Core.List.{List, ◌∷◌, ◌++◌}
use Prim.Native.Nat.{ℕ, zero, suc, ◌+◌, ◌*◌, ◌^◌, ◌≤◌, ◌<◌}
use native.Mathlib.Omega.{arith}
use lib.ListN.{length, get_or, take, drop, length-append, length-drop}
use lib.Seq.{drop_at, drop-cons, take-add, length-take-le, get_or-take, get_or-drop}
use Rattle.cell.specs.Memory.{cell_at, Bytewise}
use Rattle.cell.proofs.BytesLaws.{join_bytes}
use Rattle.module_judging.specs.Format.{title, order_of, count_of, code_of, header_of, module_of}
use Rattle.module_judging.specs.Conditions.{GoodFile}
use Rattle.module_saving.proofs.AnswerLaws.{header_length}
use Rattle.module_copying.proofs.SameLaws.{cell_bytes_lem}

module _ (order : ℕ) (m : List ℕ) (b l : ℕ) where
  pub module_length : b + 4 * l ≤ length m → length (module_of order m b l) ≡ 12 + 4 * l
  unfolding module_of
  module_length h =
      length-append (header_of order l) (take (4 * l) (drop b m))
      ∙ rw (header_length order l, length-take-le (4 * l) (drop b m) (simp length-drop (omega arith)))

  pub module_code : code_of (module_of order m b l) ≡ take (4 * l) (drop b m)
  unfolding module_of
  module_code = drop_at (header_of order l) (take (4 * l) (drop b m)) 12 (header_length order l)

  pub module_order : order_of (module_of order m b l) ≡ order
  unfolding module_of header_of
  module_order = refl

-- the count is read as it was written
pub module-count : (order : ℕ) (m : List ℕ) (b l : ℕ) → l < 2 ^ 32 → count_of (module_of order m b l) ≡ l
unfolding module_of header_of count_of cell_at
module-count zero m b l h = join_bytes l h
module-count (suc order) m b l h = join_bytes l h

pub module-good : (order : ℕ) (m : List ℕ) (b l : ℕ) → order ≤ 1 → l < 2 ^ 32 → b + 4 * l ≤ length m
    → GoodFile (module_of order m b l)
unfolding module_of header_of
module-good order m b l o h r =
    record {
      titled = refl;
      known = o;
      whole = module_length order m b l r ∙ ap (λ (n : ℕ). 12 + 4 * n) (sym (module-count order m b l h));
    }

-- the cells of the code part are those of the memory that was saved
pub module-cell : (order : ℕ) (m : List ℕ) (b l i : ℕ) → i < l
    → cell_at order (take (4 * l) (drop b m)) (4 * i) ≡ cell_at order m (b + 4 * i)
unfolding cell_at
module-cell order m b l i h =
    rw (at (4 * i) (omega arith), at (4 * i + 1) (omega arith), at (4 * i + 2) (omega arith), at (4 * i + 3) (omega arith), shift 1, shift 2, shift 3)
  where
    at : (j : ℕ) → j < 4 * l → get_or (take (4 * l) (drop b m)) j 0 ≡ get_or m (b + j) 0
    at j k = get_or-take (4 * l) (drop b m) j 0 k ∙ get_or-drop b m j 0

    shift : (n : ℕ) → b + (4 * i + n) ≡ b + 4 * i + n
    shift n = omega arith

-- the header of a good file is the one that a save would write
pub header_back : (file : List ℕ) → GoodFile file → Bytewise file → header_of (order_of file) (count_of file) ≡ take 12 file
unfolding header_of count_of
header_back file g low =
    let h : 12 ≤ length file = omega (arith, g.whole) in
    ap (λ (r : List ℕ). title ++ (order_of file ∷ r)) (cell_bytes_lem (order_of file) file low 8 h)
    ∙ ap (λ (r : List ℕ). title ++ take 5 r) (sym (drop-cons file 7 0 (omega (arith, h))))
    ∙ ap (λ (r : List ℕ). r ++ take 5 (drop 7 file)) (sym g.titled)
    ∙ sym (take-add 7 5 file)
