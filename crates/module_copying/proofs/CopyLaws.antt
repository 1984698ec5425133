-- The copy of cells: its length, its frame and its cells.
use mathlib.Core.Path.{◌≡◌, refl, ◌∙◌}
use mathlib.Core.List.{List}
use mathlib.Core.Logic.{inl, inr, ⊎_elim}
use Prim.Native.Nat.{ℕ, zero, suc, ◌+◌, ◌*◌, ◌≤◌, ◌<◌}
use native.Mathlib.Nat.{eq-or-lt_of_le, le_of_suc-le-suc}
use native.Mathlib.Omega.{arith}
use lib.ListN.{length}
use Rattle.cell.specs.Memory.{cell_at, Alike, Bytewise}
use Rattle.cell.proofs.MemoryLaws.{store_length, Apart, alike_refl, alike_trans, cell_frame, cell_alike, cell_back, cell_below}
use Rattle.module_copying.specs.Copies.{copied}

module _ (theirs ours : ℕ) (code m : List ℕ) (a : ℕ) where
  pub copied_length : (k : ℕ) → length (copied theirs ours code m a k) ≡ length m
  unfolding copied
  copied_length zero = refl
  copied_length (suc k) = store_length ours _ _ _ ∙ copied_length k

  -- bytes outside the cells are as they were
  pub copied_apart : (lo hi k : ℕ) → Apart lo hi a (4 * k) → Alike lo hi m (copied theirs ours code m a k)
  unfolding copied
  copied_apart lo hi zero h = alike_refl lo hi m
  copied_apart lo hi (suc k) (inl h) =
      alike_trans lo hi m (copied theirs ours code m a k) _ (copied_apart lo hi k (inl (omega arith)))
      (cell_frame lo hi ours (copied theirs ours code m a k) (a + 4 * k) (cell_at theirs code (4 * k)) (inl (omega arith)))
  copied_apart lo hi (suc k) (inr h) =
      alike_trans lo hi m (copied theirs ours code m a k) _ (copied_apart lo hi k (inr h))
      (cell_frame lo hi ours (copied theirs ours code m a k) (a + 4 * k) (cell_at theirs code (4 * k)) (inr (omega arith)))

  -- each cell is the one of the code part
  pub copied_cell : Bytewise code → (k : ℕ) → a + 4 * k ≤ length m → (i : ℕ) → i < k
      → cell_at ours (copied theirs ours code m a k) (a + 4 * i) ≡ cell_at theirs code (4 * i)
  unfolding copied
  copied_cell low zero r i h = absurd (omega arith)
  copied_cell low (suc k) r i h =
      ⊎_elim
      (λ (e : i ≡ k). rw e
      (cell_back ours (copied theirs ours code m a k) (a + 4 * k) (cell_at theirs code (4 * k))
      (omega (arith, copied_length k)) (cell_below theirs code (4 * k) low)))
      (λ (l : i < k).
      cell_alike (a + 4 * i) (a + 4 * i + 4) ours (copied theirs ours code m a k) _ (a + 4 * i)
      (cell_frame (a + 4 * i) (a + 4 * i + 4) ours (copied theirs ours code m a k) (a + 4 * k) (cell_at theirs code (4 * k)) (inr (omega arith)))
      (omega arith) (omega arith)
      ∙ copied_cell low k (omega arith) i l)
      (eq-or-lt_of_le (le_of_suc-le-suc h))
