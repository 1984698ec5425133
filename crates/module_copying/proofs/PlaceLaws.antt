-- A copy is the bytes of its cells, end to end, in their place.
use mathlib.Core.Path.{◌≡◌, refl, sym, ap, ◌∙◌}
use mathlib.Core.List.{List, [], ◌++◌, append_assoc}
use mathlib.Core.Logic.{⊎_elim}
use Prim.Native.Nat.{ℕ, zero, suc, ◌+◌, ◌*◌, ◌≤◌, ◌<◌}
use native.Mathlib.Nat.{eq-or-lt_of_le}
use native.Mathlib.Omega.{arith}
use lib.ListN.{length, take, drop, length-append}
use lib.Seq.{take_at, drop_at, take_all, take-append-le, drop-drop, length-take-le, sets-eq, paste-zero}
use Rattle.cell.specs.Memory.{cell_at, cell_bytes, store_cell}
use Rattle.cell.proofs.StoreLaws.{store_sets, cell_length}
use Rattle.module_copying.specs.Copies.{copied}
use Rattle.module_copying.proofs.CopyLaws.{copied_length}

-- a list with another in place of as many elements from a on
module _ (m : List ℕ) (a : ℕ) (s : List ℕ) (n : ℕ) (long : length s ≡ n) (h : a ≤ length m) where
  abbrev pub placed : List ℕ
  placed = take a m ++ s ++ drop (a + n) m

  head_length : length (take a m ++ s) ≡ a + n
  head_length = length-append (take a m) s ∙ rw (length-take-le a m h, long)

  pub placed_upto : take (a + n) placed ≡ take a m ++ s
  placed_upto = take_at (take a m ++ s) (drop (a + n) m) (a + n) head_length

  pub placed_before : take a placed ≡ take a m
  placed_before =
      ap (take a) (append_assoc (take a m) s (drop (a + n) m))
      ∙ take_at (take a m) (s ++ drop (a + n) m) a (length-take-le a m h)

  pub placed_from : drop a placed ≡ s ++ drop (a + n) m
  placed_from =
      ap (drop a) (append_assoc (take a m) s (drop (a + n) m))
      ∙ drop_at (take a m) (s ++ drop (a + n) m) a (length-take-le a m h)

  pub placed_after : (e : ℕ) → drop (a + n + e) placed ≡ drop (a + n + e) m
  placed_after e =
      sym (drop-drop e (a + n) placed)
      ∙ ap (drop e) (drop_at (take a m ++ s) (drop (a + n) m) (a + n) head_length)
      ∙ drop-drop e (a + n) m

-- a store is the bytes of its cell in their place
store_placed : (order : ℕ) (m : List ℕ) (b x : ℕ) → b + 4 ≤ length m
    → store_cell order m b x ≡ take b m ++ cell_bytes order x ++ drop (b + 4) m
store_placed order m b x h =
    let e = cell_length order x in
    store_sets order m b x ∙ sets-eq (cell_bytes order x) m b (omega (arith, e)) ∙ rw e

module _ (theirs ours : ℕ) (code : List ℕ) where
  -- the bytes of the first k cells of a code part, in the machine's order
  abbrev pub turned : ℕ → List ℕ
  turned zero = []
  turned (suc k) = turned k ++ cell_bytes ours (cell_at theirs code (4 * k))

  pub turned_length : (k : ℕ) → length (turned k) ≡ 4 * k
  turned_length zero = refl
  turned_length (suc k) =
      length-append (turned k) (cell_bytes ours (cell_at theirs code (4 * k)))
      ∙ rw (turned_length k, cell_length ours (cell_at theirs code (4 * k))) (omega arith)

  pub turned_first : (k l : ℕ) → k ≤ l → take (4 * k) (turned l) ≡ turned k
  turned_first k zero h = let e : k ≡ 0 = omega arith in rw e
  turned_first k (suc l) h =
      ⊎_elim
      (λ (e : k ≡ suc l). rw e (take_all (4 * suc l) (turned (suc l)) (omega (arith, turned_length (suc l)))))
      (λ (s : k < suc l).
      take-append-le (4 * k) (turned l) (cell_bytes ours (cell_at theirs code (4 * l))) (omega (arith, turned_length l, s))
      ∙ turned_first k l (omega (arith, s)))
      (eq-or-lt_of_le h)

  pub copied_placed : (m : List ℕ) (a k : ℕ) → a + 4 * k ≤ length m
      → copied theirs ours code m a k ≡ take a m ++ turned k ++ drop (a + 4 * k) m
  unfolding copied
  copied_placed m a zero h = paste-zero m a []
  copied_placed m a (suc k) h =
      let t = turned_length k in
      let d : a + 4 * suc k ≡ a + 4 * k + 4 = omega arith in
      store_placed ours (copied theirs ours code m a k) (a + 4 * k) (cell_at theirs code (4 * k)) (omega (arith, copied_length theirs ours code m a k))
      ∙ rw (
        copied_placed m a k (omega arith),
        d,
        placed_upto m a (turned k) (4 * k) t (omega arith),
        placed_after m a (turned k) (4 * k) t (omega arith) 4,
        append_assoc (take a m) (turned k) (cell_bytes ours (cell_at theirs code (4 * k))),
      )
