-- A load that is told to halt: the theorems of specs/Firsts.antt.
use mathlib.Core.Path.{◌≡◌, refl, sym, ◌∙◌}
use mathlib.Core.List.{List}
use Prim.Native.Nat.{ℕ, zero, suc, ◌+◌, ◌-◌, ◌*◌, ◌≤◌, min}
use native.Mathlib.Nat.{add-zero}
use native.Mathlib.Omega.{arith, min_cases}
use lib.ListN.{length, take, drop}
use lib.Seq.{take-append-le, paste-zero}
use Rattle.cell.specs.Refusals.{Judged, passed}
use Rattle.std.specs.Prelude.{Ok, Err}
use Rattle.module_judging.specs.Format.{order_of, count_of, code_of}
use Rattle.module_judging.specs.Grounds.{judge_load}
use Rattle.module_judging.proofs.ConditionLaws.{load_good}
use Rattle.module_copying.specs.Copies.{copied}
use Rattle.module_loading.specs.Answers.{load_if, load_of, load_first_of}
use Rattle.module_copying.proofs.CopyLaws.{copied_length}
use Rattle.module_copying.proofs.PlaceLaws.{placed_before, placed_from, placed_after, turned, turned_length, turned_first, copied_placed}
use Rattle.module_loading.proofs.AnswerLaws.{first_whole}
use Rattle.module_laws.proofs.Theorems.{accepted_exactly, load_memory, first_loads}
use Rattle.module_laws.specs.Firsts.{cells_from, HaltedAfter, FirstCells, AllCells, stored_from, RestByCells, LoadedFurther}

stored_none : (theirs ours : ℕ) (code : List ℕ) (a k : ℕ) (m : List ℕ) → stored_from theirs ours code a k 0 m ≡ m
unfolding stored_from
stored_none theirs ours code a k m = refl

module _ (theirs ours : ℕ) (code m : List ℕ) (a : ℕ) where
  -- a copy of k cells has the cells of a longer one, and the bytes that were there elsewhere
  copied_first : (k l : ℕ) → k ≤ l → a + 4 * l ≤ length m
      → copied theirs ours code m a k ≡ cells_from (copied theirs ours code m a l) a k m
  copied_first k l s h =
      let t : take (4 * k) (drop a (copied theirs ours code m a l)) ≡ turned theirs ours code k =
      rw (copied_placed theirs ours code m a l h, placed_from m a (turned theirs ours code l) (4 * l) (turned_length theirs ours code l) (omega arith))
      (take-append-le (4 * k) (turned theirs ours code l) (drop (a + 4 * l) m) (omega (arith, turned_length theirs ours code l))
      ∙ turned_first theirs ours code k l s) in
      copied_placed theirs ours code m a k (omega arith) ∙ rw t

  -- a copy over a shorter one is the copy alone
  copied_on : (k n : ℕ) → k ≤ n → a + 4 * n ≤ length m
      → copied theirs ours code (copied theirs ours code m a k) a n ≡ copied theirs ours code m a n
  copied_on k n s h =
      let e : a + 4 * n ≡ a + 4 * k + 4 * (n - k) = omega arith in
      let p = copied_placed theirs ours code m a k (omega arith) in
      let t = turned_length theirs ours code k in
      copied_placed theirs ours code (copied theirs ours code m a k) a n (omega (arith, copied_length theirs ours code m a k))
      ∙ rw (
        p,
        placed_before m a (turned theirs ours code k) (4 * k) t (omega arith),
        e,
        placed_after m a (turned theirs ours code k) (4 * k) t (omega arith) (4 * (n - k)),
        ← e,
        copied_placed theirs ours code m a n h,
      )

  -- the rest of a copy, cell by cell
  copied_rest : (j k : ℕ) → stored_from theirs ours code a k j (copied theirs ours code m a k) ≡ copied theirs ours code m a (k + j)
  unfolding stored_from copied
  copied_rest zero k = rw (add-zero k)
  copied_rest (suc j) k = let e : k + suc j ≡ suc k + j = omega arith in rw e (copied_rest j (suc k))

module _ (order : ℕ) (m file : List ℕ) (a : ℕ) where
  halted_if : (k : ℕ) (j : Judged) → judge_load (length m) order file a ≡ j
      → HaltedAfter k m a (load_if j order m file a (count_of file)) (load_if j order m file a (min k (count_of file)))
  halted_if k (Err r) e =
      record { number = refl; count = omega arith; memory = paste-zero m a (drop a m) }
  halted_if k (Ok _) e =
      record {
        number = refl;
        count = refl;
        memory =
            copied_first (order_of file) order (code_of file) m a (min k (count_of file)) (count_of file) (omega arith)
            (load_good order m file a e).place.room;
      }

  -- a file that passes is judged alike in another memory of that length
  over : (n : ℕ) (next : List ℕ) → judge_load (length m) order file a ≡ passed → length next ≡ length m
      → copied (order_of file) order (code_of file) next a (min n (count_of file)) ≡ copied (order_of file) order (code_of file) m a (min n (count_of file))
      → load_first_of order next file a n ≡ load_first_of order m file a n
  unfolding load_first_of
  over n next e l c = rw (l, e, c)

  on_if : (k n : ℕ) → k ≤ n → (j : Judged) → judge_load (length m) order file a ≡ j
      → load_first_of order (load_if j order m file a (min k (count_of file))).memory file a n ≡ load_first_of order m file a n
  on_if k n h (Err r) e = refl
  on_if k n h (Ok _) e =
      let l = count_of file in
      over n (copied (order_of file) order (code_of file) m a (min k l)) e (copied_length (order_of file) order (code_of file) m a (min k l))
      (copied_on (order_of file) order (code_of file) m a (min k l) (min n l) (omega arith) (omega (arith, (load_good order m file a e).place.room)))

-- what a halted load counts, leaves and answers, from the whole load
pub first_cells : FirstCells
unfolding load_of load_first_of
first_cells order m file a k = halted_if order m file a k (judge_load (length m) order file a) refl

-- a halt at or after the last cell is none
pub all_cells : AllCells
all_cells = first_whole

-- k cells loaded, and then the rest of them, if any, cell by cell, are the whole load
pub rest_by_cells : RestByCells
rest_by_cells order m file a k e =
    let g = (accepted_exactly order m file a).only e in
    min_cases k (count_of file) _
    (λ (h : k ≤ count_of file) (n : min k (count_of file) ≡ k).
    let l : k + (count_of file - k) ≡ count_of file = omega (arith, h) in
    rw (first_loads order m file a g k, n, copied_rest (order_of file) order (code_of file) m a (count_of file - k) k, l)
    (sym (load_memory order m file a g)))
    (λ (h : count_of file ≤ k) (n : min k (count_of file) ≡ count_of file).
    let z : count_of file - k ≡ 0 = omega (arith, h) in
    rw (z, stored_none (order_of file) order (code_of file) a k (load_first_of order m file a k).memory, first_whole order m file a k h))

-- a load over a shorter one of the same file is the load alone
pub loaded_further : LoadedFurther
unfolding load_first_of
loaded_further order m file a k n h = on_if order m file a k n h (judge_load (length m) order file a) refl
