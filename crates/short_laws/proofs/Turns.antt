-- What items give in turn, found again in a list.
-- Assumes nothing.
use mathlib.Core.Path.{◌≡◌, refl, sym, ap, ◌∙◌}
use mathlib.Core.List.{List, [], ◌∷◌, ◌++◌, append_assoc, append-nil}
use mathlib.Core.Logic.{⊎_elim}
use Prim.Native.Nat.{ℕ, zero, suc, ◌+◌, ◌^◌, ◌<◌}
use native.Mathlib.Nat.{eq-or-lt_of_le, le_of_suc-le-suc}
use native.Mathlib.Omega.{arith}
use lib.ListN.{length, get_or, take, drop, length-append}
use lib.Seq.{ext_get_or, take-add}
use Rattle.cell.specs.Memory.{cell_bytes}
use Rattle.pack_layout.specs.File.{least_first}
use Rattle.short_judging.specs.Operands.{in_turn}
use Rattle.short_judging.proofs.Turns.{singles_length, singles_at}
use Rattle.short_laws.proofs.Bytes.{number_in}

-- a list, element by element
pub singles_all : (xs : List ℕ) → in_turn (λ i. get_or xs i 0 ∷ []) (length xs) ≡ xs
singles_all xs =
    ext_get_or 0 (in_turn (λ i. get_or xs i 0 ∷ []) (length xs)) xs (singles_length (λ i. get_or xs i 0) (length xs))
    (λ i h. singles_at (λ j. get_or xs j 0) (length xs) i (omega (arith, singles_length (λ j. get_or xs j 0) (length xs))))

module _ (g : ℕ → List ℕ) where
  -- what item i gives stands behind what the items before it give
  record Split (n i : ℕ) : Type 0 where
    rest : List ℕ
    so : in_turn g n ≡ in_turn g i ++ (g i ++ rest)

  split : (n i : ℕ) → i < n → Split n i
  unfolding in_turn
  split zero i h = absurd (omega arith)
  split (suc n) i h =
      ⊎_elim
      (λ (e : i ≡ n). record { rest = []; so = rw (e, append-nil (g n)) refl })
      (λ (l : i < n).
      let s = split n i l in
      record {
        rest = s.rest ++ g n;
        so = ap (λ (m : List ℕ). m ++ g n) s.so ∙ append_assoc (in_turn g i) (g i ++ s.rest) (g n) ∙ ap (λ (m : List ℕ). in_turn g i ++ m) (append_assoc (g i) s.rest (g n));
      })
      (eq-or-lt_of_le (le_of_suc-le-suc h))

  -- a number among them, behind p
  pub number_in_turn : (p : List ℕ) (n i x : ℕ) → i < n → g i ≡ cell_bytes 0 x → x < 2 ^ 32
      → least_first (p ++ in_turn g n) (length p + length (in_turn g i)) ≡ x
  number_in_turn p n i x h e l =
      let s = split n i h in
      rw (s.so, ← append_assoc p (in_turn g i) (g i ++ s.rest), ← length-append p (in_turn g i), e) (number_in (p ++ in_turn g i) s.rest x l)

  -- where each gives what a list has in its place, all together are the front of the list
  pub laid : (d : List ℕ) (n : ℕ) → ((i : ℕ) → i < n → g i ≡ take (length (g i)) (drop (length (in_turn g i)) d))
      → in_turn g n ≡ take (length (in_turn g n)) d
  unfolding in_turn
  laid d zero f = refl
  laid d (suc n) f =
      ap (λ (m : List ℕ). m ++ g n) (laid d n (λ i h. f i (omega arith)))
      ∙ ap (λ (m : List ℕ). take (length (in_turn g n)) d ++ m) (f n (omega arith))
      ∙ sym (take-add (length (in_turn g n)) (length (g n)) d)
      ∙ ap (λ (k : ℕ). take k d) (sym (length-append (in_turn g n) (g n)))
