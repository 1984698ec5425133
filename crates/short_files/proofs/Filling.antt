-- A file that is written in two places at once: from h bytes on a byte for each of n items, and what else each item has behind these.
-- Assumes nothing.
use mathlib.Core.Path.{◌≡◌, refl, sym, ap, ◌∙◌}
use mathlib.Core.List.{List, [], ◌∷◌, ◌++◌}
use Prim.Native.Nat.{ℕ, suc, ◌+◌, ◌≤◌, ◌<◌}
use native.Mathlib.Numerals.{add-one}
use native.Mathlib.Omega.{arith}
use lib.ListN.{length, set, drop, length-append}
use lib.Seq.{sets, sets-eq}
use Rattle.short_judging.specs.Operands.{in_turn}
use Rattle.short_judging.proofs.Turns.{singles_length}
use Rattle.short_files.proofs.Stores.{sets_append, set_before}

module _ (out : List ℕ) (h n : ℕ) (kind : ℕ → ℕ) (g : ℕ → List ℕ) where
  abbrev kinds : ℕ → List ℕ
  kinds i = in_turn (λ j. kind j ∷ []) i

  -- the kinds of i items, and what k of them have behind
  abbrev part : ℕ → ℕ → List ℕ
  part i k = sets (sets out h (kinds i)) (h + n) (in_turn g k)

  -- the output after i items
  abbrev pub filled : ℕ → List ℕ
  filled i = part i i

  pub filled_none : out ≡ filled 0
  unfolding in_turn
  filled_none = refl

  one_kind : (i : ℕ) → i < n → set (filled i) (h + i) (kind i) ≡ part (suc i) i
  unfolding in_turn
  one_kind i l =
      set_before (sets out h (kinds i)) (h + n) (in_turn g i) (h + i) (kind i) (omega arith)
      ∙ ap (λ (m : List ℕ). sets m (h + n) (in_turn g i))
      (ap (λ (k : ℕ). set (sets out h (kinds i)) (h + k) (kind i)) (sym (singles_length kind i))
      ∙ sym (sets_append out h (kinds i) (kind i ∷ [])))

  -- one item more: its kind, then what it has behind
  pub filled_more : (i at x : ℕ) (now next : List ℕ) → now ≡ filled i → i < n → x ≡ kind i → at ≡ h + n + length (in_turn g i)
      → next ≡ sets (set now (h + i) x) at (g i) → next ≡ filled (i + 1)
  unfolding in_turn
  filled_more i at x now next e l q p r =
      r
      ∙ rw (e, q, p) (ap (λ (m : List ℕ). sets m (h + n + length (in_turn g i)) (g i)) (one_kind i l))
      ∙ sym (sets_append (sets out h (kinds (suc i))) (h + n) (in_turn g i) (g i))
      ∙ ap filled (sym (add-one i))

-- a header, and the rest behind it
module _ (out head : List ℕ) (n : ℕ) (kind : ℕ → ℕ) (g : ℕ → List ℕ) where
  abbrev ks : List ℕ
  ks = in_turn (λ j. kind j ∷ []) n

  abbrev whole : List ℕ
  whole = head ++ ks ++ in_turn g n

  pub whole_file : length whole ≤ length out → filled (sets out 0 head) (length head) n kind g n ≡ whole ++ drop (length whole) out
  whole_file h =
      let e : length (head ++ ks) ≡ length head + n = length-append head ks ∙ ap (λ (k : ℕ). length head + k) (singles_length kind n) in
      let z : (k : ℕ) → 0 + k ≡ k = λ k. omega arith in
      ap (λ (k : ℕ). sets (sets (sets out 0 head) k ks) (length head + n) (in_turn g n)) (sym (z (length head)))
      ∙ ap (λ (m : List ℕ). sets m (length head + n) (in_turn g n)) (sym (sets_append out 0 head ks))
      ∙ ap (λ (k : ℕ). sets (sets out 0 (head ++ ks)) k (in_turn g n)) (sym (z (length (head ++ ks)) ∙ e))
      ∙ sym (sets_append out 0 (head ++ ks) (in_turn g n))
      ∙ sets-eq whole out 0 (omega arith)
      ∙ ap (λ (k : ℕ). whole ++ drop k out) (z (length whole))
