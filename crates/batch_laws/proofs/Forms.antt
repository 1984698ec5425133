-- The forms in a buffer, cut anywhere, and the memory that a form finds.
-- Assumes nothing.
use mathlib.Core.Path.{◌≡◌, refl, ap, ◌∙◌}
use mathlib.Core.List.{List, ◌∷◌, ◌++◌}
use Prim.Native.Nat.{ℕ, zero, suc, ◌+◌, ◌*◌, ◌≤◌}
use native.Mathlib.Nat.{suc-mul, zero-add, zero-mul}
use native.Mathlib.Omega.{arith}
use lib.ListN.{length, take, drop, length-append, length-drop}
use lib.Seq.{drop-drop, length-take-le}
use Rattle.batch_forms.specs.Forms.{forms_of, formed}

module _ (size : ℕ) where
  pub forms_parted : (k n : ℕ) (buffer : List ℕ) → forms_of (k + n) size buffer ≡ forms_of k size buffer ++ forms_of n size (drop (k * size) buffer)
  forms_parted zero n buffer = rw (zero-add n, zero-mul size)
  forms_parted (suc k) n buffer =
      let e : size + k * size ≡ suc k * size = omega (arith, suc-mul k size) in
      let s : suc k + n ≡ suc (k + n) = omega arith in
      rw s (ap (λ (l : List (List ℕ)). take size buffer ∷ l)
      (forms_parted k n (drop size buffer)
      ∙ ap (λ (l : List ℕ). forms_of k size (drop size buffer) ++ forms_of n size l) (drop-drop (k * size) size buffer ∙ ap (λ (i : ℕ). drop i buffer) e)))

  pub forms_length : (n : ℕ) (buffer : List ℕ) → length (forms_of n size buffer) ≡ n
  forms_length zero buffer = refl
  forms_length (suc n) buffer = ap suc (forms_length n (drop size buffer))

  -- a form that lies whole in the buffer has its length
  pub form_length : (i : ℕ) (buffer : List ℕ) → i + size ≤ length buffer → length (take size (drop i buffer)) ≡ size
  form_length i buffer h = length-take-le size (drop i buffer) (simp length-drop (omega arith))

-- memory with a form in it is as long as the start memory
pub formed_length : (start form : List ℕ) (a : ℕ) → a + length form ≤ length start → length (formed start a form) ≡ length start
formed_length start form a h =
    let t : length (take a start) ≡ a = length-take-le a start (omega arith) in
    simp (length-append, length-drop, t) (omega arith)
