-- A cell of the image by its bytes.
-- Assumes nothing.
use mathlib.Core.Path.{◌≡◌, refl, sym, ap, ◌∙◌}
use mathlib.Core.Bool.{Bool, true, false}
use Prim.Native.Nat.{ℕ, zero, suc, ◌+◌, ◌*◌, ◌%◌, ◌^◌, ◌≤◌, ◌<◌}
use native.Mathlib.Nat.{mod-eq_of_lt}
use native.Mathlib.Omega.{arith}
use lib.Pow.{mod-mod-pow}
use Rattle.pack_layout.specs.declared.ItemForm.{ItemForm}
use Rattle.pack_layout.specs.Bytes.{pack}
use Rattle.pack_layout.specs.Layout.{Plan, opens, left, form_at, alone, immediate, in_cell}
use Rattle.pack_layout.specs.Image.{byte_of, above, word, direct}
use Rattle.pack_layout.proofs.Bytes.{pack_below}
use Rattle.pack_layout.proofs.Placing.{left_le, same, opens_left}

pack_mod : (f b x : ℕ) → f ≤ 3 → b < 256 → pack b x % 256 ^ suc f ≡ b + 256 * (x % 256 ^ f)
unfolding pack
pack_mod zero b x l h = omega arith
pack_mod (suc zero) b x l h = omega (arith, mod-mod-pow x 16 8)
pack_mod (suc (suc zero)) b x l h = omega (arith, mod-mod-pow x 8 16)
pack_mod (suc (suc (suc zero))) b x l h = omega arith
pack_mod (suc (suc (suc (suc f)))) b x l h = absurd (omega arith)

zero_mod : (f : ℕ) → f ≤ 4 → 0 % 256 ^ f ≡ 0
zero_mod zero h = refl
zero_mod (suc zero) h = refl
zero_mod (suc (suc zero)) h = refl
zero_mod (suc (suc (suc zero))) h = refl
zero_mod (suc (suc (suc (suc zero)))) h = refl
zero_mod (suc (suc (suc (suc (suc f))))) h = absurd (omega arith)

module _ (p : Plan) (kind val : ℕ → ℕ) (n : ℕ) (low : (i : ℕ) → i < n → byte_of (form_at p i) (kind i) < 256) where
  above_mod : (i w d : ℕ) → (opens p (suc i) ≡ false → w % 256 ^ left p i ≡ d)
      → above (form_at p i) (opens p (suc i)) (val i) w % 256 ^ left p i
      ≡ above (form_at p i) (opens p (suc i)) (val i % 256 ^ left p i) d
  above_mod i w d h = go (form_at p i) (opens p (suc i)) refl
    where
      go : (g : ItemForm) (o : Bool) → opens p (suc i) ≡ o → above g o (val i) w % 256 ^ left p i ≡ above g o (val i % 256 ^ left p i) d
      go alone true q = zero_mod (left p i) (omega (arith, left_le p i))
      go alone false q = h q
      go immediate o q = refl
      go in_cell true q = zero_mod (left p i) (omega (arith, left_le p i))
      go in_cell false q = h q

  word_mod : (k i : ℕ) → i + k ≡ n → word p kind val k i % 256 ^ suc (left p i) ≡ direct p kind val k i
  unfolding word direct
  word_mod zero i e = zero_mod (suc (left p i)) (omega (arith, left_le p i))
  word_mod (suc k) i e =
      pack_mod (left p i) (byte_of (form_at p i) (kind i)) _ (left_le p i) (low i (omega arith))
      ∙ ap (λ (x : ℕ). byte_of (form_at p i) (kind i) + 256 * x)
      (above_mod i (word p kind val k (suc i)) (direct p kind val k (suc i))
      (λ q. ap (λ (f : ℕ). word p kind val k (suc i) % 256 ^ f) (sym (same p i q).left) ∙ word_mod k (suc i) (omega arith)))

  -- the cell that an item opens
  pub whole : (k i : ℕ) → i + suc k ≡ n → opens p i ≡ true → word p kind val (suc k) i ≡ direct p kind val (suc k) i
  unfolding word
  whole k i e q =
      sym (mod-eq_of_lt (pack_below (byte_of (form_at p i) (kind i)) _ (low i (omega arith))))
      ∙ ap (λ (f : ℕ). word p kind val (suc k) i % 256 ^ suc f) (sym (opens_left p i q)) ∙ word_mod (suc k) i e
