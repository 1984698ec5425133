-- The bytes that the copy of one module leaves: its own, and those of before elsewhere.
-- Assumes nothing.
use mathlib.Core.Path.{◌≡◌, sym, ap, ◌∙◌}
use mathlib.Core.List.{List}
use mathlib.Core.Logic.{◌⊎◌, inl, inr, ⊎_elim}
use Prim.Native.Nat.{ℕ, suc, ◌+◌, ◌-◌, ◌*◌, ◌≤◌, ◌<◌}
use native.Mathlib.Nat.{eq-zero-or-pos}
use native.Mathlib.Omega.{arith}
use lib.ListN.{length, get_or, drop, get_or-append}
use lib.Seq.{get_or-drop, ext_get_or}
use Rattle.cell.specs.Memory.{Alike}
use Rattle.module_judging.specs.Format.{order_of, code_of}
use Rattle.module_copying.specs.Copies.{copied}
use Rattle.module_copying.proofs.CopyLaws.{copied_apart}
use Rattle.module_copying.proofs.PlaceLaws.{placed_from, turned, turned_length, copied_placed}
use Rattle.set_judging.specs.declared.Member.{Member}
use Rattle.set_judging.specs.Members.{file_of, cells_of}
use Rattle.set_judging.specs.Sharing.{end_of}
use Rattle.set_loading.specs.Sets.{copied_one}
use Rattle.set_loading.proofs.SetLaws.{one_length}
use Rattle.set_laws.specs.Claims.{Holds, SharedByte}

-- a byte of copied cells is a byte of theirs, whatever was there
copied_at : (theirs ours : ℕ) (code m : List ℕ) (a k j : ℕ) → a + 4 * k ≤ length m → j < 4 * k
    → get_or (copied theirs ours code m a k) (a + j) 0 ≡ get_or (turned theirs ours code k) j 0
copied_at theirs ours code m a k j h l =
    let t = turned_length theirs ours code k in
    let bytes = turned theirs ours code k in
    sym (get_or-drop a (copied theirs ours code m a k) j 0)
    ∙ ap (λ (s : List ℕ). get_or (drop a s) j 0) (copied_placed theirs ours code m a k h)
    ∙ ap (λ (s : List ℕ). get_or s j 0) (placed_from m a bytes (4 * k) t (omega (arith, h)))
    ∙ get_or-append bytes (drop (a + 4 * k) m) 0 j (omega (arith, t, l))

pub below_or : (b a : ℕ) → (b < a) ⊎ (a ≤ b)
below_or b a =
    ⊎_elim (λ (e : a - b ≡ 0). inr (omega (arith, e))) (λ (l : 0 < a - b). inl (omega (arith, l))) (eq-zero-or-pos (a - b))

-- whether a module holds a byte
pub held : (buffer : List ℕ) (x : Member) (b : ℕ) → Holds buffer x b ⊎ (Holds buffer x b → ⊥)
held buffer x b =
    ⊎_elim
    (λ (l : b < x.address.0). inr (λ (h : Holds buffer x b). omega (arith, l, h.begun)))
    (λ (g : x.address.0 ≤ b).
    ⊎_elim
    (λ (l : b < end_of buffer x). inl (record { begun = g; inside = l }))
    (λ (e : end_of buffer x ≤ b). inr (λ (h : Holds buffer x b). omega (arith, e, h.inside)))
    (below_or b (end_of buffer x)))
    (below_or b x.address.0)

module _ (order : ℕ) (buffer : List ℕ) (x : Member) where
  pub one_in : (m n : List ℕ) (b : ℕ) → end_of buffer x ≤ length m → end_of buffer x ≤ length n → Holds buffer x b
      → get_or (copied_one order buffer x m) b 0 ≡ get_or (copied_one order buffer x n) b 0
  unfolding copied_one
  one_in m n b h l s =
      let file = file_of buffer x in
      let a = x.address.0 in
      let j = b - a in
      let e : b ≡ a + j = omega (arith, s.begun) in
      let i : j < 4 * cells_of buffer x = omega (arith, s.begun, s.inside) in
      rw e
      (copied_at (order_of file) order (code_of file) m a (cells_of buffer x) j h i
      ∙ sym (copied_at (order_of file) order (code_of file) n a (cells_of buffer x) j l i))

  pub one_out : (m : List ℕ) (b : ℕ) → (Holds buffer x b → ⊥) → get_or (copied_one order buffer x m) b 0 ≡ get_or m b 0
  unfolding copied_one Alike
  one_out m b s =
      let file = file_of buffer x in
      let a = x.address.0 in
      ⊎_elim
      (λ (l : b < a). copied_apart (order_of file) order (code_of file) m a b (suc b) (cells_of buffer x) (inr l) b (omega arith) (omega arith))
      (λ (g : a ≤ b).
      ⊎_elim
      (λ (l : b < end_of buffer x). absurd (s (record { begun = g; inside = l })))
      (λ (e : end_of buffer x ≤ b). copied_apart (order_of file) order (code_of file) m a b (suc b) (cells_of buffer x) (inl e) b (omega arith) (omega arith))
      (below_or b (end_of buffer x)))
      (below_or b a)

-- two modules that hold no byte in common go in in either order
module _ (order : ℕ) (buffer : List ℕ) (x y : Member) (m : List ℕ) (apart : SharedByte buffer x y → ⊥)
    (h : end_of buffer x ≤ length m) (l : end_of buffer y ≤ length m) where
  abbrev after : Member → List ℕ → List ℕ
  after = copied_one order buffer

  in_x : (b : ℕ) → Holds buffer x b → get_or (after y (after x m)) b 0 ≡ get_or (after x (after y m)) b 0
  in_x b s =
      one_out order buffer y (after x m) b (λ (t : Holds buffer y b). apart (record { byte = b; first = s; second = t }))
      ∙ one_in order buffer x m (after y m) b h (rw (one_length order buffer y m) h) s

  in_y : (b : ℕ) → (Holds buffer x b → ⊥) → Holds buffer y b → get_or (after y (after x m)) b 0 ≡ get_or (after x (after y m)) b 0
  in_y b n s =
      one_in order buffer y (after x m) m b (rw (one_length order buffer x m) l) l s
      ∙ sym (one_out order buffer x (after y m) b n)

  in_neither : (b : ℕ) → (Holds buffer x b → ⊥) → (Holds buffer y b → ⊥) → get_or (after y (after x m)) b 0 ≡ get_or (after x (after y m)) b 0
  in_neither b n o =
      one_out order buffer y (after x m) b o
      ∙ one_out order buffer x m b n
      ∙ sym (one_out order buffer x (after y m) b n ∙ one_out order buffer y m b o)

  pub copies_exchanged : copied_one order buffer y (copied_one order buffer x m) ≡ copied_one order buffer x (copied_one order buffer y m)
  copies_exchanged =
      ext_get_or 0 (after y (after x m)) (after x (after y m))
      (one_length order buffer y (after x m) ∙ one_length order buffer x m
      ∙ sym (one_length order buffer x (after y m) ∙ one_length order buffer y m))
      (λ (b : ℕ) (t : b < length (after y (after x m))).
      ⊎_elim (in_x b) (λ (n : Holds buffer x b → ⊥). ⊎_elim (in_y b n) (in_neither b n) (held buffer y b)) (held buffer x b))
