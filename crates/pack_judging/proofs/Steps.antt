-- One step of the code, over plain numbers.
-- Assumes nothing.
use mathlib.Core.Path.{◌≡◌, ap, ◌∙◌}
use Prim.Native.Nat.{ℕ, suc, ◌+◌, ◌-◌, ◌≤◌, ◌<◌}
use native.Mathlib.Numerals.{add-one}
use native.Mathlib.Omega.{arith}
use Rattle.std.specs.Prelude.{Err}
use Rattle.cell.specs.Refusals.{after, Judged, passed}
use Rattle.cell.specs.declared.Refusal.{Refusal}
use Rattle.pack_layout.specs.Kinds.{class_of}
use Rattle.pack_layout.specs.Listing.{Listing, judged, judged_from}

-- a step over the items of a listing
module _ (l : Listing) (n i : ℕ) where
  abbrev here : Judged
  here = judged (class_of (l.kind i)) l.count (l.operand i)

  pub judged_step : i < n → judged_from l (n - i) i ≡ after here (judged_from l (n - (i + 1)) (i + 1))
  unfolding judged_from
  judged_step h = rw (let e : n - i ≡ suc (n - (i + 1)) = omega arith in e, add-one i)

  pub judged_on : i < n → here ≡ passed → judged_from l (n - i) i ≡ judged_from l (n - (i + 1)) (i + 1)
  judged_on h e = judged_step h ∙ ap (λ (a : Judged). after a (judged_from l (n - (i + 1)) (i + 1))) e

  pub judged_stop : (r : Refusal) → i < n → here ≡ Err r → judged_from l (n - i) i ≡ Err r
  judged_stop r h e = judged_step h ∙ ap (λ (a : Judged). after a (judged_from l (n - (i + 1)) (i + 1))) e

  pub judged_end : n ≤ i → judged_from l (n - i) i ≡ passed
  unfolding judged_from
  judged_end h = rw (let e : n - i ≡ 0 = omega arith in e)
