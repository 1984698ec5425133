-- A call with a place in `out`, and one without.
-- Assumes nothing.
use mathlib.Core.Path.{◌≡◌, refl, ap, ◌∙◌}
use mathlib.Core.List.{List}
use Prim.Native.Nat.{ℕ, ◌≤◌, ◌<◌}
use borrow.Author.Tests.{lt-ltb, le-ltb}
use lib.ListN.{length}
use Rattle.std.specs.Prelude.{Err, Ok}
use Rattle.cell.specs.Refusals.{Judged}
use Rattle.lent_arrays.specs.Lending.{with_room, no_place}
use Rattle.calls.specs.Modules.{Noted, noted}
use Rattle.pack_layout.specs.Reading.{cells_of, kinds_read, operands_read}
use Rattle.unpacker.specs.Judgement.{judge_unpack}
use Rattle.unpacker.specs.Unpack.{UnpackResult, unpacked_to, unpack_if, unpack_of, Unpacked}
use Rattle.unpack_calls.specs.Images.{unpack_noted, listed, told, unpack_if as call_if, unpack_call}

without : (j : Judged) (result : UnpackResult) (kinds operands out : List ℕ) → length out < 1
    → listed kinds operands out (no_place j) ≡ call_if (with_room j (length out) 1) result kinds operands out
without (Err r) result kinds operands out h = refl
without (Ok _) result kinds operands out h = rw (lt-ltb (length out) 1 h)

with_place : (j : Judged) (ks xs kinds operands out : List ℕ) → 1 ≤ length out
    → told (unpack_if j ks xs kinds operands) out ≡ call_if (with_room j (length out) 1) (unpack_if j ks xs kinds operands) kinds operands out
with_place (Err r) ks xs kinds operands out h = refl
with_place (Ok _) ks xs kinds operands out h = rw (le-ltb (length out) 1 h)

module _ (order : ℕ) (s : List ℕ) (base : ℕ) (kinds operands out : List ℕ) where
  pub unpack_no_place : (j : Judged) → j ≡ judge_unpack order base s (length kinds) (length operands) → (n : ℕ) → n ≡ no_place j → length out < 1
      → listed kinds operands out n ≡ unpack_call order s base kinds operands out
  unfolding unpack_call
  unpack_no_place j e n q h =
      rw (q, e) (without (judge_unpack order base s (length kinds) (length operands)) (unpack_of order s base kinds operands) kinds operands out h)

  pub unpack_told : (ks xs next : List ℕ) (a : Unpacked) (n : ℕ) → 1 ≤ length out → unpacked_to ks xs a ≡ unpack_of order s base kinds operands
      → noted next n ≡ unpack_noted out a → listed ks xs next n ≡ unpack_call order s base kinds operands out
  unfolding unpack_call unpack_of
  unpack_told ks xs next a n h e q =
      ap (λ (k : Noted). record { kinds = ks; operands = xs; noted = k }) q ∙ ap (λ (r : UnpackResult). told r out) e
      ∙ with_place (judge_unpack order base s (length kinds) (length operands)) (kinds_read (cells_of order s)) (operands_read (cells_of order s) base)
      kinds operands out h
