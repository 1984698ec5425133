-- A set of modules, with a place in `out` and without.
-- Assumes nothing.
use mathlib.Core.Path.{◌≡◌, refl, sym}
use mathlib.Core.List.{List}
use Prim.Native.Nat.{ℕ, ◌≤◌, ◌<◌}
use borrow.Author.Tests.{lt-ltb, le-ltb}
use lib.ListN.{length}
use Rattle.std.specs.Prelude.{Ok, Err}
use Rattle.cell.specs.Refusals.{Judged}
use Rattle.module_loading.specs.Answers.{LoadResult}
use Rattle.set_judging.specs.declared.Member.{Member}
use Rattle.set_judging.specs.Members.{members_of}
use Rattle.set_judging.specs.Grounds.{judge_set}
use Rattle.set_loading.specs.Sets.{load_set_if, load_set_of}
use Rattle.lent_arrays.specs.Lending.{with_room, no_place}
use Rattle.calls.specs.Modules.{Moved, moved, load_noted, load_if}
use Rattle.calls.specs.Sets.{load_set_call}

-- a result with its count in `out`
abbrev pub told : LoadResult → List ℕ → Moved
told result out = record { bytes = result.memory; noted = load_noted out result.answer }

without : (j : Judged) (result : LoadResult) (m out : List ℕ) → length out < 1
    → moved m out (no_place j) ≡ load_if (with_room j (length out) 1) result m out
without (Err r) result m out h = refl
without (Ok _) result m out h = rw (lt-ltb (length out) 1 h)

with_place : (j : Judged) (order : ℕ) (m buffer : List ℕ) (xs : List Member) (out : List ℕ) → 1 ≤ length out
    → told (load_set_if j order m buffer xs) out ≡ load_if (with_room j (length out) 1) (load_set_if j order m buffer xs) m out
with_place (Err r) order m buffer xs out h = refl
with_place (Ok _) order m buffer xs out h = rw (le-ltb (length out) 1 h)

module _ (order : ℕ) (m buffer numbers out : List ℕ) where
  pub set_no_place : length out < 1 → load_set_call order m buffer numbers out ≡ moved m out (no_place (judge_set (length m) order buffer numbers))
  unfolding load_set_call
  set_no_place h = sym (without (judge_set (length m) order buffer numbers) (load_set_of order m buffer numbers) m out h)

  pub set_told : 1 ≤ length out → load_set_call order m buffer numbers out ≡ told (load_set_of order m buffer numbers) out
  unfolding load_set_call load_set_of
  set_told h = sym (with_place (judge_set (length m) order buffer numbers) order m buffer (members_of numbers) out h)
