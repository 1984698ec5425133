-- Figures put together: in any grouping, in any order, and part by part.
-- Assumes nothing.
use mathlib.Core.Path.{◌≡◌}
use mathlib.Core.List.{List, [], ◌∷◌, ◌++◌}
use Prim.Native.Nat.{ℕ, ◌+◌, max}
use native.Mathlib.Nat.{add_assoc, add_comm, max_comm, zero-add, zero-max}
use native.Mathlib.Omega.{arith}
use lib.ListN.{length-append}
use Rattle.processor.specs.Answers.{RunAnswer}
use Rattle.batch_reports.specs.declared.Tally.{Tally}
use Rattle.batch_reports.specs.Reports.{sum_of, largest_of, tally_of, no_runs, added}

max_assoc : (a b c : ℕ) → max (max a b) c ≡ max a (max b c)
max_assoc a b c = omega arith

pub added_assoc : (s t u : Tally) → added (added s t) u ≡ added s (added t u)
added_assoc s t u = simp (add_assoc, max_assoc)

pub added_comm : (s t : Tally) → added s t ≡ added t s
added_comm s t =
    rw (
      add_comm s.forms t.forms,
      add_comm s.zeros t.zeros,
      add_comm s.stacks t.stacks,
      add_comm s.handlers t.handlers,
      add_comm s.others t.others,
      add_comm s.spent t.spent,
      add_comm s.cycles t.cycles,
      max_comm s.largest t.largest,
    )

pub added_none : (t : Tally) → added no_runs t ≡ t
added_none t = simp (zero-add, zero-max)

-- of two lists of runs, one behind the other
sum_append : (f : RunAnswer → ℕ) (xs ys : List RunAnswer) → sum_of f (xs ++ ys) ≡ sum_of f xs + sum_of f ys
sum_append f [] ys = omega arith
sum_append f (x ∷ xs) ys = omega (arith, sum_append f xs ys)

largest_append : (f : RunAnswer → ℕ) (xs ys : List RunAnswer) → largest_of f (xs ++ ys) ≡ max (largest_of f xs) (largest_of f ys)
largest_append f [] ys = omega arith
largest_append f (x ∷ xs) ys = omega (arith, largest_append f xs ys)

pub tally_append : (xs ys : List RunAnswer) → tally_of (xs ++ ys) ≡ added (tally_of xs) (tally_of ys)
tally_append xs ys = simp (length-append, sum_append, largest_append)
