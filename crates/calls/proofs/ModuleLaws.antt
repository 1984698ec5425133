-- A call that halts a load at or after the last cell is the call with no halt.
use mathlib.Core.Path.{◌≡◌}
use mathlib.Core.List.{List}
use Prim.Native.Nat.{ℕ, ◌≤◌}
use Rattle.module_judging.specs.Format.{count_of}
use Rattle.module_loading.proofs.AnswerLaws.{first_whole}
use Rattle.calls.specs.Modules.{load_call, load_first_call}

pub first_call_whole : (order : ℕ) (m file : List ℕ) (a k : ℕ) (out : List ℕ) → count_of file ≤ k
    → load_first_call order m file a k out ≡ load_call order m file a out
unfolding load_first_call load_call
first_call_whole order m file a k out h = rw (first_whole order m file a k h)
