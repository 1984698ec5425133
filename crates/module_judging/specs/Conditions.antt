-- The conditions that the two lists of refusals name, as plain facts. Document 01, Turned back for the input and for the state.
use Rattle.std.specs.Prelude.{◌≡◌, List, ℕ, ◌+◌, ◌*◌, ◌%◌, ◌≤◌, ◌<◌, length, take}
use Rattle.cell.specs.Refusals.{GoodMachine}
use Rattle.module_judging.specs.Format.{title, order_of, count_of}

-- neither -2 nor -4103
pub record GoodFile (file : List ℕ) : Type 0 where
  pub titled : take 7 file ≡ title
  pub known : order_of file ≤ 1
  pub whole : length file ≡ 12 + 4 * count_of file

-- neither -4104 nor -1, for l cells
pub record GoodPlace (len a l : ℕ) : Type 0 where
  pub aligned : a % 4 ≡ 0
  pub inside : a < len
  pub room : a + 4 * l ≤ len

-- what load_object accepts
pub record Loadable (order : ℕ) (m file : List ℕ) (a : ℕ) : Type 0 where
  pub machine : GoodMachine (length m) order
  pub format : GoodFile file
  pub place : GoodPlace (length m) a (count_of file)

-- what save_object accepts
pub record Savable (order : ℕ) (m : List ℕ) (a l : ℕ) (out : List ℕ) : Type 0 where
  pub machine : GoodMachine (length m) order
  pub place : GoodPlace (length m) a l
  pub room : 12 + 4 * l ≤ length out
