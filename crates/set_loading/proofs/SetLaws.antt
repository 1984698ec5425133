-- The copy of a set of modules: its length, and where its loop stands.
use mathlib.Core.Path.{◌≡◌}
use mathlib.Core.List.{List}
use Prim.Native.Nat.{ℕ, ◌+◌, ◌*◌, ◌≤◌}
use lib.ListN.{length, drop}
use Rattle.cell.specs.Refusals.{passed}
use Rattle.module_judging.specs.Format.{order_of, code_of}
use Rattle.module_copying.proofs.CopyLaws.{copied_length}
use Rattle.set_judging.specs.Grounds.{judge_set}
use Rattle.set_judging.specs.Conditions.{AllFit}
use Rattle.set_judging.proofs.PassLaws.{all_fit}
use Rattle.set_judging.proofs.SetLaws.{set_passing}
use Rattle.set_judging.specs.declared.Member.{Member}
use Rattle.set_judging.specs.Members.{members_of, file_of, cells_of}
use Rattle.set_loading.specs.Sets.{copied_one, copied_set, cells_in}

pub one_length : (order : ℕ) (buffer : List ℕ) (x : Member) (m : List ℕ) → length (copied_one order buffer x m) ≡ length m
unfolding copied_one
one_length order buffer x m =
    let file = file_of buffer x in copied_length (order_of file) order (code_of file) m x.address.0 (cells_of buffer x)

-- where a copy stands after k modules: the rest of them gives the whole, in cells and in memory; the bound keeps the count in a cell
pub record Copying (order : ℕ) (buffer numbers m now : List ℕ) (k total : ℕ) : Type 0 where
  pub long : length now ≡ length m
  pub so : copied_set order buffer (drop k (members_of numbers)) now ≡ copied_set order buffer (members_of numbers) m
  pub counted : total + cells_in buffer (drop k (members_of numbers)) ≡ cells_in buffer (members_of numbers)
  pub few : total ≤ k * 4194304

-- a set that passes has modules that fit
pub set_fits : (len order : ℕ) (buffer numbers : List ℕ) → judge_set len order buffer numbers ≡ passed → AllFit len buffer numbers
set_fits len order buffer numbers e = all_fit len order buffer numbers (set_passing len order buffer numbers e).alone
