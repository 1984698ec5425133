-- Where a set is, and where it is not: OutsideAsLent and CellsInPlace.
-- Assumes nothing.
use mathlib.Core.Path.{◌≡◌, refl, ◌∙◌}
use mathlib.Core.List.{List, [], ◌∷◌}
use Prim.Native.Nat.{ℕ, ◌+◌, ◌*◌, ◌<◌}
use native.Mathlib.Omega.{arith}
use lib.ListN.{length, get_or, drop}
use Rattle.cell.specs.Memory.{cell_at, Alike, Bytewise}
use Rattle.std.specs.Prelude.{Ok, Err}
use Rattle.cell.specs.Refusals.{Judged}
use Rattle.cell.proofs.MemoryLaws.{cell_alike}
use Rattle.module_judging.specs.Format.{order_of, code_of}
use Rattle.module_copying.proofs.CopyLaws.{copied_cell}
use Rattle.module_copying.proofs.SameLaws.{drop_bytewise, take_bytewise}
use Rattle.set_judging.specs.declared.Member.{Member}
use Rattle.set_judging.specs.Members.{members_of, file_of, cells_of}
use Rattle.set_judging.specs.Sharing.{end_of}
use Rattle.set_judging.specs.Grounds.{judge_set}
use Rattle.set_judging.proofs.MemberLaws.{Each, none, more, each_at}
use Rattle.set_loading.specs.Sets.{copied_one, copied_set, load_set_if, load_set_of}
use Rattle.set_loading.proofs.SetLaws.{one_length}
use Rattle.set_laws.specs.Claims.{Holds, Untouched, OutsideAsLent, CellsInPlace}
use Rattle.set_laws.proofs.Lists.{Pairwise, no_pair, pairs, each_map, each_of}
use Rattle.set_laws.proofs.Bytes.{one_out}
use Rattle.set_laws.proofs.Orders.{Apart, Room}
use Rattle.set_laws.proofs.Theorems.{accepted_set, room_each}

module _ (order : ℕ) (buffer : List ℕ) where
  set_length : (xs : List Member) (m : List ℕ) → length (copied_set order buffer xs m) ≡ length m
  set_length [] m = refl
  set_length (x ∷ xs) m = set_length xs (copied_one order buffer x m) ∙ one_length order buffer x m

  -- a byte that none of them holds
  copied_out : (xs : List Member) (m : List ℕ) (b : ℕ) → Each (λ (x : Member). Holds buffer x b → ⊥) xs
      → get_or (copied_set order buffer xs m) b 0 ≡ get_or m b 0
  copied_out [] m b none = refl
  copied_out (x ∷ xs) m b (more p s) = copied_out xs (copied_one order buffer x m) b s ∙ one_out order buffer x m b p

  untouched_if : (j : Judged) (m numbers : List ℕ) → Untouched m buffer numbers (load_set_if j order m buffer (members_of numbers)).memory
  untouched_if (Err r) m numbers = record { long = refl; bytes = λ b s. refl }
  untouched_if (Ok _) m numbers =
      record {
        long = set_length (members_of numbers) m;
        bytes = λ b s. copied_out (members_of numbers) m b (each_of (λ (x : Member). Holds buffer x b → ⊥) numbers s);
      }

  -- the bytes of a module are as they are, where others go in that hold none of them
  kept : (x : Member) (ys : List Member) (m : List ℕ) → Each (Apart buffer x) ys
      → Alike x.address.0 (end_of buffer x) m (copied_set order buffer ys m)
  unfolding Alike
  kept x ys m s b l h =
      copied_out ys m b
      (each_map (Apart buffer x) (λ (y : Member). Holds buffer y b → ⊥)
      (λ y p t. p (record { byte = b; first = record { begun = l; inside = h }; second = t })) ys s)

  -- the cells of a module stand at its address
  abbrev Stands : List ℕ → Member → Type 0
  Stands m x =
      (i : ℕ) → i < cells_of buffer x
      → cell_at order m (x.address.0 + 4 * i) ≡ cell_at (order_of (file_of buffer x)) (code_of (file_of buffer x)) (4 * i)

  one_stands : (x : Member) (m : List ℕ) → Bytewise buffer → Room (length m) buffer x → Stands (copied_one order buffer x m) x
  unfolding copied_one
  one_stands x m low r =
      let file = file_of buffer x in
      copied_cell (order_of file) order (code_of file) m x.address.0
      (drop_bytewise 12 file (take_bytewise x.size (drop x.place buffer) (drop_bytewise x.place buffer low)))
      (cells_of buffer x) r

  all_stand : (len : ℕ) (xs : List Member) (m : List ℕ) → Bytewise buffer → length m ≡ len → Each (Room len buffer) xs
      → Pairwise (Apart buffer) xs → Each (Stands (copied_set order buffer xs m)) xs
  all_stand len [] m low l none no_pair = none
  all_stand len (x ∷ xs) m low l (more r rs) (pairs p s) =
      let next = copied_one order buffer x m in
      more {x = x} {xs = xs}
      (λ (i : ℕ) (h : i < cells_of buffer x).
      cell_alike x.address.0 (end_of buffer x) order next (copied_set order buffer xs next) (x.address.0 + 4 * i) (kept x xs next p) (omega arith)
      (omega (arith, h))
      ∙ one_stands x m low (rw l r) i h)
      (all_stand len xs next low (one_length order buffer x m ∙ l) rs s)

pub outside_as_lent : OutsideAsLent
unfolding load_set_of
outside_as_lent order m buffer numbers = untouched_if order buffer (judge_set (length m) order buffer numbers) m numbers

pub cells_in_place : CellsInPlace
cells_in_place order m buffer numbers low e k h =
    let a = accepted_set order m buffer numbers e in
    let xs = members_of numbers in
    rw a.result
    (each_at (Stands order buffer (copied_set order buffer xs m)) numbers
    (all_stand order buffer (length m) xs m low refl (room_each order (length m) buffer xs a.passed) a.apart) k h)
