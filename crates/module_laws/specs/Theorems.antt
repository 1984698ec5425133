-- What is proved of loads and saves together. The proofs stand in proofs/Theorems.antt: accepted_exactly, saved_exactly, saved_loads,
-- loaded_saves. A list of numbers stands for lent bytes where each is below 256 (Bytewise).
use Rattle.std.specs.Prelude.{◌≡◌, List, ◌++◌, ℕ, ◌+◌, ◌*◌, ◌≤◌, ◌<◌, length, take, drop, Ok}
use Rattle.cell.specs.Memory.{cell_at, Alike, Bytewise}
use Rattle.cell.specs.Refusals.{GoodMachine}
use Rattle.module_judging.specs.Format.{order_of, count_of}
use Rattle.module_loading.specs.Answers.{LoadResult, load_of}
use Rattle.module_saving.specs.Answers.{SaveResult, saved_to, save_of}
use Rattle.module_judging.specs.Conditions.{GoodPlace, Loadable, Savable}

-- both ways
pub record Exactly (P Q : Type 0) : Type 0 where
  pub if : Q → P
  pub only : P → Q

-- a file is accepted exactly if the listed conditions hold
abbrev pub AcceptedExactly : Type 0
AcceptedExactly =
    (order : ℕ) (m file : List ℕ) (a : ℕ) → Exactly ((load_of order m file a).number ≡ 0) (Loadable order m file a)

abbrev pub SavedExactly : Type 0
SavedExactly =
    (order : ℕ) (m : List ℕ) (a l : ℕ) (out : List ℕ)
    → Exactly ((save_of order m a l out).number ≡ 0) (Savable order m a l out)

-- the bytes that a save wrote
abbrev pub saved_file : SaveResult → List ℕ
saved_file s = take s.count s.output

-- a load that was accepted: its l cells are those from byte address b on in another machine's memory, each read in its machine's own order, and
-- the bytes outside them are as they were
pub record SameCells (theirs : ℕ) (m : List ℕ) (b l ours : ℕ) (lent : List ℕ) (a : ℕ) (r : LoadResult) : Type 0 where
  pub accepted : r.number ≡ 0
  pub counted : r.count ≡ l
  pub cells : (i : ℕ) → i < l → cell_at ours r.memory (a + 4 * i) ≡ cell_at theirs m (b + 4 * i)
  pub long : length r.memory ≡ length lent
  pub below : Alike 0 a lent r.memory
  pub above : Alike (a + 4 * l) (length lent) lent r.memory

-- a saved module loaded on a machine of either byte order, at any address where it fits, gives the same cells
abbrev pub SavedLoads : Type 0
SavedLoads =
    (theirs : ℕ) (m : List ℕ) (b l : ℕ) (out : List ℕ) → Bytewise m → (save_of theirs m b l out).number ≡ 0
    → (ours : ℕ) (lent : List ℕ) (a : ℕ) → GoodMachine (length lent) ours → GoodPlace (length lent) a l
    → SameCells theirs m b l ours lent a (load_of ours lent (saved_file (save_of theirs m b l out)) a)

-- a module of the machine's own order that was loaded, saved from there, gives back the file byte for byte
abbrev pub LoadedSaves : Type 0
LoadedSaves =
    (order : ℕ) (m file : List ℕ) (a : ℕ) → Bytewise file → (load_of order m file a).number ≡ 0 → order_of file ≡ order
    → (out : List ℕ) → length file ≤ length out
    → save_of order (load_of order m file a).memory a (count_of file) out
    ≡ saved_to (file ++ drop (length file) out) (Ok (length file))
