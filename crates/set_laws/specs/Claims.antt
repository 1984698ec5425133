-- What is proved of sets of modules. Document 02, (d). The proofs stand in proofs/: Theorems, Places, Conditions and Refusals.
use Rattle.std.specs.Prelude.{◌≡◌, true, List, [], ◌∷◌, ℕ, ◌+◌, ◌*◌, ◌%◌, ◌≤◌, ◌<◌, ltb, length, get_or}
use Rattle.cell.specs.Choice.{if}
use Rattle.cell.specs.Memory.{cell_at, Bytewise}
use Rattle.cell.specs.Refusals.{GoodMachine, refusal_number}
use Rattle.cell.specs.declared.Refusal.TheVariants.{Header}
use Rattle.module_judging.specs.Format.{order_of, code_of}
use Rattle.module_judging.specs.Conditions.{Loadable}
use Rattle.module_loading.specs.Answers.{LoadResult, load_of}
use Rattle.module_laws.specs.Theorems.{Exactly}
use Rattle.set_judging.specs.declared.Member.{Member}
use Rattle.set_judging.specs.Members.{members_of, member_at, file_of, cells_of}
use Rattle.set_judging.specs.Sharing.{end_of, share}
use Rattle.set_loading.specs.Sets.{load_set_of}
use Rattle.permutations.specs.Permutations.{Permuted}

-- a module loaded by itself, by load_object
abbrev pub alone : ℕ → List ℕ → Member → List ℕ → LoadResult
alone order buffer x m = load_of order m (file_of buffer x) x.address.0

-- modules so loaded, one after another: what memory is afterwards, how many cells went in, and that every load is accepted
abbrev pub memory_after : ℕ → List ℕ → List Member → List ℕ → List ℕ
memory_after order buffer [] m = m
memory_after order buffer (x ∷ xs) m = memory_after order buffer xs (alone order buffer x m).memory

abbrev pub cells_after : ℕ → List ℕ → List Member → List ℕ → ℕ
cells_after order buffer [] m = 0
cells_after order buffer (x ∷ xs) m = (alone order buffer x m).count + cells_after order buffer xs (alone order buffer x m).memory

pub data EachAccepted (order : ℕ) (buffer : List ℕ) : List Member → List ℕ → Type 0 where
  no_load : {m : List ℕ} → EachAccepted order buffer [] m
  accepted : {x : Member} {xs : List Member} {m : List ℕ} → (alone order buffer x m).number ≡ 0
      → EachAccepted order buffer xs (alone order buffer x m).memory → EachAccepted order buffer (x ∷ xs) m

-- a result, against single loads of some modules one after another
pub record Singly (order : ℕ) (buffer : List ℕ) (xs : List Member) (m : List ℕ) (r : LoadResult) : Type 0 where
  pub each : EachAccepted order buffer xs m
  pub memory : memory_after order buffer xs m ≡ r.memory
  pub count : cells_after order buffer xs m ≡ r.count

-- an accepted set is the single loads of its modules, in any sequence
abbrev pub InAnySequence : Type 0
InAnySequence =
    (order : ℕ) (m buffer numbers : List ℕ) → (load_set_of order m buffer numbers).number ≡ 0
    → (xs : List Member) → Permuted (members_of numbers) xs → Singly order buffer xs m (load_set_of order m buffer numbers)

-- the order given is one of them
abbrev pub InOrderGiven : Type 0
InOrderGiven =
    (order : ℕ) (m buffer numbers : List ℕ) → (load_set_of order m buffer numbers).number ≡ 0
    → Singly order buffer (members_of numbers) m (load_set_of order m buffer numbers)

-- the three numbers of each module of a list
abbrev pub numbers_of : List Member → List ℕ
numbers_of [] = []
numbers_of (x ∷ xs) = x.address.0 ∷ x.place ∷ x.size ∷ numbers_of xs

-- the modules of an accepted set may be given in any order
abbrev pub InAnyOrder : Type 0
InAnyOrder =
    (order : ℕ) (m buffer numbers : List ℕ) → (load_set_of order m buffer numbers).number ≡ 0
    → (xs : List Member) → Permuted (members_of numbers) xs
    → load_set_of order m buffer (numbers_of xs) ≡ load_set_of order m buffer numbers

-- a set that is not accepted leaves memory as it was lent, and counts no cell
abbrev pub AllOrNone : Type 0
AllOrNone =
    (order : ℕ) (m buffer numbers : List ℕ) → ((load_set_of order m buffer numbers).number ≡ 0 → ⊥)
    → ((load_set_of order m buffer numbers).memory ≡ m) × ((load_set_of order m buffer numbers).count ≡ 0)

-- a byte address that a module's cells take
pub record Holds (buffer : List ℕ) (x : Member) (b : ℕ) : Type 0 where
  pub begun : x.address.0 ≤ b
  pub inside : b < end_of buffer x

-- bytes that no module takes are as they were lent, whatever is answered
pub record Untouched (m buffer numbers next : List ℕ) : Type 0 where
  pub long : length next ≡ length m
  pub bytes : (b : ℕ) → ((k : ℕ) → 3 * k + 3 ≤ length numbers → Holds buffer (member_at numbers k) b → ⊥)
      → get_or next b 0 ≡ get_or m b 0

abbrev pub OutsideAsLent : Type 0
OutsideAsLent =
    (order : ℕ) (m buffer numbers : List ℕ) → Untouched m buffer numbers (load_set_of order m buffer numbers).memory

-- the cells of every module of an accepted set stand at its address, each with the value that it has in its file
abbrev pub CellsInPlace : Type 0
CellsInPlace =
    (order : ℕ) (m buffer numbers : List ℕ) → Bytewise buffer → (load_set_of order m buffer numbers).number ≡ 0
    → (k : ℕ) → 3 * k + 3 ≤ length numbers → (i : ℕ) → i < cells_of buffer (member_at numbers k)
    → cell_at order (load_set_of order m buffer numbers).memory ((member_at numbers k).address.0 + 4 * i)
    ≡ cell_at (order_of (file_of buffer (member_at numbers k))) (code_of (file_of buffer (member_at numbers k))) (4 * i)

-- a byte that two modules hold
pub record SharedByte (buffer : List ℕ) (x y : Member) : Type 0 where
  pub byte : ℕ
  pub first : Holds buffer x byte
  pub second : Holds buffer y byte

-- modules share, as the judgement has it, exactly if there is one
abbrev pub ShareExactly : Type 0
ShareExactly =
    (buffer : List ℕ) (x y : Member) → Exactly (share (end_of buffer) x y ≡ true) (SharedByte buffer x y)

-- a module inside the buffer that load_object accepts
pub record GoodMember (order : ℕ) (m buffer : List ℕ) (x : Member) : Type 0 where
  pub inside : x.place + x.size ≤ length buffer
  pub loadable : Loadable order m (file_of buffer x) x.address.0

-- what load_set accepts
pub record LoadableSet (order : ℕ) (m buffer numbers : List ℕ) : Type 0 where
  pub machine : GoodMachine (length m) order
  pub each : (k : ℕ) → 3 * k + 3 ≤ length numbers → GoodMember order m buffer (member_at numbers k)
  pub whole : length numbers % 3 ≡ 0
  pub some : 3 ≤ length numbers
  pub few : length numbers ≤ 3 * 16
  pub apart : (i j : ℕ) → i < j → 3 * j + 3 ≤ length numbers → SharedByte buffer (member_at numbers i) (member_at numbers j) → ⊥

abbrev pub AcceptedExactly : Type 0
AcceptedExactly =
    (order : ℕ) (m buffer numbers : List ℕ)
    → Exactly ((load_set_of order m buffer numbers).number ≡ 0) (LoadableSet order m buffer numbers)

-- what a module is answered by itself: -2 where it reaches outside the buffer, and else what load_object answers for its file
abbrev pub number_alone : ℕ → List ℕ → List ℕ → Member → ℕ
number_alone order m buffer x =
    if (ltb (length buffer) (x.place + x.size)) (refusal_number Header) (alone order buffer x m).number

-- the first module that is refused by itself decides, whatever stands behind it, and whatever the modules together are
abbrev pub RefusedAsAlone : Type 0
RefusedAsAlone =
    (order : ℕ) (m buffer numbers : List ℕ) → GoodMachine (length m) order
    → (k : ℕ) → 3 * k + 3 ≤ length numbers → ((i : ℕ) → i < k → number_alone order m buffer (member_at numbers i) ≡ 0)
    → (number_alone order m buffer (member_at numbers k) ≡ 0 → ⊥)
    → (load_set_of order m buffer numbers).number ≡ number_alone order m buffer (member_at numbers k)
