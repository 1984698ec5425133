-- Every store that an instruction asks for is a write.
use Rattle.std.specs.Prelude.{Ok, Err}
use Rattle.cell.specs.Place.{Fetched}
use mathlib.Core.Path.{◌≡◌, refl}
use mathlib.Core.Bool.{Bool, true, false}
use mathlib.Core.List.{List, [], ◌∷◌}
use Prim.{Unit, tt}
use Prim.Native.Nat.{ℕ, zero, suc, ◌+◌, ◌*◌, ◌%◌}
use lib.Dec.{eqb}
use Rattle.cell.specs.Choice.{if}
use Rattle.cell.specs.Number.{sum, byte_address}
use Rattle.cell.specs.declared.Fault.{Fault}
use Rattle.machine.specs.Places.{fetch_of, fetch_byte_of}
use Rattle.machine.specs.Effects.{Store, Control, Action, Effect, act, raise, fetched, roll_stores, rolled}
use Rattle.machine.specs.declared.Machine.{Machine}
use Rattle.machine.specs.declared.Access.{Access}
use Rattle.machine.specs.declared.Access.TheVariants.{DataRead, ReturnRead, NamedRead}
use Rattle.counting.specs.Counting.{loop_ends, plus_ends}
use Rattle.instruction.specs.Plain.{action, pushes, fetch_deep, halted, plain_of}
use Rattle.instruction.specs.Taking.{Taking, branch, question_branch, call, loop, plus_loop, literal, taking_of}
use Rattle.instruction.specs.declared.Instruction.{Instruction}
use Rattle.instruction.specs.declared.Instruction.TheVariants.{Next, Dup, Drop, Swap, Over, Rot, MinusRot, Tuck, Nip, Pick, Roll, QuestionDup, ToR, RFrom, RFetch, Less, Greater, Equal, NotEqual, ZeroLess, ZeroGreater, ZeroEqual, ZeroNotEqual, ULess, UGreater, Zero, One, MinusOne, CellSize, MinusCell, Plus, Minus, SwapMinus, OnePlus, OneMinus, CellPlus, CellMinus, Star, Slash, Mod, SlashMod, USlashMod, SSlashRem, TwoSlash, Cells, Abs, Negate, Max, Min, Invert, And, Or, Xor, LShift, RShift, OneLShift, OneRShift, FetchCell, StoreCell, CFetch, CStore, PlusStore, SpFetch, SpStore, RpFetch, RpStore, Branch, BranchI, QuestionBranch, QuestionBranchI, Execute, FetchExecute, Call, CallI, Exit, Do, Loop, LoopI, PlusLoop, PlusLoopI, Unloop, J, Literal, LiteralI, Throw, Halt, Lib, Illegal}
use Rattle.table_laws.specs.Keeping.{is_write}

abbrev pub AllWrite : List Store → Type 0
AllWrite [] = Unit
AllWrite (s ∷ ss) = (is_write s.access ≡ true) × AllWrite ss

pub data Writing : Effect → Type 0 where
  writes : {x : Action} → AllWrite x.stores → Writing (act x)
  raises : {f : Fault} → Writing (raise f)

-- the shapes that effects are made of
acting : {sp rp : ℕ} {ss : List Store} {c : Control} → AllWrite ss → Writing (action sp rp ss c)
acting h = writes h

fetching : (g : Fetched) {k : ℕ → Effect} → ((x : ℕ) → Writing (k x)) → Writing (fetched g k)
fetching (Ok x) f = f x
fetching (Err e) f = raises

either : (t : Bool) {e f : Effect} → Writing e → Writing f → Writing (if t e f)
either true p q = p
either false p q = q

halting : (sp rp : ℕ) (g : Fetched) → Writing (halted sp rp g)
halting sp rp (Ok x) = acting tt
halting sp rp (Err f) = acting tt

rolls : (order : ℕ) (m : List ℕ) (top last u : ℕ) → AllWrite (roll_stores order m top last u)
unfolding roll_stores
rolls order m top last zero = (refl, tt)
rolls order m top last (suc u) = (refl, rolls order m top last u)

rolling : (order : ℕ) (m : List ℕ) (top u : ℕ) → AllWrite (rolled order m top u)
rolling order m top zero = tt
rolling order m top (suc u) = rolls order m top _ (suc u)

module _ (machine : Machine) (m : List ℕ) (ep sp rp : ℕ) where
  one : (access : Access) (a : ℕ) {k : ℕ → Effect} → ((x : ℕ) → Writing (k x)) → Writing (fetched (fetch_of machine access m a) k)
  one access a f = fetching (fetch_of machine access m a) f

  two : (access : Access) (a : ℕ) {k : ℕ → ℕ → Effect} → ((x y : ℕ) → Writing (k x y))
      → Writing (fetched (fetch_of machine access m a) (λ y. fetched (fetch_of machine access m (sum a 4)) (λ x. k x y)))
  two access a f = one access a (λ y. one access (sum a 4) (λ x. f x y))

  three : (access : Access) (a : ℕ) {k : ℕ → ℕ → ℕ → Effect} → ((x y z : ℕ) → Writing (k x y z))
      → Writing (fetched (fetch_of machine access m a)
      (λ z. fetched (fetch_of machine access m (sum a 4)) (λ y. fetched (fetch_of machine access m (sum a 8)) (λ x. k x y z))))
  three access a f = two access a (λ y z. one access (sum a 8) (λ x. f x y z))

  pushed : {x : ℕ} → Writing (pushes sp rp x)
  pushed = acting (refl, tt)

  pub plain_writes : (i : Instruction) → Writing (plain_of machine i m ep sp rp)
  unfolding plain_of
  plain_writes Next = raises
  plain_writes Dup = one DataRead sp (λ x. acting (refl, tt))
  plain_writes Drop = one DataRead sp (λ x. acting tt)
  plain_writes Swap = two DataRead sp (λ x y. acting (refl, (refl, tt)))
  plain_writes Over = two DataRead sp (λ x y. acting (refl, tt))
  plain_writes Rot = three DataRead sp (λ x y z. acting (refl, (refl, (refl, tt))))
  plain_writes MinusRot = three DataRead sp (λ x y z. acting (refl, (refl, (refl, tt))))
  plain_writes Tuck = two DataRead sp (λ x y. acting (refl, (refl, (refl, tt))))
  plain_writes Nip = two DataRead sp (λ x y. acting (refl, tt))
  plain_writes Pick = one DataRead sp (λ u. fetching (fetch_deep machine m (sp + 4 + 4 * u)) (λ x. acting (refl, tt)))
  plain_writes Roll = one DataRead sp (λ u. fetching (fetch_deep machine m (sp + 4 + 4 * u)) (λ x. acting (rolling machine.order m (sp + 4) u)))
  plain_writes QuestionDup = one DataRead sp (λ x. either (eqb x 0) (acting tt) (acting (refl, tt)))
  plain_writes ToR = one DataRead sp (λ x. acting (refl, tt))
  plain_writes RFrom = one ReturnRead rp (λ x. acting (refl, tt))
  plain_writes RFetch = one ReturnRead rp (λ x. acting (refl, tt))
  plain_writes Less = two DataRead sp (λ x y. acting (refl, tt))
  plain_writes Greater = two DataRead sp (λ x y. acting (refl, tt))
  plain_writes Equal = two DataRead sp (λ x y. acting (refl, tt))
  plain_writes NotEqual = two DataRead sp (λ x y. acting (refl, tt))
  plain_writes ZeroLess = one DataRead sp (λ x. acting (refl, tt))
  plain_writes ZeroGreater = one DataRead sp (λ x. acting (refl, tt))
  plain_writes ZeroEqual = one DataRead sp (λ x. acting (refl, tt))
  plain_writes ZeroNotEqual = one DataRead sp (λ x. acting (refl, tt))
  plain_writes ULess = two DataRead sp (λ x y. acting (refl, tt))
  plain_writes UGreater = two DataRead sp (λ x y. acting (refl, tt))
  plain_writes Zero = pushed
  plain_writes One = pushed
  plain_writes MinusOne = pushed
  plain_writes CellSize = pushed
  plain_writes MinusCell = pushed
  plain_writes Plus = two DataRead sp (λ x y. acting (refl, tt))
  plain_writes Minus = two DataRead sp (λ x y. acting (refl, tt))
  plain_writes SwapMinus = two DataRead sp (λ x y. acting (refl, tt))
  plain_writes OnePlus = one DataRead sp (λ x. acting (refl, tt))
  plain_writes OneMinus = one DataRead sp (λ x. acting (refl, tt))
  plain_writes CellPlus = one DataRead sp (λ x. acting (refl, tt))
  plain_writes CellMinus = one DataRead sp (λ x. acting (refl, tt))
  plain_writes Star = two DataRead sp (λ x y. acting (refl, tt))
  plain_writes Slash = two DataRead sp (λ x y. either (eqb y 0) raises (acting (refl, tt)))
  plain_writes Mod = two DataRead sp (λ x y. either (eqb y 0) raises (acting (refl, tt)))
  plain_writes SlashMod = two DataRead sp (λ x y. either (eqb y 0) raises (acting (refl, (refl, tt))))
  plain_writes USlashMod = two DataRead sp (λ x y. either (eqb y 0) raises (acting (refl, (refl, tt))))
  plain_writes SSlashRem = two DataRead sp (λ x y. either (eqb y 0) raises (acting (refl, (refl, tt))))
  plain_writes TwoSlash = one DataRead sp (λ x. acting (refl, tt))
  plain_writes Cells = one DataRead sp (λ x. acting (refl, tt))
  plain_writes Abs = one DataRead sp (λ x. acting (refl, tt))
  plain_writes Negate = one DataRead sp (λ x. acting (refl, tt))
  plain_writes Max = two DataRead sp (λ x y. acting (refl, tt))
  plain_writes Min = two DataRead sp (λ x y. acting (refl, tt))
  plain_writes Invert = one DataRead sp (λ x. acting (refl, tt))
  plain_writes And = two DataRead sp (λ x y. acting (refl, tt))
  plain_writes Or = two DataRead sp (λ x y. acting (refl, tt))
  plain_writes Xor = two DataRead sp (λ x y. acting (refl, tt))
  plain_writes LShift = two DataRead sp (λ x y. acting (refl, tt))
  plain_writes RShift = two DataRead sp (λ x y. acting (refl, tt))
  plain_writes OneLShift = one DataRead sp (λ x. acting (refl, tt))
  plain_writes OneRShift = one DataRead sp (λ x. acting (refl, tt))
  plain_writes FetchCell = one DataRead sp (λ a. one NamedRead a (λ x. acting (refl, tt)))
  plain_writes StoreCell = two DataRead sp (λ x a. acting (refl, tt))
  plain_writes CFetch = one DataRead sp (λ a. fetching (fetch_byte_of machine NamedRead m (byte_address machine.order a)) (λ x. acting (refl, tt)))
  plain_writes CStore = two DataRead sp (λ x a. acting (refl, tt))
  plain_writes PlusStore = two DataRead sp (λ n a. one NamedRead a (λ x. acting (refl, tt)))
  plain_writes SpFetch = pushed
  plain_writes SpStore = one DataRead sp (λ x. either (eqb (x % 4) 0) (acting tt) raises)
  plain_writes RpFetch = pushed
  plain_writes RpStore = one DataRead sp (λ x. either (eqb (x % 4) 0) (acting tt) raises)
  plain_writes Branch = raises
  plain_writes BranchI = raises
  plain_writes QuestionBranch = raises
  plain_writes QuestionBranchI = raises
  plain_writes Execute = one DataRead sp (λ to. acting (refl, tt))
  plain_writes FetchExecute = one DataRead sp (λ a. one NamedRead a (λ to. acting (refl, tt)))
  plain_writes Call = raises
  plain_writes CallI = raises
  plain_writes Exit = one ReturnRead rp (λ to. acting tt)
  plain_writes Do = two DataRead sp (λ x y. acting (refl, (refl, tt)))
  plain_writes Loop = raises
  plain_writes LoopI = raises
  plain_writes PlusLoop = raises
  plain_writes PlusLoopI = raises
  plain_writes Unloop = two ReturnRead rp (λ x y. acting tt)
  plain_writes J = three ReturnRead rp (λ x y z. acting (refl, tt))
  plain_writes Literal = raises
  plain_writes LiteralI = raises
  plain_writes Throw = acting tt
  plain_writes Halt = halting sp rp (fetch_of machine DataRead m sp)
  plain_writes Lib = one DataRead sp (λ n. raises)
  plain_writes Illegal = raises

  pub taking_writes : (operand : Fetched) (after : ℕ) (t : Taking) → Writing (taking_of machine t m sp rp operand after)
  unfolding taking_of
  taking_writes operand after branch = fetching operand (λ to. acting tt)
  taking_writes operand after question_branch = one DataRead sp (λ x. either (eqb x 0) (fetching operand (λ to. acting tt)) (acting tt))
  taking_writes operand after call = fetching operand (λ to. acting (refl, tt))
  taking_writes operand after loop =
      two ReturnRead rp (λ limit index. either (loop_ends index limit) (acting tt) (fetching operand (λ to. acting (refl, tt))))
  taking_writes operand after plus_loop =
      one DataRead sp
      (λ n. two ReturnRead rp (λ limit index. either (plus_ends index limit n) (acting tt) (fetching operand (λ to. acting (refl, tt)))))
  taking_writes operand after literal = fetching operand (λ x. acting (refl, tt))
