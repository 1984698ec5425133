-- An effect that ends in the throw of THROW writes nothing and moves no stack pointer: THROW's own is the only one.
use Rattle.std.specs.Prelude.{Ok, Err}
use Rattle.cell.specs.Place.{Fetched}
use mathlib.Core.Path.{◌≡◌, refl}
use mathlib.Core.Bool.{Bool, true, false}
use mathlib.Core.List.{List, []}
use Prim.{Unit, tt}
use Prim.Native.Nat.{ℕ, ◌+◌, ◌*◌, ◌%◌}
use lib.Dec.{eqb}
use Rattle.cell.specs.Choice.{if}
use Rattle.cell.specs.Number.{sum, byte_address}
use Rattle.cell.specs.declared.Fault.{Fault}
use Rattle.machine.specs.Places.{fetch_of, fetch_byte_of}
use Rattle.machine.specs.Effects.{Store, Control, go_on, jump, halt, throwing, Action, Effect, act, raise, fetched}
use Rattle.machine.specs.declared.Machine.{Machine}
use Rattle.machine.specs.declared.Access.{Access}
use Rattle.machine.specs.declared.Access.TheVariants.{DataRead, ReturnRead, NamedRead}
use Rattle.instruction.specs.Plain.{action, fetch_deep, halted, plain_of}
use Rattle.counting.specs.Counting.{loop_ends, plus_ends}
use Rattle.instruction.specs.Taking.{Taking, branch, question_branch, call, loop, plus_loop, literal, taking_of}
use Rattle.instruction.specs.declared.Instruction.{Instruction}
use Rattle.instruction.specs.declared.Instruction.TheVariants.{Next, Dup, Drop, Swap, Over, Rot, MinusRot, Tuck, Nip, Pick, Roll, QuestionDup, ToR, RFrom, RFetch, Less, Greater, Equal, NotEqual, ZeroLess, ZeroGreater, ZeroEqual, ZeroNotEqual, ULess, UGreater, Zero, One, MinusOne, CellSize, MinusCell, Plus, Minus, SwapMinus, OnePlus, OneMinus, CellPlus, CellMinus, Star, Slash, Mod, SlashMod, USlashMod, SSlashRem, TwoSlash, Cells, Abs, Negate, Max, Min, Invert, And, Or, Xor, LShift, RShift, OneLShift, OneRShift, FetchCell, StoreCell, CFetch, CStore, PlusStore, SpFetch, SpStore, RpFetch, RpStore, Branch, BranchI, QuestionBranch, QuestionBranchI, Execute, FetchExecute, Call, CallI, Exit, Do, Loop, LoopI, PlusLoop, PlusLoopI, Unloop, J, Literal, LiteralI, Throw, Halt, Lib, Illegal}

abbrev pub Bare : ℕ → ℕ → Action → Control → Type 0
Bare sp rp x go_on = Unit
Bare sp rp x (jump a) = Unit
Bare sp rp x (halt v) = Unit
Bare sp rp x throwing = (x.stores ≡ []) × (x.sp ≡ sp) × (x.rp ≡ rp)

pub data Alone (sp rp : ℕ) : Effect → Type 0 where
  acts : {x : Action} → Bare sp rp x x.control → Alone sp rp (act x)
  raises : {f : Fault} → Alone sp rp (raise f)

pub bare : {sp rp : ℕ} {x : Action} → Alone sp rp (act x) → Bare sp rp x x.control
bare (acts b) = b

module _ (machine : Machine) (m : List ℕ) (ep sp rp : ℕ) where
  on : {s r : ℕ} {ss : List Store} → Alone sp rp (action s r ss go_on)
  on = acts tt

  to : {s r a : ℕ} {ss : List Store} → Alone sp rp (action s r ss (jump a))
  to = acts tt

  given : Alone sp rp (action sp rp [] throwing)
  given = acts {x = record { sp = sp; rp = rp; stores = []; control = throwing }} (refl, refl, refl)

  halting : (g : Fetched) → Alone sp rp (halted sp rp g)
  halting (Ok x) = acts tt
  halting (Err f) = acts tt

  either : (t : Bool) {e f : Effect} → Alone sp rp e → Alone sp rp f → Alone sp rp (if t e f)
  either true p q = p
  either false p q = q

  fetching : (g : Fetched) {k : ℕ → Effect} → ((x : ℕ) → Alone sp rp (k x)) → Alone sp rp (fetched g k)
  fetching (Ok x) f = f x
  fetching (Err e) f = raises

  reading1 : (access : Access) (a : ℕ) {k : ℕ → Effect} → ((x : ℕ) → Alone sp rp (k x)) → Alone sp rp (fetched (fetch_of machine access m a) k)
  reading1 access a f = fetching (fetch_of machine access m a) f

  reading2 : (access : Access) (a : ℕ) {k : ℕ → ℕ → Effect} → ((x y : ℕ) → Alone sp rp (k x y))
      → Alone sp rp (fetched (fetch_of machine access m a) (λ y. fetched (fetch_of machine access m (sum a 4)) (λ x. k x y)))
  reading2 access a f = reading1 access a (λ y. reading1 access (sum a 4) (λ x. f x y))

  reading3 : (access : Access) (a : ℕ) {k : ℕ → ℕ → ℕ → Effect} → ((x y z : ℕ) → Alone sp rp (k x y z))
      → Alone sp rp (fetched (fetch_of machine access m a) (λ z. fetched (fetch_of machine access m (sum a 4)) (λ y. fetched (fetch_of machine access m (sum a 8)) (λ x. k x y z))))
  reading3 access a f = reading1 access a (λ z. reading1 access (sum a 4) (λ y. reading1 access (sum a 8) (λ x. f x y z)))

  pub plain_alone : (i : Instruction) → Alone sp rp (plain_of machine i m ep sp rp)
  unfolding plain_of
  plain_alone Next = raises
  plain_alone Dup = reading1 DataRead sp (λ x. on)
  plain_alone Drop = reading1 DataRead sp (λ x. on)
  plain_alone Swap = reading2 DataRead sp (λ x y. on)
  plain_alone Over = reading2 DataRead sp (λ x y. on)
  plain_alone Rot = reading3 DataRead sp (λ x y z. on)
  plain_alone MinusRot = reading3 DataRead sp (λ x y z. on)
  plain_alone Tuck = reading2 DataRead sp (λ x y. on)
  plain_alone Nip = reading2 DataRead sp (λ x y. on)
  plain_alone Pick = reading1 DataRead sp (λ u. fetching (fetch_deep machine m (sp + 4 + 4 * u)) (λ x. on))
  plain_alone Roll = reading1 DataRead sp (λ u. fetching (fetch_deep machine m (sp + 4 + 4 * u)) (λ x. on))
  plain_alone QuestionDup = reading1 DataRead sp (λ x. either (eqb x 0) on on)
  plain_alone ToR = reading1 DataRead sp (λ x. on)
  plain_alone RFrom = reading1 ReturnRead rp (λ x. on)
  plain_alone RFetch = reading1 ReturnRead rp (λ x. on)
  plain_alone Less = reading2 DataRead sp (λ x y. on)
  plain_alone Greater = reading2 DataRead sp (λ x y. on)
  plain_alone Equal = reading2 DataRead sp (λ x y. on)
  plain_alone NotEqual = reading2 DataRead sp (λ x y. on)
  plain_alone ZeroLess = reading1 DataRead sp (λ x. on)
  plain_alone ZeroGreater = reading1 DataRead sp (λ x. on)
  plain_alone ZeroEqual = reading1 DataRead sp (λ x. on)
  plain_alone ZeroNotEqual = reading1 DataRead sp (λ x. on)
  plain_alone ULess = reading2 DataRead sp (λ x y. on)
  plain_alone UGreater = reading2 DataRead sp (λ x y. on)
  plain_alone Zero = on
  plain_alone One = on
  plain_alone MinusOne = on
  plain_alone CellSize = on
  plain_alone MinusCell = on
  plain_alone Plus = reading2 DataRead sp (λ x y. on)
  plain_alone Minus = reading2 DataRead sp (λ x y. on)
  plain_alone SwapMinus = reading2 DataRead sp (λ x y. on)
  plain_alone OnePlus = reading1 DataRead sp (λ x. on)
  plain_alone OneMinus = reading1 DataRead sp (λ x. on)
  plain_alone CellPlus = reading1 DataRead sp (λ x. on)
  plain_alone CellMinus = reading1 DataRead sp (λ x. on)
  plain_alone Star = reading2 DataRead sp (λ x y. on)
  plain_alone Slash = reading2 DataRead sp (λ x y. either (eqb y 0) raises on)
  plain_alone Mod = reading2 DataRead sp (λ x y. either (eqb y 0) raises on)
  plain_alone SlashMod = reading2 DataRead sp (λ x y. either (eqb y 0) raises on)
  plain_alone USlashMod = reading2 DataRead sp (λ x y. either (eqb y 0) raises on)
  plain_alone SSlashRem = reading2 DataRead sp (λ x y. either (eqb y 0) raises on)
  plain_alone TwoSlash = reading1 DataRead sp (λ x. on)
  plain_alone Cells = reading1 DataRead sp (λ x. on)
  plain_alone Abs = reading1 DataRead sp (λ x. on)
  plain_alone Negate = reading1 DataRead sp (λ x. on)
  plain_alone Max = reading2 DataRead sp (λ x y. on)
  plain_alone Min = reading2 DataRead sp (λ x y. on)
  plain_alone Invert = reading1 DataRead sp (λ x. on)
  plain_alone And = reading2 DataRead sp (λ x y. on)
  plain_alone Or = reading2 DataRead sp (λ x y. on)
  plain_alone Xor = reading2 DataRead sp (λ x y. on)
  plain_alone LShift = reading2 DataRead sp (λ x y. on)
  plain_alone RShift = reading2 DataRead sp (λ x y. on)
  plain_alone OneLShift = reading1 DataRead sp (λ x. on)
  plain_alone OneRShift = reading1 DataRead sp (λ x. on)
  plain_alone FetchCell = reading1 DataRead sp (λ a. reading1 NamedRead a (λ x. on))
  plain_alone StoreCell = reading2 DataRead sp (λ x a. on)
  plain_alone CFetch = reading1 DataRead sp (λ a. fetching (fetch_byte_of machine NamedRead m (byte_address machine.order a)) (λ x. on))
  plain_alone CStore = reading2 DataRead sp (λ x a. on)
  plain_alone PlusStore = reading2 DataRead sp (λ n a. reading1 NamedRead a (λ x. on))
  plain_alone SpFetch = on
  plain_alone SpStore = reading1 DataRead sp (λ x. either (eqb (x % 4) 0) on raises)
  plain_alone RpFetch = on
  plain_alone RpStore = reading1 DataRead sp (λ x. either (eqb (x % 4) 0) on raises)
  plain_alone Branch = raises
  plain_alone BranchI = raises
  plain_alone QuestionBranch = raises
  plain_alone QuestionBranchI = raises
  plain_alone Execute = reading1 DataRead sp (λ a. to)
  plain_alone FetchExecute = reading1 DataRead sp (λ a. reading1 NamedRead a (λ a. to))
  plain_alone Call = raises
  plain_alone CallI = raises
  plain_alone Exit = reading1 ReturnRead rp (λ a. to)
  plain_alone Do = reading2 DataRead sp (λ x y. on)
  plain_alone Loop = raises
  plain_alone LoopI = raises
  plain_alone PlusLoop = raises
  plain_alone PlusLoopI = raises
  plain_alone Unloop = reading2 ReturnRead rp (λ x y. on)
  plain_alone J = reading3 ReturnRead rp (λ x y z. on)
  plain_alone Literal = raises
  plain_alone LiteralI = raises
  plain_alone Throw = given
  plain_alone Halt = halting (fetch_of machine DataRead m sp)
  plain_alone Lib = reading1 DataRead sp (λ n. raises)
  plain_alone Illegal = raises

  pub taking_alone : (operand : Fetched) (after : ℕ) (t : Taking) → Alone sp rp (taking_of machine t m sp rp operand after)
  unfolding taking_of
  taking_alone operand after branch = fetching operand (λ a. to)
  taking_alone operand after question_branch = reading1 DataRead sp (λ x. either (eqb x 0) (fetching operand (λ a. to)) on)
  taking_alone operand after call = fetching operand (λ a. to)
  taking_alone operand after loop = reading2 ReturnRead rp (λ limit index. either (loop_ends index limit) on (fetching operand (λ a. to)))
  taking_alone operand after plus_loop =
      reading1 DataRead sp
      (λ n. reading2 ReturnRead rp (λ limit index. either (plus_ends index limit n) on (fetching operand (λ a. to))))
  taking_alone operand after literal = fetching operand (λ a. on)
