-- The instructions that take no operand ask for what they asked for, where what they read is the same.
use Rattle.std.specs.Prelude.{Err}
use mathlib.Core.Path.{◌≡◌, refl}
use mathlib.Core.Bool.{Bool, true, false}
use mathlib.Core.List.{List}
use Prim.Native.Nat.{ℕ, zero, suc, ◌+◌, ◌*◌, ◌%◌, ◌^◌}
use lib.Dec.{ltb, eqb}
use Rattle.cell.specs.Choice.{if}
use Rattle.cell.specs.Number.{sum, byte_address}
use Rattle.cell.specs.Place.{address, Fetched}
use Rattle.cell.specs.declared.Fault.{Fault}
use Rattle.cell.specs.declared.Fault.TheVariants.{Range}
use Rattle.machine.specs.Places.{fetch_of}
use Rattle.machine.specs.Effects.{Effect, fetched, roll_stores, rolled}
use Rattle.machine.specs.declared.Machine.{Machine}
use Rattle.machine.specs.declared.Access.{Access}
use Rattle.machine.specs.declared.Access.TheVariants.{DataRead, ReturnRead, NamedRead}
use Rattle.machine.specs.declared.Exception.{Exception}
use Rattle.instruction.specs.Plain.{fetch_deep, halted, plain_of}
use Rattle.instruction.specs.declared.Instruction.{Instruction}
use Rattle.instruction.specs.declared.Instruction.TheVariants.{Next, Dup, Drop, Swap, Over, Rot, MinusRot, Tuck, Nip, Pick, Roll, QuestionDup, ToR, RFrom, RFetch, Less, Greater, Equal, NotEqual, ZeroLess, ZeroGreater, ZeroEqual, ZeroNotEqual, ULess, UGreater, Zero, One, MinusOne, CellSize, MinusCell, Plus, Minus, SwapMinus, OnePlus, OneMinus, CellPlus, CellMinus, Star, Slash, Mod, SlashMod, USlashMod, SSlashRem, TwoSlash, Cells, Abs, Negate, Max, Min, Invert, And, Or, Xor, LShift, RShift, OneLShift, OneRShift, FetchCell, StoreCell, CFetch, CStore, PlusStore, SpFetch, SpStore, RpFetch, RpStore, Branch, BranchI, QuestionBranch, QuestionBranchI, Execute, FetchExecute, Call, CallI, Exit, Do, Loop, LoopI, PlusLoop, PlusLoopI, Unloop, J, Literal, LiteralI, Throw, Halt, Lib, Illegal}
use Rattle.before_tables.specs.Places.{Reading}
use Rattle.before_tables.specs.Plain.{fetch_deep_before, plain_before}
use Rattle.before_tables.proofs.EffectLaws.{Fetches, cell, fails, all_named, Asks, acts, raises, Alike, either, binds}

-- ROLL stores cells
rolls : (order : ℕ) (m : List ℕ) (top last u : ℕ) → all_named (roll_stores order m top last u) ≡ true
unfolding all_named roll_stores
rolls order m top last zero = refl
rolls order m top last (suc u) = rolls order m top last u

rolled_named : (order : ℕ) (m : List ℕ) (top u : ℕ) → all_named (rolled order m top u) ≡ true
unfolding all_named
rolled_named order m top zero = refl
rolled_named order m top (suc u) = rolls order m top _ (suc u)

module _ {machine : Machine} {before : Fault → Exception} {m : List ℕ} {r : Reading} (w : Alike machine before m r) where
  -- HALT takes a failed fetch for a stop
  halting : (sp rp : ℕ) {g h : Fetched} → Fetches machine before g h → Asks machine before (halted sp rp g) (halted sp rp h)
  unfolding all_named
  halting sp rp cell = acts refl
  halting sp rp (fails t) = acts refl

  -- one, two or three cells read upwards from a
  pub read1 : (access : Access) (a : ℕ) {j k : ℕ → Effect} → ((x : ℕ) → Asks machine before (j x) (k x))
      → Asks machine before (fetched (fetch_of machine access m a) j) (fetched (r.cell access a) k)
  read1 access a f = binds (w.cells access a) f

  pub read2 : (access : Access) (a : ℕ) {j k : ℕ → ℕ → Effect} → ((x y : ℕ) → Asks machine before (j x y) (k x y))
      → Asks machine before (fetched (fetch_of machine access m a) (λ y. fetched (fetch_of machine access m (sum a 4)) (λ x. j x y)))
      (fetched (r.cell access a) (λ y. fetched (r.cell access (sum a 4)) (λ x. k x y)))
  read2 access a f = read1 access a (λ y. read1 access (sum a 4) (λ x. f x y))

  read3 : (access : Access) (a : ℕ) {j k : ℕ → ℕ → ℕ → Effect} → ((x y z : ℕ) → Asks machine before (j x y z) (k x y z))
      → Asks machine before
      (fetched (fetch_of machine access m a)
      (λ z. fetched (fetch_of machine access m (sum a 4)) (λ y. fetched (fetch_of machine access m (sum a 8)) (λ x. j x y z))))
      (fetched (r.cell access a) (λ z. fetched (r.cell access (sum a 4)) (λ y. fetched (r.cell access (sum a 8)) (λ x. k x y z))))
  read3 access a f = read2 access a (λ y z. read1 access (sum a 8) (λ x. f x y z))

  deep : (a : ℕ) → Fetches machine before (fetch_deep machine m a) (fetch_deep_before r a)
  deep a = go (ltb a (2 ^ 32))
    where
      go : (t : Bool)
          → Fetches machine before (if t (fetch_of machine DataRead m a) (Err (Range (address (a % 2 ^ 32)))))
          (if t (r.cell DataRead a) (Err (Range (address (a % 2 ^ 32)))))
      go true = w.cells DataRead a
      go false = fails (w.range (address (a % 2 ^ 32)))

  pub same_plain : (ep sp rp : ℕ) (i : Instruction)
      → Asks machine before (plain_of machine i m ep sp rp) (plain_before machine.order m r ep sp rp i)
  unfolding plain_of plain_before all_named
  same_plain ep sp rp Next = raises w.illegal
  same_plain ep sp rp Dup = read1 DataRead sp (λ x. acts refl)
  same_plain ep sp rp Drop = read1 DataRead sp (λ x. acts refl)
  same_plain ep sp rp Swap = read2 DataRead sp (λ x y. acts refl)
  same_plain ep sp rp Over = read2 DataRead sp (λ x y. acts refl)
  same_plain ep sp rp Rot = read3 DataRead sp (λ x y z. acts refl)
  same_plain ep sp rp MinusRot = read3 DataRead sp (λ x y z. acts refl)
  same_plain ep sp rp Tuck = read2 DataRead sp (λ x y. acts refl)
  same_plain ep sp rp Nip = read2 DataRead sp (λ x y. acts refl)
  same_plain ep sp rp Pick = read1 DataRead sp (λ u. binds (deep (sp + 4 + 4 * u)) (λ x. acts refl))
  same_plain ep sp rp Roll = read1 DataRead sp (λ u. binds (deep (sp + 4 + 4 * u)) (λ x. acts (rolled_named machine.order m (sp + 4) u)))
  same_plain ep sp rp QuestionDup = read1 DataRead sp (λ x. either (eqb x 0) (acts refl) (acts refl))
  same_plain ep sp rp ToR = read1 DataRead sp (λ x. acts refl)
  same_plain ep sp rp RFrom = read1 ReturnRead rp (λ x. acts refl)
  same_plain ep sp rp RFetch = read1 ReturnRead rp (λ x. acts refl)
  same_plain ep sp rp Less = read2 DataRead sp (λ x y. acts refl)
  same_plain ep sp rp Greater = read2 DataRead sp (λ x y. acts refl)
  same_plain ep sp rp Equal = read2 DataRead sp (λ x y. acts refl)
  same_plain ep sp rp NotEqual = read2 DataRead sp (λ x y. acts refl)
  same_plain ep sp rp ZeroLess = read1 DataRead sp (λ x. acts refl)
  same_plain ep sp rp ZeroGreater = read1 DataRead sp (λ x. acts refl)
  same_plain ep sp rp ZeroEqual = read1 DataRead sp (λ x. acts refl)
  same_plain ep sp rp ZeroNotEqual = read1 DataRead sp (λ x. acts refl)
  same_plain ep sp rp ULess = read2 DataRead sp (λ x y. acts refl)
  same_plain ep sp rp UGreater = read2 DataRead sp (λ x y. acts refl)
  same_plain ep sp rp Zero = acts refl
  same_plain ep sp rp One = acts refl
  same_plain ep sp rp MinusOne = acts refl
  same_plain ep sp rp CellSize = acts refl
  same_plain ep sp rp MinusCell = acts refl
  same_plain ep sp rp Plus = read2 DataRead sp (λ x y. acts refl)
  same_plain ep sp rp Minus = read2 DataRead sp (λ x y. acts refl)
  same_plain ep sp rp SwapMinus = read2 DataRead sp (λ x y. acts refl)
  same_plain ep sp rp OnePlus = read1 DataRead sp (λ x. acts refl)
  same_plain ep sp rp OneMinus = read1 DataRead sp (λ x. acts refl)
  same_plain ep sp rp CellPlus = read1 DataRead sp (λ x. acts refl)
  same_plain ep sp rp CellMinus = read1 DataRead sp (λ x. acts refl)
  same_plain ep sp rp Star = read2 DataRead sp (λ x y. acts refl)
  same_plain ep sp rp Slash = read2 DataRead sp (λ x y. either (eqb y 0) (raises w.divisor) (acts refl))
  same_plain ep sp rp Mod = read2 DataRead sp (λ x y. either (eqb y 0) (raises w.divisor) (acts refl))
  same_plain ep sp rp SlashMod = read2 DataRead sp (λ x y. either (eqb y 0) (raises w.divisor) (acts refl))
  same_plain ep sp rp USlashMod = read2 DataRead sp (λ x y. either (eqb y 0) (raises w.divisor) (acts refl))
  same_plain ep sp rp SSlashRem = read2 DataRead sp (λ x y. either (eqb y 0) (raises w.divisor) (acts refl))
  same_plain ep sp rp TwoSlash = read1 DataRead sp (λ x. acts refl)
  same_plain ep sp rp Cells = read1 DataRead sp (λ x. acts refl)
  same_plain ep sp rp Abs = read1 DataRead sp (λ x. acts refl)
  same_plain ep sp rp Negate = read1 DataRead sp (λ x. acts refl)
  same_plain ep sp rp Max = read2 DataRead sp (λ x y. acts refl)
  same_plain ep sp rp Min = read2 DataRead sp (λ x y. acts refl)
  same_plain ep sp rp Invert = read1 DataRead sp (λ x. acts refl)
  same_plain ep sp rp And = read2 DataRead sp (λ x y. acts refl)
  same_plain ep sp rp Or = read2 DataRead sp (λ x y. acts refl)
  same_plain ep sp rp Xor = read2 DataRead sp (λ x y. acts refl)
  same_plain ep sp rp LShift = read2 DataRead sp (λ x y. acts refl)
  same_plain ep sp rp RShift = read2 DataRead sp (λ x y. acts refl)
  same_plain ep sp rp OneLShift = read1 DataRead sp (λ x. acts refl)
  same_plain ep sp rp OneRShift = read1 DataRead sp (λ x. acts refl)
  same_plain ep sp rp FetchCell = read1 DataRead sp (λ a. read1 NamedRead a (λ x. acts refl))
  same_plain ep sp rp StoreCell = read2 DataRead sp (λ x y. acts refl)
  same_plain ep sp rp CFetch = read1 DataRead sp (λ a. binds (w.bytes (byte_address machine.order a)) (λ x. acts refl))
  same_plain ep sp rp CStore = read2 DataRead sp (λ x y. acts refl)
  same_plain ep sp rp PlusStore = read2 DataRead sp (λ n a. read1 NamedRead a (λ x. acts refl))
  same_plain ep sp rp SpFetch = acts refl
  same_plain ep sp rp SpStore = read1 DataRead sp (λ x. either (eqb (x % 4) 0) (acts refl) (raises (w.unaligned (address x))))
  same_plain ep sp rp RpFetch = acts refl
  same_plain ep sp rp RpStore = read1 DataRead sp (λ x. either (eqb (x % 4) 0) (acts refl) (raises (w.unaligned (address x))))
  same_plain ep sp rp Branch = raises w.illegal
  same_plain ep sp rp BranchI = raises w.illegal
  same_plain ep sp rp QuestionBranch = raises w.illegal
  same_plain ep sp rp QuestionBranchI = raises w.illegal
  same_plain ep sp rp Execute = read1 DataRead sp (λ x. acts refl)
  same_plain ep sp rp FetchExecute = read1 DataRead sp (λ a. read1 NamedRead a (λ to. acts refl))
  same_plain ep sp rp Call = raises w.illegal
  same_plain ep sp rp CallI = raises w.illegal
  same_plain ep sp rp Exit = read1 ReturnRead rp (λ x. acts refl)
  same_plain ep sp rp Do = read2 DataRead sp (λ x y. acts refl)
  same_plain ep sp rp Loop = raises w.illegal
  same_plain ep sp rp LoopI = raises w.illegal
  same_plain ep sp rp PlusLoop = raises w.illegal
  same_plain ep sp rp PlusLoopI = raises w.illegal
  same_plain ep sp rp Unloop = read2 ReturnRead rp (λ x y. acts refl)
  same_plain ep sp rp J = read3 ReturnRead rp (λ x y z. acts refl)
  same_plain ep sp rp Literal = raises w.illegal
  same_plain ep sp rp LiteralI = raises w.illegal
  same_plain ep sp rp Throw = acts refl
  same_plain ep sp rp Halt = halting sp rp (w.cells DataRead sp)
  same_plain ep sp rp Lib = read1 DataRead sp (λ n. raises w.library)
  same_plain ep sp rp Illegal = raises w.illegal
