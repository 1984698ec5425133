-- The effects of the instructions without an operand are bounded.
use Rattle.std.specs.Prelude.{Ok, Err}
use Rattle.cell.specs.Place.{Fetched}
use mathlib.Core.List.{List}
use Prim.{tt}
use Prim.Native.Nat.{ℕ, ◌+◌, ◌*◌, ◌%◌, ◌^◌, ◌<◌}
use lib.Dec.{eqb}
use Rattle.cell.specs.Memory.{Bytewise}
use Rattle.cell.specs.Number.{byte_address}
use Rattle.cell.specs.declared.Quotient.{Quotient}
use Rattle.machine.specs.Places.{fetch_of, fetch_byte_of}
use Rattle.machine.specs.Effects.{Effect, fetched}
use Rattle.machine.specs.declared.Machine.{Machine}
use Rattle.machine.specs.declared.Access.TheVariants.{DataRead, ReturnRead, NamedRead}
use Rattle.instruction.specs.Plain.{replaces, reduces, pushes, data1, data2, data3, fetch_deep, divided_both, halted, plain_of}
use Rattle.instruction.specs.declared.Instruction.{Instruction}
use Rattle.instruction.specs.declared.Instruction.TheVariants.{Next, Dup, Drop, Swap, Over, Rot, MinusRot, Tuck, Nip, Pick, Roll, QuestionDup, ToR, RFrom, RFetch, Less, Greater, Equal, NotEqual, ZeroLess, ZeroGreater, ZeroEqual, ZeroNotEqual, ULess, UGreater, Zero, One, MinusOne, CellSize, MinusCell, Plus, Minus, SwapMinus, OnePlus, OneMinus, CellPlus, CellMinus, Star, Slash, Mod, SlashMod, USlashMod, SSlashRem, TwoSlash, Cells, Abs, Negate, Max, Min, Invert, And, Or, Xor, LShift, RShift, OneLShift, OneRShift, FetchCell, StoreCell, CFetch, CStore, PlusStore, SpFetch, SpStore, RpFetch, RpStore, Branch, BranchI, QuestionBranch, QuestionBranchI, Execute, FetchExecute, Call, CallI, Exit, Do, Loop, LoopI, PlusLoop, PlusLoopI, Unloop, J, Literal, LiteralI, Throw, Halt, Lib, Illegal}
use Rattle.processor_laws.specs.Soundness.{Bounded, raises}
use Rattle.processor_laws.proofs.NumberBounds.{sum_below, difference_below, byte0_below}
use Rattle.processor_laws.proofs.EffectBounds.{acting, either, fetched_bounded, rolled_holds, byte_below, deep_below, read1, read2, read3}

module _ (machine : Machine) (m : List ℕ) (low : Bytewise m) (ep sp rp : ℕ) (hs : sp < 2 ^ 32) (hr : rp < 2 ^ 32) where
  -- the shapes, at these stack pointers
  replaced : {x : ℕ} → Bounded (replaces sp rp x)
  replaced = acting hs hr (tt, tt) tt

  reduced : {x : ℕ} → Bounded (reduces sp rp x)
  reduced = acting (sum_below sp 4) hr (tt, tt) tt

  pushed : {x : ℕ} → Bounded (pushes sp rp x)
  pushed = acting (difference_below sp 4) hr (tt, tt) tt

  both : {q : Quotient} → Bounded (divided_both sp rp q)
  both = acting hs hr (tt, (tt, tt)) tt

  halting : (g : Fetched) → Bounded (halted sp rp g)
  halting (Ok x) = acting (sum_below sp 4) hr tt tt
  halting (Err f) = acting hs hr tt tt

  one : {k : ℕ → Effect} → ((x : ℕ) → x < 2 ^ 32 → Bounded (k x)) → Bounded (data1 machine m sp k)
  one f = read1 machine m low DataRead sp f

  two : {k : ℕ → ℕ → Effect} → ((x y : ℕ) → Bounded (k x y)) → Bounded (data2 machine m sp k)
  two f = read2 machine m low DataRead sp f

  three : {k : ℕ → ℕ → ℕ → Effect} → ((x y z : ℕ) → Bounded (k x y z)) → Bounded (data3 machine m sp k)
  three f = read3 machine m low DataRead sp f

  -- a cell that an item names
  named : (a : ℕ) {k : ℕ → Effect} → ((x : ℕ) → x < 2 ^ 32 → Bounded (k x)) → Bounded (fetched (fetch_of machine NamedRead m a) k)
  named a f = read1 machine m low NamedRead a f

  deep : (a : ℕ) {k : ℕ → Effect} → ((x : ℕ) → x < 2 ^ 32 → Bounded (k x)) → Bounded (fetched (fetch_deep machine m a) k)
  deep a f = fetched_bounded (fetch_deep machine m a) (deep_below machine m low a) f

  byte : (a : ℕ) {k : ℕ → Effect} → ((x : ℕ) → x < 2 ^ 32 → Bounded (k x)) → Bounded (fetched (fetch_byte_of machine NamedRead m a) k)
  byte a f = fetched_bounded (fetch_byte_of machine NamedRead m a) (byte_below machine m low NamedRead a) f

  pub plain_bounded : (i : Instruction) → Bounded (plain_of machine i m ep sp rp)
  unfolding plain_of
  plain_bounded Next = raises
  plain_bounded Dup = one (λ x h. pushed)
  plain_bounded Drop = one (λ x h. acting (sum_below sp 4) hr tt tt)
  plain_bounded Swap = two (λ x y. acting hs hr (tt, (tt, tt)) tt)
  plain_bounded Over = two (λ x y. pushed)
  plain_bounded Rot = three (λ x y z. acting hs hr (tt, (tt, (tt, tt))) tt)
  plain_bounded MinusRot = three (λ x y z. acting hs hr (tt, (tt, (tt, tt))) tt)
  plain_bounded Tuck = two (λ x y. acting (difference_below sp 4) hr (tt, (tt, (tt, tt))) tt)
  plain_bounded Nip = two (λ x y. reduced)
  plain_bounded Pick = one (λ u h. deep (sp + 4 + 4 * u) (λ x k. replaced))
  plain_bounded Roll = one (λ u h. deep (sp + 4 + 4 * u) (λ x k. acting (sum_below sp 4) hr (rolled_holds machine.order m (sp + 4) u) tt))
  plain_bounded QuestionDup = one (λ x h. either (eqb x 0) (acting hs hr tt tt) pushed)
  plain_bounded ToR = one (λ x h. acting (sum_below sp 4) (difference_below rp 4) (tt, tt) tt)
  plain_bounded RFrom = read1 machine m low ReturnRead rp (λ x h. acting (difference_below sp 4) (sum_below rp 4) (tt, tt) tt)
  plain_bounded RFetch = read1 machine m low ReturnRead rp (λ x h. pushed)
  plain_bounded Less = two (λ x y. reduced)
  plain_bounded Greater = two (λ x y. reduced)
  plain_bounded Equal = two (λ x y. reduced)
  plain_bounded NotEqual = two (λ x y. reduced)
  plain_bounded ZeroLess = one (λ x h. replaced)
  plain_bounded ZeroGreater = one (λ x h. replaced)
  plain_bounded ZeroEqual = one (λ x h. replaced)
  plain_bounded ZeroNotEqual = one (λ x h. replaced)
  plain_bounded ULess = two (λ x y. reduced)
  plain_bounded UGreater = two (λ x y. reduced)
  plain_bounded Zero = pushed
  plain_bounded One = pushed
  plain_bounded MinusOne = pushed
  plain_bounded CellSize = pushed
  plain_bounded MinusCell = pushed
  plain_bounded Plus = two (λ x y. reduced)
  plain_bounded Minus = two (λ x y. reduced)
  plain_bounded SwapMinus = two (λ x y. reduced)
  plain_bounded OnePlus = one (λ x h. replaced)
  plain_bounded OneMinus = one (λ x h. replaced)
  plain_bounded CellPlus = one (λ x h. replaced)
  plain_bounded CellMinus = one (λ x h. replaced)
  plain_bounded Star = two (λ x y. reduced)
  plain_bounded Slash = two (λ x y. either (eqb y 0) raises reduced)
  plain_bounded Mod = two (λ x y. either (eqb y 0) raises reduced)
  plain_bounded SlashMod = two (λ x y. either (eqb y 0) raises both)
  plain_bounded USlashMod = two (λ x y. either (eqb y 0) raises both)
  plain_bounded SSlashRem = two (λ x y. either (eqb y 0) raises both)
  plain_bounded TwoSlash = one (λ x h. replaced)
  plain_bounded Cells = one (λ x h. replaced)
  plain_bounded Abs = one (λ x h. replaced)
  plain_bounded Negate = one (λ x h. replaced)
  plain_bounded Max = two (λ x y. reduced)
  plain_bounded Min = two (λ x y. reduced)
  plain_bounded Invert = one (λ x h. replaced)
  plain_bounded And = two (λ x y. reduced)
  plain_bounded Or = two (λ x y. reduced)
  plain_bounded Xor = two (λ x y. reduced)
  plain_bounded LShift = two (λ x y. reduced)
  plain_bounded RShift = two (λ x y. reduced)
  plain_bounded OneLShift = one (λ x h. replaced)
  plain_bounded OneRShift = one (λ x h. replaced)
  plain_bounded FetchCell = one (λ a h. named a (λ x k. replaced))
  plain_bounded StoreCell = two (λ x a. acting (sum_below sp 8) hr (tt, tt) tt)
  plain_bounded CFetch = one (λ a h. byte (byte_address machine.order a) (λ x k. replaced))
  plain_bounded CStore = two (λ x a. acting (sum_below sp 8) hr (byte0_below x, tt) tt)
  plain_bounded PlusStore = two (λ n a. named a (λ x k. acting (sum_below sp 8) hr (tt, tt) tt))
  plain_bounded SpFetch = pushed
  plain_bounded SpStore = one (λ x h. either (eqb (x % 4) 0) (acting h hr tt tt) raises)
  plain_bounded RpFetch = pushed
  plain_bounded RpStore = one (λ x h. either (eqb (x % 4) 0) (acting (sum_below sp 4) h tt tt) raises)
  plain_bounded Branch = raises
  plain_bounded BranchI = raises
  plain_bounded QuestionBranch = raises
  plain_bounded QuestionBranchI = raises
  plain_bounded Execute = one (λ to h. acting (sum_below sp 4) (difference_below rp 4) (tt, tt) h)
  plain_bounded FetchExecute = one (λ a h. named a (λ to k. acting (sum_below sp 4) (difference_below rp 4) (tt, tt) k))
  plain_bounded Call = raises
  plain_bounded CallI = raises
  plain_bounded Exit = read1 machine m low ReturnRead rp (λ to h. acting hs (sum_below rp 4) tt h)
  plain_bounded Do = two (λ x y. acting (sum_below sp 8) (difference_below rp 8) (tt, (tt, tt)) tt)
  plain_bounded Loop = raises
  plain_bounded LoopI = raises
  plain_bounded PlusLoop = raises
  plain_bounded PlusLoopI = raises
  plain_bounded Unloop = read2 machine m low ReturnRead rp (λ x y. acting hs (sum_below rp 8) tt tt)
  plain_bounded J = read3 machine m low ReturnRead rp (λ x y z. pushed)
  plain_bounded Literal = raises
  plain_bounded LiteralI = raises
  plain_bounded Throw = acting hs hr tt tt
  plain_bounded Halt = halting (fetch_of machine DataRead m sp)
  plain_bounded Lib = one (λ n h. raises)
  plain_bounded Illegal = raises
