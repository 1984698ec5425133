-- The effects of the instructions that take no operand, before tables: the same clauses as in crate `instruction` (Plain, which has the stack pictures), over the
-- reading of that time. The machine before areas (crate `before_areas`) had the same clauses over its own.
use Rattle.std.specs.Prelude.{not, List, [], ◌∷◌, ℕ, ◌+◌, ◌*◌, ◌%◌, ◌^◌, ltb, eqb, Err}
use Rattle.std.specs.Int.Bits.{bit_and, bit_or, bit_xor}
use Rattle.cell.specs.Choice.{if}
use Rattle.cell.specs.Number.{sum, difference, product, negated, less, magnitude, greater, lesser, flag, inverted, shifted_left, shifted_right, halved, byte_address}
use Rattle.cell.specs.Division.{unsigned_of, symmetric_of, floored_of}
use Rattle.cell.specs.Memory.{byte0}
use Rattle.cell.specs.Place.{address, Fetched}
use Rattle.cell.specs.declared.Fault.TheVariants.{Range, Divisor, Library}
use Rattle.cell.specs.declared.Fault.TheVariants as fault
use Rattle.machine.specs.Places.{one_byte}
use Rattle.machine.specs.Effects.{cell_store, go_on, jump, throwing, Effect, raise, fetched, rolled}
use Rattle.machine.specs.declared.Access.{Access}
use Rattle.machine.specs.declared.Access.TheVariants.{DataRead, DataWrite, ReturnRead, ReturnWrite, NamedRead, NamedWrite}
use Rattle.instruction.specs.Plain.{action, replaces, reduces, pushes, divided_both, aligned, halted}
use Rattle.instruction.specs.declared.Instruction.{Instruction}
use Rattle.instruction.specs.declared.Instruction.TheVariants.{Next, Dup, Drop, Swap, Over, Rot, MinusRot, Tuck, Nip, Pick, Roll, QuestionDup, ToR, RFrom, RFetch, Less, Greater, Equal, NotEqual, ZeroLess, ZeroGreater, ZeroEqual, ZeroNotEqual, ULess, UGreater, Zero, One, MinusOne, CellSize, MinusCell, Plus, Minus, SwapMinus, OnePlus, OneMinus, CellPlus, CellMinus, Star, Slash, Mod, SlashMod, USlashMod, SSlashRem, TwoSlash, Cells, Abs, Negate, Max, Min, Invert, And, Or, Xor, LShift, RShift, OneLShift, OneRShift, FetchCell, StoreCell, CFetch, CStore, PlusStore, SpFetch, SpStore, RpFetch, RpStore, Branch, BranchI, QuestionBranch, QuestionBranchI, Execute, FetchExecute, Call, CallI, Exit, Do, Loop, LoopI, PlusLoop, PlusLoopI, Unloop, J, Literal, LiteralI, Throw, Halt, Lib, Illegal}
use Rattle.before_tables.specs.Places.{Reading}

module _ (reads : Reading) where
  -- items of a stack, the top one first
  abbrev pub items1 : Access → ℕ → (ℕ → Effect) → Effect
  items1 access sp k = fetched (reads.cell access sp) k

  abbrev pub items2 : Access → ℕ → (ℕ → ℕ → Effect) → Effect
  items2 access sp k = items1 access sp (λ x2. fetched (reads.cell access (sum sp 4)) (λ x1. k x1 x2))

  abbrev pub items3 : Access → ℕ → (ℕ → ℕ → ℕ → Effect) → Effect
  items3 access sp k = items2 access sp (λ x2 x3. fetched (reads.cell access (sum sp 8)) (λ x1. k x1 x2 x3))

  -- two items and the divisor, which is the top one
  abbrev divided : ℕ → (ℕ → ℕ → Effect) → Effect
  divided sp k = items2 DataRead sp (λ n1 n2. if (eqb n2 0) (raise Divisor) (k n1 n2))

  -- PICK's and ROLL's deep item
  abbrev pub fetch_deep_before : ℕ → Fetched
  fetch_deep_before a = if (ltb a (2 ^ 32)) (reads.cell DataRead a) (Err (Range (address (a % 2 ^ 32))))

module _ (order : ℕ) (m : List ℕ) (reads : Reading) (ep sp rp : ℕ) where
  unfoldable pub plain_before : Instruction → Effect
  plain_before Dup = items1 reads DataRead sp (λ x. pushes sp rp x)
  plain_before Drop = items1 reads DataRead sp (λ x. action (sum sp 4) rp [] go_on)
  plain_before Swap = items2 reads DataRead sp (λ x1 x2. action sp rp (cell_store DataWrite (sum sp 4) x2 ∷ cell_store DataWrite sp x1 ∷ []) go_on)
  plain_before Over = items2 reads DataRead sp (λ x1 x2. pushes sp rp x1)
  plain_before Rot =
      items3 reads DataRead sp
      (λ x1 x2 x3. action sp rp (cell_store DataWrite (sum sp 8) x2 ∷ cell_store DataWrite (sum sp 4) x3 ∷ cell_store DataWrite sp x1 ∷ []) go_on)
  plain_before MinusRot =
      items3 reads DataRead sp
      (λ x1 x2 x3. action sp rp (cell_store DataWrite (sum sp 8) x3 ∷ cell_store DataWrite (sum sp 4) x1 ∷ cell_store DataWrite sp x2 ∷ []) go_on)
  plain_before Tuck =
      items2 reads DataRead sp
      (λ x1 x2.
      action (difference sp 4) rp
      (cell_store DataWrite (sum sp 4) x2 ∷ cell_store DataWrite sp x1 ∷ cell_store DataWrite (difference sp 4) x2 ∷ [])
      go_on)
  plain_before Nip = items2 reads DataRead sp (λ x1 x2. reduces sp rp x2)
  plain_before Pick = items1 reads DataRead sp (λ u. fetched (fetch_deep_before reads (sp + 4 + 4 * u)) (λ x. replaces sp rp x))
  plain_before Roll =
      items1 reads DataRead sp
      (λ u. fetched (fetch_deep_before reads (sp + 4 + 4 * u)) (λ x. action (sum sp 4) rp (rolled order m (sp + 4) u) go_on))
  plain_before QuestionDup = items1 reads DataRead sp (λ x. if (eqb x 0) (action sp rp [] go_on) (pushes sp rp x))
  plain_before ToR =
      items1 reads DataRead sp (λ x. action (sum sp 4) (difference rp 4) (cell_store ReturnWrite (difference rp 4) x ∷ []) go_on)
  plain_before RFrom =
      items1 reads ReturnRead rp (λ x. action (difference sp 4) (sum rp 4) (cell_store DataWrite (difference sp 4) x ∷ []) go_on)
  plain_before RFetch = items1 reads ReturnRead rp (λ x. pushes sp rp x)
  plain_before Less = items2 reads DataRead sp (λ x1 x2. reduces sp rp (flag (less x1 x2)))
  plain_before Greater = items2 reads DataRead sp (λ x1 x2. reduces sp rp (flag (less x2 x1)))
  plain_before Equal = items2 reads DataRead sp (λ x1 x2. reduces sp rp (flag (eqb x1 x2)))
  plain_before NotEqual = items2 reads DataRead sp (λ x1 x2. reduces sp rp (flag (not (eqb x1 x2))))
  plain_before ZeroLess = items1 reads DataRead sp (λ x. replaces sp rp (flag (less x 0)))
  plain_before ZeroGreater = items1 reads DataRead sp (λ x. replaces sp rp (flag (less 0 x)))
  plain_before ZeroEqual = items1 reads DataRead sp (λ x. replaces sp rp (flag (eqb x 0)))
  plain_before ZeroNotEqual = items1 reads DataRead sp (λ x. replaces sp rp (flag (not (eqb x 0))))
  plain_before ULess = items2 reads DataRead sp (λ x1 x2. reduces sp rp (flag (ltb x1 x2)))
  plain_before UGreater = items2 reads DataRead sp (λ x1 x2. reduces sp rp (flag (ltb x2 x1)))
  plain_before Zero = pushes sp rp 0
  plain_before One = pushes sp rp 1
  plain_before MinusOne = pushes sp rp 0xFFFFFFFF
  plain_before CellSize = pushes sp rp 4
  plain_before MinusCell = pushes sp rp 0xFFFFFFFC
  plain_before Plus = items2 reads DataRead sp (λ x1 x2. reduces sp rp (sum x1 x2))
  plain_before Minus = items2 reads DataRead sp (λ x1 x2. reduces sp rp (difference x1 x2))
  plain_before SwapMinus = items2 reads DataRead sp (λ x1 x2. reduces sp rp (difference x2 x1))
  plain_before OnePlus = items1 reads DataRead sp (λ x. replaces sp rp (sum x 1))
  plain_before OneMinus = items1 reads DataRead sp (λ x. replaces sp rp (difference x 1))
  plain_before CellPlus = items1 reads DataRead sp (λ x. replaces sp rp (sum x 4))
  plain_before CellMinus = items1 reads DataRead sp (λ x. replaces sp rp (difference x 4))
  plain_before Star = items2 reads DataRead sp (λ x1 x2. reduces sp rp (product x1 x2))
  plain_before Slash = divided reads sp (λ n1 n2. reduces sp rp (floored_of n1 n2).quotient)
  plain_before Mod = divided reads sp (λ n1 n2. reduces sp rp (floored_of n1 n2).remainder)
  plain_before SlashMod = divided reads sp (λ n1 n2. divided_both sp rp (floored_of n1 n2))
  plain_before USlashMod = divided reads sp (λ u1 u2. divided_both sp rp (unsigned_of u1 u2))
  plain_before SSlashRem = divided reads sp (λ n1 n2. divided_both sp rp (symmetric_of n1 n2))
  plain_before TwoSlash = items1 reads DataRead sp (λ x. replaces sp rp (halved x))
  plain_before Cells = items1 reads DataRead sp (λ x. replaces sp rp (product x 4))
  plain_before Abs = items1 reads DataRead sp (λ x. replaces sp rp (magnitude x))
  plain_before Negate = items1 reads DataRead sp (λ x. replaces sp rp (negated x))
  plain_before Max = items2 reads DataRead sp (λ x1 x2. reduces sp rp (greater x1 x2))
  plain_before Min = items2 reads DataRead sp (λ x1 x2. reduces sp rp (lesser x1 x2))
  plain_before Invert = items1 reads DataRead sp (λ x. replaces sp rp (inverted x))
  plain_before And = items2 reads DataRead sp (λ x1 x2. reduces sp rp (bit_and x1 x2))
  plain_before Or = items2 reads DataRead sp (λ x1 x2. reduces sp rp (bit_or x1 x2))
  plain_before Xor = items2 reads DataRead sp (λ x1 x2. reduces sp rp (bit_xor x1 x2))
  plain_before LShift = items2 reads DataRead sp (λ x1 x2. reduces sp rp (shifted_left x1 x2))
  plain_before RShift = items2 reads DataRead sp (λ x1 x2. reduces sp rp (shifted_right x1 x2))
  plain_before OneLShift = items1 reads DataRead sp (λ x. replaces sp rp (shifted_left x 1))
  plain_before OneRShift = items1 reads DataRead sp (λ x. replaces sp rp (shifted_right x 1))
  plain_before FetchCell = items1 reads DataRead sp (λ a. fetched (reads.cell NamedRead a) (λ x. replaces sp rp x))
  plain_before StoreCell = items2 reads DataRead sp (λ x a. action (sum sp 8) rp (cell_store NamedWrite a x ∷ []) go_on)
  plain_before CFetch =
      items1 reads DataRead sp (λ a. fetched (reads.byte (byte_address order a)) (λ x. replaces sp rp x))
  plain_before CStore =
      items2 reads DataRead sp
      (λ x a.
      action (sum sp 8) rp
      (record { width = one_byte; access = NamedWrite; at = byte_address order a; value = byte0 x } ∷ [])
      go_on)
  plain_before PlusStore =
      items2 reads DataRead sp
      (λ n a. fetched (reads.cell NamedRead a) (λ x. action (sum sp 8) rp (cell_store NamedWrite a (sum x n) ∷ []) go_on))
  plain_before SpFetch = pushes sp rp sp
  plain_before SpStore = items1 reads DataRead sp (λ x. aligned x (action x rp [] go_on))
  plain_before RpFetch = pushes sp rp rp
  plain_before RpStore = items1 reads DataRead sp (λ x. aligned x (action (sum sp 4) x [] go_on))
  plain_before Execute =
      items1 reads DataRead sp (λ to. action (sum sp 4) (difference rp 4) (cell_store ReturnWrite (difference rp 4) ep ∷ []) (jump to))
  plain_before FetchExecute =
      items1 reads DataRead sp
      (λ a.
      fetched (reads.cell NamedRead a)
      (λ to. action (sum sp 4) (difference rp 4) (cell_store ReturnWrite (difference rp 4) ep ∷ []) (jump to)))
  plain_before Exit = items1 reads ReturnRead rp (λ to. action sp (sum rp 4) [] (jump to))
  plain_before Do =
      items2 reads DataRead sp
      (λ x1 x2.
      action (sum sp 8) (difference rp 8)
      (cell_store ReturnWrite (difference rp 4) x1 ∷ cell_store ReturnWrite (difference rp 8) x2 ∷ [])
      go_on)
  plain_before Unloop = items2 reads ReturnRead rp (λ x1 x2. action sp (sum rp 8) [] go_on)
  plain_before J = items3 reads ReturnRead rp (λ x1 x2 x3. pushes sp rp x1)
  plain_before Throw = action sp rp [] throwing
  plain_before Halt = halted sp rp (reads.cell DataRead sp)
  plain_before Lib = items1 reads DataRead sp (λ n. raise Library)
  plain_before Illegal = raise fault.Illegal
  plain_before Next = raise fault.Illegal
  plain_before Branch = raise fault.Illegal
  plain_before BranchI = raise fault.Illegal
  plain_before QuestionBranch = raise fault.Illegal
  plain_before QuestionBranchI = raise fault.Illegal
  plain_before Call = raise fault.Illegal
  plain_before CallI = raise fault.Illegal
  plain_before Loop = raise fault.Illegal
  plain_before LoopI = raise fault.Illegal
  plain_before PlusLoop = raise fault.Illegal
  plain_before PlusLoopI = raise fault.Illegal
  plain_before Literal = raise fault.Illegal
  plain_before LiteralI = raise fault.Illegal
