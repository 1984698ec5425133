-- The effects of the instructions that take no operand from the instruction stream, one clause for each, in opcode order: stack picture, then effect.
-- Document 01, The processor: what is read comes from the data stack, the top item first, then from the return stack, then from the cells that those
-- items name; a divisor of 0 is found after that. What is written goes to the data stack, the return stack and the named cell in this order, and on
-- each stack the deepest place comes first; an item that stays where it was is not written again. EP is given for the calls alone; what follows an instruction is its `Control`.
use Rattle.std.specs.Prelude.{not, List, [], ◌∷◌, ℕ, ◌+◌, ◌*◌, ◌%◌, ◌^◌, ltb, eqb, Ok, Err}
use Rattle.std.specs.Int.Bits.{bit_and, bit_or, bit_xor}
use Rattle.cell.specs.Choice.{if}
use Rattle.cell.specs.Number.{sum, difference, product, negated, less, magnitude, greater, lesser, flag, inverted, shifted_left, shifted_right, halved, byte_address}
use Rattle.cell.specs.Division.{unsigned_of, symmetric_of, floored_of}
use Rattle.cell.specs.Memory.{byte0}
use Rattle.cell.specs.Place.{address, Fetched}
use Rattle.cell.specs.declared.Quotient.{Quotient}
use Rattle.cell.specs.declared.Fault.TheVariants.{Range, Alignment, Divisor, Library}
use Rattle.cell.specs.declared.Fault.TheVariants as fault
use Rattle.machine.specs.Places.{one_byte, fetch_of, fetch_byte_of}
use Rattle.machine.specs.Effects.{Store, cell_store, Control, go_on, jump, halt, throwing, Effect, act, raise, fetched, rolled}
use Rattle.exceptions.specs.Fixed.{bad_stack}
use Rattle.machine.specs.declared.Machine.{Machine}
use Rattle.machine.specs.declared.Registers.{Registers}
use Rattle.machine.specs.declared.Access.TheVariants.{DataRead, DataWrite, ReturnRead, ReturnWrite, NamedRead, NamedWrite}
use Rattle.instruction.specs.declared.Instruction.{Instruction}
use Rattle.instruction.specs.declared.Instruction.TheVariants.{Next, Dup, Drop, Swap, Over, Rot, MinusRot, Tuck, Nip, Pick, Roll, QuestionDup, ToR, RFrom, RFetch, Less, Greater, Equal, NotEqual, ZeroLess, ZeroGreater, ZeroEqual, ZeroNotEqual, ULess, UGreater, Zero, One, MinusOne, CellSize, MinusCell, Plus, Minus, SwapMinus, OnePlus, OneMinus, CellPlus, CellMinus, Star, Slash, Mod, SlashMod, USlashMod, SSlashRem, TwoSlash, Cells, Abs, Negate, Max, Min, Invert, And, Or, Xor, LShift, RShift, OneLShift, OneRShift, FetchCell, StoreCell, CFetch, CStore, PlusStore, SpFetch, SpStore, RpFetch, RpStore, Branch, BranchI, QuestionBranch, QuestionBranchI, Execute, FetchExecute, Call, CallI, Exit, Do, Loop, LoopI, PlusLoop, PlusLoopI, Unloop, J, Literal, LiteralI, Throw, Halt, Lib, Illegal}

-- what an instruction asks for: SP, RP, the stores, what follows
abbrev pub action : ℕ → ℕ → List Store → Control → Effect
action sp rp stores control = act (record { sp = sp; rp = rp; stores = stores; control = control })

-- the data stack's top item replaced; the top two replaced by one; one more item
abbrev pub replaces : ℕ → ℕ → ℕ → Effect
replaces sp rp x = action sp rp (cell_store DataWrite sp x ∷ []) go_on

abbrev pub reduces : ℕ → ℕ → ℕ → Effect
reduces sp rp x = action (sum sp 4) rp (cell_store DataWrite (sum sp 4) x ∷ []) go_on

abbrev pub pushes : ℕ → ℕ → ℕ → Effect
pushes sp rp x = action (difference sp 4) rp (cell_store DataWrite (difference sp 4) x ∷ []) go_on

-- the items of the stacks, the top one first
module _ (machine : Machine) (m : List ℕ) where
  abbrev pub data1 : ℕ → (ℕ → Effect) → Effect
  data1 sp k = fetched (fetch_of machine DataRead m sp) k

  abbrev pub data2 : ℕ → (ℕ → ℕ → Effect) → Effect
  data2 sp k = data1 sp (λ x2. fetched (fetch_of machine DataRead m (sum sp 4)) (λ x1. k x1 x2))

  abbrev pub data3 : ℕ → (ℕ → ℕ → ℕ → Effect) → Effect
  data3 sp k = data2 sp (λ x2 x3. fetched (fetch_of machine DataRead m (sum sp 8)) (λ x1. k x1 x2 x3))

  abbrev pub return1 : ℕ → (ℕ → Effect) → Effect
  return1 rp k = fetched (fetch_of machine ReturnRead m rp) k

  abbrev pub return2 : ℕ → (ℕ → ℕ → Effect) → Effect
  return2 rp k = return1 rp (λ x2. fetched (fetch_of machine ReturnRead m (sum rp 4)) (λ x1. k x1 x2))

  abbrev pub return3 : ℕ → (ℕ → ℕ → ℕ → Effect) → Effect
  return3 rp k = return2 rp (λ x2 x3. fetched (fetch_of machine ReturnRead m (sum rp 8)) (λ x1. k x1 x2 x3))

  -- two items and the divisor, which is the top one
  abbrev pub divided : ℕ → (ℕ → ℕ → Effect) → Effect
  divided sp k = data2 sp (λ n1 n2. if (eqb n2 0) (raise Divisor) (k n1 n2))

  -- PICK and ROLL reach down by an exact sum, which may pass 2^32: the fault is then -9 and names the sum modulo 2^32
  abbrev pub fetch_deep : ℕ → Fetched
  fetch_deep a = if (ltb a (2 ^ 32)) (fetch_of machine DataRead m a) (Err (Range (address (a % 2 ^ 32))))

-- both results of a division, the remainder below the quotient
abbrev pub divided_both : ℕ → ℕ → Quotient → Effect
divided_both sp rp q =
    action sp rp (cell_store DataWrite (sum sp 4) q.remainder ∷ cell_store DataWrite sp q.quotient ∷ []) go_on

-- the address that SP! or RP! takes has to be aligned, but need not lie in memory
abbrev pub aligned : ℕ → Effect → Effect
aligned x e = if (eqb (x % 4) 0) e (raise (Alignment (address x)))

-- HALT stops with the item that it pops, or with -258 where there is none to pop; SP then stays
abbrev pub halted : ℕ → ℕ → Fetched → Effect
halted sp rp (Ok x) = action (sum sp 4) rp [] (halt x)
halted sp rp (Err f) = action sp rp [] (halt bad_stack)

unfoldable pub plain_of : Machine → Instruction → List ℕ → ℕ → ℕ → ℕ → Effect
-- 01h DUP ( x -- x x )
plain_of machine Dup m ep sp rp = data1 machine m sp (λ x. pushes sp rp x)
-- 02h DROP ( x -- )
plain_of machine Drop m ep sp rp = data1 machine m sp (λ x. action (sum sp 4) rp [] go_on)
-- 03h SWAP ( x1 x2 -- x2 x1 )
plain_of machine Swap m ep sp rp = data2 machine m sp (λ x1 x2. action sp rp (cell_store DataWrite (sum sp 4) x2 ∷ cell_store DataWrite sp x1 ∷ []) go_on)
-- 04h OVER ( x1 x2 -- x1 x2 x1 )
plain_of machine Over m ep sp rp = data2 machine m sp (λ x1 x2. pushes sp rp x1)
-- 05h ROT ( x1 x2 x3 -- x2 x3 x1 )
plain_of machine Rot m ep sp rp =
    data3 machine m sp
    (λ x1 x2 x3. action sp rp (cell_store DataWrite (sum sp 8) x2 ∷ cell_store DataWrite (sum sp 4) x3 ∷ cell_store DataWrite sp x1 ∷ []) go_on)
-- 06h -ROT ( x1 x2 x3 -- x3 x1 x2 )
plain_of machine MinusRot m ep sp rp =
    data3 machine m sp
    (λ x1 x2 x3. action sp rp (cell_store DataWrite (sum sp 8) x3 ∷ cell_store DataWrite (sum sp 4) x1 ∷ cell_store DataWrite sp x2 ∷ []) go_on)
-- 07h TUCK ( x1 x2 -- x2 x1 x2 )
plain_of machine Tuck m ep sp rp =
    data2 machine m sp
    (λ x1 x2.
    action (difference sp 4) rp
    (cell_store DataWrite (sum sp 4) x2 ∷ cell_store DataWrite sp x1 ∷ cell_store DataWrite (difference sp 4) x2 ∷ [])
    go_on)
-- 08h NIP ( x1 x2 -- x2 )
plain_of machine Nip m ep sp rp = data2 machine m sp (λ x1 x2. reduces sp rp x2)
-- 09h PICK ( x_u .. x_0 u -- x_u .. x_0 x_u )
plain_of machine Pick m ep sp rp = data1 machine m sp (λ u. fetched (fetch_deep machine m (sp + 4 + 4 * u)) (λ x. replaces sp rp x))
-- 0Ah ROLL ( x_u .. x_0 u -- x_u-1 .. x_0 x_u )
plain_of machine Roll m ep sp rp =
    data1 machine m sp
    (λ u. fetched (fetch_deep machine m (sp + 4 + 4 * u)) (λ x. action (sum sp 4) rp (rolled machine.order m (sp + 4) u) go_on))
-- 0Bh ?DUP ( x -- 0 | x x )
plain_of machine QuestionDup m ep sp rp = data1 machine m sp (λ x. if (eqb x 0) (action sp rp [] go_on) (pushes sp rp x))
-- 0Ch >R ( x -- ) R: ( -- x )
plain_of machine ToR m ep sp rp =
    data1 machine m sp (λ x. action (sum sp 4) (difference rp 4) (cell_store ReturnWrite (difference rp 4) x ∷ []) go_on)
-- 0Dh R> ( -- x ) R: ( x -- )
plain_of machine RFrom m ep sp rp =
    return1 machine m rp (λ x. action (difference sp 4) (sum rp 4) (cell_store DataWrite (difference sp 4) x ∷ []) go_on)
-- 0Eh R@ ( -- x ) R: ( x -- x )
plain_of machine RFetch m ep sp rp = return1 machine m rp (λ x. pushes sp rp x)
-- 0Fh < ( n1 n2 -- flag )
plain_of machine Less m ep sp rp = data2 machine m sp (λ x1 x2. reduces sp rp (flag (less x1 x2)))
-- 10h > ( n1 n2 -- flag )
plain_of machine Greater m ep sp rp = data2 machine m sp (λ x1 x2. reduces sp rp (flag (less x2 x1)))
-- 11h = ( x1 x2 -- flag )
plain_of machine Equal m ep sp rp = data2 machine m sp (λ x1 x2. reduces sp rp (flag (eqb x1 x2)))
-- 12h <> ( x1 x2 -- flag )
plain_of machine NotEqual m ep sp rp = data2 machine m sp (λ x1 x2. reduces sp rp (flag (not (eqb x1 x2))))
-- 13h 0< ( n -- flag )
plain_of machine ZeroLess m ep sp rp = data1 machine m sp (λ x. replaces sp rp (flag (less x 0)))
-- 14h 0> ( n -- flag )
plain_of machine ZeroGreater m ep sp rp = data1 machine m sp (λ x. replaces sp rp (flag (less 0 x)))
-- 15h 0= ( x -- flag )
plain_of machine ZeroEqual m ep sp rp = data1 machine m sp (λ x. replaces sp rp (flag (eqb x 0)))
-- 16h 0<> ( x -- flag )
plain_of machine ZeroNotEqual m ep sp rp = data1 machine m sp (λ x. replaces sp rp (flag (not (eqb x 0))))
-- 17h U< ( u1 u2 -- flag )
plain_of machine ULess m ep sp rp = data2 machine m sp (λ x1 x2. reduces sp rp (flag (ltb x1 x2)))
-- 18h U> ( u1 u2 -- flag )
plain_of machine UGreater m ep sp rp = data2 machine m sp (λ x1 x2. reduces sp rp (flag (ltb x2 x1)))
-- 19h 0 ( -- 0 )
plain_of machine Zero m ep sp rp = pushes sp rp 0
-- 1Ah 1 ( -- 1 )
plain_of machine One m ep sp rp = pushes sp rp 1
-- 1Bh -1 ( -- -1 )
plain_of machine MinusOne m ep sp rp = pushes sp rp 0xFFFFFFFF
-- 1Ch CELL ( -- 4 )
plain_of machine CellSize m ep sp rp = pushes sp rp 4
-- 1Dh -CELL ( -- -4 )
plain_of machine MinusCell m ep sp rp = pushes sp rp 0xFFFFFFFC
-- 1Eh + ( n1 n2 -- n3 )
plain_of machine Plus m ep sp rp = data2 machine m sp (λ x1 x2. reduces sp rp (sum x1 x2))
-- 1Fh - ( n1 n2 -- n3 )
plain_of machine Minus m ep sp rp = data2 machine m sp (λ x1 x2. reduces sp rp (difference x1 x2))
-- 20h >-< ( n1 n2 -- n3 )
plain_of machine SwapMinus m ep sp rp = data2 machine m sp (λ x1 x2. reduces sp rp (difference x2 x1))
-- 21h 1+ ( n1 -- n2 )
plain_of machine OnePlus m ep sp rp = data1 machine m sp (λ x. replaces sp rp (sum x 1))
-- 22h 1- ( n1 -- n2 )
plain_of machine OneMinus m ep sp rp = data1 machine m sp (λ x. replaces sp rp (difference x 1))
-- 23h CELL+ ( n1 -- n2 )
plain_of machine CellPlus m ep sp rp = data1 machine m sp (λ x. replaces sp rp (sum x 4))
-- 24h CELL- ( n1 -- n2 )
plain_of machine CellMinus m ep sp rp = data1 machine m sp (λ x. replaces sp rp (difference x 4))
-- 25h * ( n1 n2 -- n3 )
plain_of machine Star m ep sp rp = data2 machine m sp (λ x1 x2. reduces sp rp (product x1 x2))
-- 26h / ( n1 n2 -- n3 )
plain_of machine Slash m ep sp rp = divided machine m sp (λ n1 n2. reduces sp rp (floored_of n1 n2).quotient)
-- 27h MOD ( n1 n2 -- n3 )
plain_of machine Mod m ep sp rp = divided machine m sp (λ n1 n2. reduces sp rp (floored_of n1 n2).remainder)
-- 28h /MOD ( n1 n2 -- n3 n4 )
plain_of machine SlashMod m ep sp rp = divided machine m sp (λ n1 n2. divided_both sp rp (floored_of n1 n2))
-- 29h U/MOD ( u1 u2 -- u3 u4 )
plain_of machine USlashMod m ep sp rp = divided machine m sp (λ u1 u2. divided_both sp rp (unsigned_of u1 u2))
-- 2Ah S/REM ( n1 n2 -- n3 n4 )
plain_of machine SSlashRem m ep sp rp = divided machine m sp (λ n1 n2. divided_both sp rp (symmetric_of n1 n2))
-- 2Bh 2/ ( x1 -- x2 )
plain_of machine TwoSlash m ep sp rp = data1 machine m sp (λ x. replaces sp rp (halved x))
-- 2Ch CELLS ( n1 -- n2 )
plain_of machine Cells m ep sp rp = data1 machine m sp (λ x. replaces sp rp (product x 4))
-- 2Dh ABS ( n -- u )
plain_of machine Abs m ep sp rp = data1 machine m sp (λ x. replaces sp rp (magnitude x))
-- 2Eh NEGATE ( n1 -- n2 )
plain_of machine Negate m ep sp rp = data1 machine m sp (λ x. replaces sp rp (negated x))
-- 2Fh MAX ( n1 n2 -- n3 )
plain_of machine Max m ep sp rp = data2 machine m sp (λ x1 x2. reduces sp rp (greater x1 x2))
-- 30h MIN ( n1 n2 -- n3 )
plain_of machine Min m ep sp rp = data2 machine m sp (λ x1 x2. reduces sp rp (lesser x1 x2))
-- 31h INVERT ( x1 -- x2 )
plain_of machine Invert m ep sp rp = data1 machine m sp (λ x. replaces sp rp (inverted x))
-- 32h AND ( x1 x2 -- x3 )
plain_of machine And m ep sp rp = data2 machine m sp (λ x1 x2. reduces sp rp (bit_and x1 x2))
-- 33h OR ( x1 x2 -- x3 )
plain_of machine Or m ep sp rp = data2 machine m sp (λ x1 x2. reduces sp rp (bit_or x1 x2))
-- 34h XOR ( x1 x2 -- x3 )
plain_of machine Xor m ep sp rp = data2 machine m sp (λ x1 x2. reduces sp rp (bit_xor x1 x2))
-- 35h LSHIFT ( x1 u -- x2 )
plain_of machine LShift m ep sp rp = data2 machine m sp (λ x1 x2. reduces sp rp (shifted_left x1 x2))
-- 36h RSHIFT ( x1 u -- x2 )
plain_of machine RShift m ep sp rp = data2 machine m sp (λ x1 x2. reduces sp rp (shifted_right x1 x2))
-- 37h 1LSHIFT ( x1 -- x2 )
plain_of machine OneLShift m ep sp rp = data1 machine m sp (λ x. replaces sp rp (shifted_left x 1))
-- 38h 1RSHIFT ( x1 -- x2 )
plain_of machine OneRShift m ep sp rp = data1 machine m sp (λ x. replaces sp rp (shifted_right x 1))
-- 39h @ ( a-addr -- x )
plain_of machine FetchCell m ep sp rp = data1 machine m sp (λ a. fetched (fetch_of machine NamedRead m a) (λ x. replaces sp rp x))
-- 3Ah ! ( x a-addr -- )
plain_of machine StoreCell m ep sp rp = data2 machine m sp (λ x a. action (sum sp 8) rp (cell_store NamedWrite a x ∷ []) go_on)
-- 3Bh C@ ( c-addr -- char )
plain_of machine CFetch m ep sp rp =
    data1 machine m sp (λ a. fetched (fetch_byte_of machine NamedRead m (byte_address machine.order a)) (λ x. replaces sp rp x))
-- 3Ch C! ( char c-addr -- )
plain_of machine CStore m ep sp rp =
    data2 machine m sp
    (λ x a.
    action (sum sp 8) rp
    (record { width = one_byte; access = NamedWrite; at = byte_address machine.order a; value = byte0 x } ∷ [])
    go_on)
-- 3Dh +! ( n a-addr -- )
plain_of machine PlusStore m ep sp rp =
    data2 machine m sp
    (λ n a. fetched (fetch_of machine NamedRead m a) (λ x. action (sum sp 8) rp (cell_store NamedWrite a (sum x n) ∷ []) go_on))
-- 3Eh SP@ ( -- a-addr )
plain_of machine SpFetch m ep sp rp = pushes sp rp sp
-- 3Fh SP! ( a-addr -- )
plain_of machine SpStore m ep sp rp = data1 machine m sp (λ x. aligned x (action x rp [] go_on))
-- 40h RP@ ( -- a-addr )
plain_of machine RpFetch m ep sp rp = pushes sp rp rp
-- 41h RP! ( a-addr -- )
plain_of machine RpStore m ep sp rp = data1 machine m sp (λ x. aligned x (action (sum sp 4) x [] go_on))
-- 46h EXECUTE ( xt -- ) R: ( -- a-addr )
plain_of machine Execute m ep sp rp =
    data1 machine m sp (λ to. action (sum sp 4) (difference rp 4) (cell_store ReturnWrite (difference rp 4) ep ∷ []) (jump to))
-- 47h @EXECUTE ( a-addr1 -- ) R: ( -- a-addr2 )
plain_of machine FetchExecute m ep sp rp =
    data1 machine m sp
    (λ a.
    fetched (fetch_of machine NamedRead m a)
    (λ to. action (sum sp 4) (difference rp 4) (cell_store ReturnWrite (difference rp 4) ep ∷ []) (jump to)))
-- 4Ah EXIT ( -- ) R: ( a-addr -- )
plain_of machine Exit m ep sp rp = return1 machine m rp (λ to. action sp (sum rp 4) [] (jump to))
-- 4Bh (DO) ( x1 x2 -- ) R: ( -- x1 x2 )
plain_of machine Do m ep sp rp =
    data2 machine m sp
    (λ x1 x2.
    action (sum sp 8) (difference rp 8)
    (cell_store ReturnWrite (difference rp 4) x1 ∷ cell_store ReturnWrite (difference rp 8) x2 ∷ [])
    go_on)
-- 50h UNLOOP R: ( x1 x2 -- )
plain_of machine Unloop m ep sp rp = return2 machine m rp (λ x1 x2. action sp (sum rp 8) [] go_on)
-- 51h J ( -- x1 ) R: ( x1 x2 x3 -- x1 x2 x3 )
plain_of machine J m ep sp rp = return3 machine m rp (λ x1 x2 x3. pushes sp rp x1)
-- 54h THROW ( -- )
plain_of machine Throw m ep sp rp = action sp rp [] throwing
-- 55h HALT ( x -- )
plain_of machine Halt m ep sp rp = halted sp rp (fetch_of machine DataRead m sp)
-- 57h LIB ( n -- )
plain_of machine Lib m ep sp rp = data1 machine m sp (λ n. raise Library)
-- opcodes without an instruction, and (CREATE), OS, LINK, RUN and STEP, which this machine does not have: -256
plain_of machine Illegal m ep sp rp = raise fault.Illegal
-- not of this kind: NEXT, and the instructions that take an operand (specs/Taking.antt)
plain_of machine Next m ep sp rp = raise fault.Illegal
plain_of machine Branch m ep sp rp = raise fault.Illegal
plain_of machine BranchI m ep sp rp = raise fault.Illegal
plain_of machine QuestionBranch m ep sp rp = raise fault.Illegal
plain_of machine QuestionBranchI m ep sp rp = raise fault.Illegal
plain_of machine Call m ep sp rp = raise fault.Illegal
plain_of machine CallI m ep sp rp = raise fault.Illegal
plain_of machine Loop m ep sp rp = raise fault.Illegal
plain_of machine LoopI m ep sp rp = raise fault.Illegal
plain_of machine PlusLoop m ep sp rp = raise fault.Illegal
plain_of machine PlusLoopI m ep sp rp = raise fault.Illegal
plain_of machine Literal m ep sp rp = raise fault.Illegal
plain_of machine LiteralI m ep sp rp = raise fault.Illegal

-- at the registers of a cycle
abbrev pub plain_at : Machine → Instruction → List ℕ → Registers → Effect
plain_at machine i m r = plain_of machine i m r.ep r.sp r.rp

-- the stack pointers alone
abbrev pub moved : ℕ → ℕ → Effect
moved sp rp = action sp rp [] go_on

abbrev pub deep_address : ℕ → ℕ → ℕ
deep_address sp u = sp + 4 + 4 * u
