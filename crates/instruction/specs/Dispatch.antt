-- Opcodes, classes of instructions, and what one instruction does up to its NEXT, throw or stop.
use Rattle.std.specs.Prelude.{List, [], ◌∷◌, ℕ, ◌%◌, ltb, eqb, get_or}
use Rattle.cell.specs.Choice.{if}
use Rattle.machine.specs.Commits.{Stepped, stepped, commit_of}
use Rattle.machine.specs.declared.Machine.{Machine}
use Rattle.machine.specs.declared.Registers.{Registers}
use Rattle.machine.specs.declared.Outcome.TheVariants as outcome
use Rattle.instruction.specs.Plain.{plain_at}
use Rattle.instruction.specs.Taking.{Taking, branch, question_branch, call, loop, plus_loop, literal, taking_at, onward_of}
use Rattle.instruction.specs.declared.OperandForm.{OperandForm}
use Rattle.instruction.specs.declared.OperandForm.TheVariants.{InCell, Immediate}
use Rattle.instruction.specs.declared.Instruction.{Instruction}
use Rattle.instruction.specs.declared.Instruction.TheVariants.{Next, Dup, Drop, Swap, Over, Rot, MinusRot, Tuck, Nip, Pick, Roll, QuestionDup, ToR, RFrom, RFetch, Less, Greater, Equal, NotEqual, ZeroLess, ZeroGreater, ZeroEqual, ZeroNotEqual, ULess, UGreater, Zero, One, MinusOne, CellSize, MinusCell, Plus, Minus, SwapMinus, OnePlus, OneMinus, CellPlus, CellMinus, Star, Slash, Mod, SlashMod, USlashMod, SSlashRem, TwoSlash, Cells, Abs, Negate, Max, Min, Invert, And, Or, Xor, LShift, RShift, OneLShift, OneRShift, FetchCell, StoreCell, CFetch, CStore, PlusStore, SpFetch, SpStore, RpFetch, RpStore, Branch, BranchI, QuestionBranch, QuestionBranchI, Execute, FetchExecute, Call, CallI, Exit, Do, Loop, LoopI, PlusLoop, PlusLoopI, Unloop, J, Literal, LiteralI, Throw, Halt, Lib, Illegal}

-- table 7 of document 001, eight opcodes a line from 00h; 56h is (CREATE)
abbrev pub opcodes : List Instruction
opcodes =
    Next ∷ Dup ∷ Drop ∷ Swap ∷ Over ∷ Rot ∷ MinusRot ∷ Tuck ∷
    Nip ∷ Pick ∷ Roll ∷ QuestionDup ∷ ToR ∷ RFrom ∷ RFetch ∷ Less ∷
    Greater ∷ Equal ∷ NotEqual ∷ ZeroLess ∷ ZeroGreater ∷ ZeroEqual ∷ ZeroNotEqual ∷ ULess ∷
    UGreater ∷ Zero ∷ One ∷ MinusOne ∷ CellSize ∷ MinusCell ∷ Plus ∷ Minus ∷
    SwapMinus ∷ OnePlus ∷ OneMinus ∷ CellPlus ∷ CellMinus ∷ Star ∷ Slash ∷ Mod ∷
    SlashMod ∷ USlashMod ∷ SSlashRem ∷ TwoSlash ∷ Cells ∷ Abs ∷ Negate ∷ Max ∷
    Min ∷ Invert ∷ And ∷ Or ∷ Xor ∷ LShift ∷ RShift ∷ OneLShift ∷
    OneRShift ∷ FetchCell ∷ StoreCell ∷ CFetch ∷ CStore ∷ PlusStore ∷ SpFetch ∷ SpStore ∷
    RpFetch ∷ RpStore ∷ Branch ∷ BranchI ∷ QuestionBranch ∷ QuestionBranchI ∷ Execute ∷ FetchExecute ∷
    Call ∷ CallI ∷ Exit ∷ Do ∷ Loop ∷ LoopI ∷ PlusLoop ∷ PlusLoopI ∷
    Unloop ∷ J ∷ Literal ∷ LiteralI ∷ Throw ∷ Halt ∷ Illegal ∷ Lib ∷
    []

-- document 01, The processor: NEXT has two opcodes, 00h and FFh; 56h and 58h to FEh raise -256
unfoldable pub decode_of : ℕ → Instruction
decode_of opcode = if (eqb opcode 0xFF) Next (get_or opcodes opcode Illegal)

-- NEXT; an instruction that takes no operand from the instruction stream; or one that does, in one of its forms
pub data OperandClass : Type 0 where
  next : OperandClass
  plain : OperandClass
  taking : OperandForm → Taking → OperandClass

abbrev pub operand_class : Instruction → OperandClass
operand_class Next = next
operand_class Dup = plain
operand_class Drop = plain
operand_class Swap = plain
operand_class Over = plain
operand_class Rot = plain
operand_class MinusRot = plain
operand_class Tuck = plain
operand_class Nip = plain
operand_class Pick = plain
operand_class Roll = plain
operand_class QuestionDup = plain
operand_class ToR = plain
operand_class RFrom = plain
operand_class RFetch = plain
operand_class Less = plain
operand_class Greater = plain
operand_class Equal = plain
operand_class NotEqual = plain
operand_class ZeroLess = plain
operand_class ZeroGreater = plain
operand_class ZeroEqual = plain
operand_class ZeroNotEqual = plain
operand_class ULess = plain
operand_class UGreater = plain
operand_class Zero = plain
operand_class One = plain
operand_class MinusOne = plain
operand_class CellSize = plain
operand_class MinusCell = plain
operand_class Plus = plain
operand_class Minus = plain
operand_class SwapMinus = plain
operand_class OnePlus = plain
operand_class OneMinus = plain
operand_class CellPlus = plain
operand_class CellMinus = plain
operand_class Star = plain
operand_class Slash = plain
operand_class Mod = plain
operand_class SlashMod = plain
operand_class USlashMod = plain
operand_class SSlashRem = plain
operand_class TwoSlash = plain
operand_class Cells = plain
operand_class Abs = plain
operand_class Negate = plain
operand_class Max = plain
operand_class Min = plain
operand_class Invert = plain
operand_class And = plain
operand_class Or = plain
operand_class Xor = plain
operand_class LShift = plain
operand_class RShift = plain
operand_class OneLShift = plain
operand_class OneRShift = plain
operand_class FetchCell = plain
operand_class StoreCell = plain
operand_class CFetch = plain
operand_class CStore = plain
operand_class PlusStore = plain
operand_class SpFetch = plain
operand_class SpStore = plain
operand_class RpFetch = plain
operand_class RpStore = plain
operand_class Branch = taking InCell branch
operand_class BranchI = taking Immediate branch
operand_class QuestionBranch = taking InCell question_branch
operand_class QuestionBranchI = taking Immediate question_branch
operand_class Execute = plain
operand_class FetchExecute = plain
operand_class Call = taking InCell call
operand_class CallI = taking Immediate call
operand_class Exit = plain
operand_class Do = plain
operand_class Loop = taking InCell loop
operand_class LoopI = taking Immediate loop
operand_class PlusLoop = taking InCell plus_loop
operand_class PlusLoopI = taking Immediate plus_loop
operand_class Unloop = plain
operand_class J = plain
operand_class Literal = taking InCell literal
operand_class LiteralI = taking Immediate literal
operand_class Throw = plain
operand_class Halt = plain
operand_class Lib = plain
operand_class Illegal = plain

abbrev pub taken : OperandForm → Stepped → Stepped
taken form s = stepped s.memory (onward_of form s.step)

abbrev pub executed : Machine → List ℕ → Registers → Instruction → OperandClass → Stepped
executed machine m r i next = stepped m (record { registers = r; outcome = outcome.Next })
executed machine m r i plain = commit_of machine m r (plain_at machine i m r)
executed machine m r i (taking form t) = taken form (commit_of machine m r (taking_at machine form t m r))

unfoldable pub execute_of : Machine → List ℕ → Registers → Instruction → Stepped
execute_of machine m r i = executed machine m r i (operand_class i)

-- the loops' opcodes, 4Ch to 4Fh: an odd one takes its operand from A; the lower two are (LOOP), the upper two (+LOOP)
abbrev pub form_of : ℕ → OperandForm
form_of opcode = if (eqb (opcode % 2) 0) InCell Immediate

abbrev pub loop_of : ℕ → Taking
loop_of opcode = if (ltb opcode 0x4E) loop plus_loop
