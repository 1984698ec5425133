-- Refusals: their numbers, and the first that applies. Document 01, Turned back for the input, Turned back for the state, and
-- the order below them: what a call is lent comes first, then its input, then places, and the room of outputs last. Document 02, (a) and (b): areas
-- come after the byte order, then the table; (l): a short file's -4119 is a part of the input list; (h): -4116 comes after -4110; (d): -4113 comes after
-- every module has passed by itself.
use Rattle.std.specs.Prelude.{◌≡◌, ℕ, ◌-◌, ◌%◌, ◌^◌, ◌≤◌, Bool, not, ◌||◌, List, [], ◌∷◌, Result, Ok, Err, ◌==◌, nat_lt}
use Rattle.cell.specs.Choice.{if}
use Rattle.cell.specs.declared.Refusal.{Refusal}
use Rattle.cell.specs.declared.Refusal.TheVariants.{MemoryLength, ByteOrder, StackAreas, Table, Header, FileLength, Unaligned, Outside, ShortOutput, ItemCount, OperandCount, Kind, PlainOperand, Target, Base, NoListing, ModuleSet}

-- the number of each refusal, as a cell in two's complement
abbrev pub refusal_number : Refusal → ℕ
refusal_number MemoryLength = 2 ^ 32 - 4101
refusal_number ByteOrder = 2 ^ 32 - 4102
refusal_number StackAreas = 2 ^ 32 - 4111
refusal_number Table = 2 ^ 32 - 4112
refusal_number Header = 2 ^ 32 - 2
refusal_number FileLength = 2 ^ 32 - 4103
refusal_number Unaligned = 2 ^ 32 - 4104
refusal_number Outside = 2 ^ 32 - 1
refusal_number ShortOutput = 2 ^ 32 - 4105
refusal_number ItemCount = 2 ^ 32 - 4106
refusal_number OperandCount = 2 ^ 32 - 4119
refusal_number Kind = 2 ^ 32 - 4107
refusal_number PlainOperand = 2 ^ 32 - 4108
refusal_number Target = 2 ^ 32 - 4109
refusal_number Base = 2 ^ 32 - 4110
refusal_number NoListing = 2 ^ 32 - 4116
refusal_number ModuleSet = 2 ^ 32 - 4113

-- the number of an answer: 0, or the refusal's number
abbrev pub answer_number : {A : Type 0} → Result A Refusal → ℕ
answer_number (Ok _) = 0
answer_number (Err r) = refusal_number r

-- a refusal, with whether it applies
pub record Ground : Type 0 where
  pub applies : Bool
  pub refusal : Refusal

-- a judgement: it passes, or it refuses
abbrev pub Judged : Type 0
Judged = Result Unit Refusal

abbrev pub passed : Judged
passed = Ok tt

-- the first that applies
abbrev pub judge : List Ground → Judged
judge [] = passed
judge (g ∷ gs) = if g.applies (Err g.refusal) (judge gs)

-- the second judgement, where the first passes
abbrev pub after : Judged → Judged → Judged
after (Ok _) j = j
after (Err r) j = Err r

-- of judgements in order, the first that refuses
abbrev pub in_order : List Judged → Judged
in_order [] = passed
in_order (j ∷ js) = after j (in_order js)

-- -4101: a memory under 1,024 bytes, over 16,777,216, or not of whole cells
abbrev pub memory_length : ℕ → Ground
memory_length len =
    record { applies = nat_lt len 1024 || (nat_lt 16777216 len || not (len % 4 == 0)); refusal = MemoryLength }

-- -4102: an order that is neither 0 nor 1
abbrev pub byte_order : ℕ → Ground
byte_order order = record { applies = nat_lt 1 order; refusal = ByteOrder }

-- -4104: an address that is no multiple of 4
abbrev pub unaligned : ℕ → Ground
unaligned a = record { applies = not (a % 4 == 0); refusal = Unaligned }

-- what every call on a lent memory judges first
unfoldable pub judge_machine : ℕ → ℕ → Judged
judge_machine len order = judge (memory_length len ∷ byte_order order ∷ [])

-- a memory's length that -4101 does not refuse
pub record Lent (len : ℕ) : Type 0 where
  pub whole : len % 4 ≡ 0
  pub least : 1024 ≤ len
  pub most : len ≤ 16777216

-- neither -4101 nor -4102
pub record GoodMachine (len order : ℕ) : Type 0 where
  pub lent : Lent len
  pub known : order ≤ 1
