-- The operands of a short listing file. Document 02, (l): literals and branches have one each, in item order; no other item has.
use Rattle.std.specs.Prelude.{Bool, true, false, List, [], ◌++◌, ℕ, zero, suc, ◌+◌}
use Rattle.pack_layout.specs.declared.Class.{Class}
use Rattle.pack_layout.specs.declared.Class.TheVariants.{Plain, Literal, Branch, NoKind}
use Rattle.pack_layout.specs.Flags.{bit}
use Rattle.pack_layout.specs.Kinds.{class_of}

-- a byte that is no kind counts for no operand
abbrev pub has_operand : Class → Bool
has_operand Plain = false
has_operand Literal = true
has_operand Branch = true
has_operand NoKind = false

-- the operands of the items in front of item i
unfoldable pub operands_before : (ℕ → ℕ) → ℕ → ℕ
operands_before kind zero = 0
operands_before kind (suc i) = operands_before kind i + bit (has_operand (class_of (kind i)))

-- what each of the first n items gives, in turn
unfoldable pub in_turn : (ℕ → List ℕ) → ℕ → List ℕ
in_turn f zero = []
in_turn f (suc i) = in_turn f i ++ f i
