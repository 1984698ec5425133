-- The kinds of a listing, document 01, Listings: one literal, five branches, and as plain items all opcodes of the table but NEXT, the
-- immediate ones and those that raise -256.
use Rattle.std.specs.Prelude.{Bool, true, false, ◌||◌, List, [], ◌∷◌, ℕ, leb, eqb}
use Rattle.cell.specs.Choice.{if}
use Rattle.pack_layout.specs.declared.Class.{Class}
pub use Rattle.pack_layout.specs.declared.Class.TheVariants.{Plain as plain, Literal as literal, Branch as branch, NoKind as no_kind}

abbrev pub among : ℕ → List ℕ → Bool
among k [] = false
among k (x ∷ xs) = eqb k x || among k xs

abbrev pub branches : List ℕ
branches = 0x42 ∷ 0x44 ∷ 0x48 ∷ 0x4C ∷ 0x4E ∷ []

-- BRANCHI, ?BRANCHI, CALLI, (LOOP)I, (+LOOP)I, (LITERAL)I
abbrev pub immediates : List ℕ
immediates = 0x43 ∷ 0x45 ∷ 0x49 ∷ 0x4D ∷ 0x4F ∷ 0x53 ∷ []

-- (CREATE), OS, LINK, RUN, STEP
abbrev pub raising : List ℕ
raising = 0x56 ∷ 0x58 ∷ 0x59 ∷ 0x5A ∷ 0x5B ∷ []

-- 00h and FFh are NEXT, and 5Ch to FEh are in no table
abbrev pub outside : ℕ → Bool
outside k = eqb k 0 || leb 0x5C k

unfoldable pub class_of : ℕ → Class
class_of k =
    if (eqb k 0x52) literal
    (if (among k branches) branch (if (outside k || among k immediates || among k raising) no_kind plain))

abbrev pub is_branch : Class → Bool
is_branch plain = false
is_branch literal = false
is_branch branch = true
is_branch no_kind = false
