-- The kinds of a listing as the processor decodes them: a plain kind is a plain instruction; a literal or a branch takes its operand, in its operand
-- cell under its own opcode and from A under the next.
use mathlib.Core.Path.{◌≡◌, refl, ◌∙◌, ap}
use mathlib.Core.Bool.{Bool, true, false, not, ◌&&◌, ◌||◌, false≢true}
use Prim.Native.Nat.{ℕ, zero, suc, ◌+◌, ◌<◌}
use native.Mathlib.Decide.{dec_lt}
use native.Mathlib.Omega.{arith}
use Rattle.instruction.specs.Taking.{Taking, branch, question_branch, call, loop, plus_loop, literal}
use Rattle.instruction.specs.declared.OperandForm.TheVariants.{InCell, Immediate}
use Rattle.instruction.specs.Dispatch.{decode_of, OperandClass, next, plain, taking, operand_class}
use Rattle.pack_layout.specs.Kinds as kinds
use Rattle.pack_layout.specs.declared.Class as kind
use Rattle.pack_layout.specs.declared.Class.TheVariants.{Plain, Literal, Branch, NoKind}
use Rattle.pack_layout.proofs.KindLaws.{literal_is, branch_among, AllOf, one_among}
use Rattle.pack_layout.proofs.Listing.{kind_low}

-- whether an operand is an address that a branch leads to
abbrev pub leads : Taking → Bool
leads branch = true
leads question_branch = true
leads call = true
leads loop = true
leads plus_loop = true
leads literal = false

-- the opcode k and the next one are the two forms of one instruction
pub record Taken (k : ℕ) : Type 0 where
  pub what : Taking
  pub in_cell : operand_class (decode_of k) ≡ taking InCell what
  pub immediate : operand_class (decode_of (k + 1)) ≡ taking Immediate what

-- literals
pub literal_taken : (k : ℕ) → kinds.class_of k ≡ Literal → (t : Taken k) × (leads t.what ≡ false)
unfolding decode_of
literal_taken k e =
    rw (literal_is k e) (record { what = literal; in_cell = refl; immediate = refl }, refl)

-- branches
abbrev Branches : ℕ → Type 0
Branches k = (t : Taken k) × (leads t.what ≡ true)

five : AllOf Branches kinds.branches
unfolding decode_of
five = (
  (record { what = branch; in_cell = refl; immediate = refl }, refl),
  (
    (record { what = question_branch; in_cell = refl; immediate = refl }, refl),
    (
      (record { what = call; in_cell = refl; immediate = refl }, refl),
      (
        (record { what = loop; in_cell = refl; immediate = refl }, refl),
        ((record { what = plus_loop; in_cell = refl; immediate = refl }, refl), tt),
      ),
    ),
  ),
)

pub branch_taken : (k : ℕ) → kinds.class_of k ≡ Branch → (t : Taken k) × (leads t.what ≡ true)
branch_taken k e = one_among Branches kinds.branches five k (branch_among k e)

-- plain kinds: a test computed for every number below 5Ch
abbrev is_plain_kind : kind.Class → Bool
is_plain_kind Plain = true
is_plain_kind Literal = false
is_plain_kind Branch = false
is_plain_kind NoKind = false

abbrev is_plain : OperandClass → Bool
is_plain next = false
is_plain plain = true
is_plain (taking form t) = false

plain_of : (c : OperandClass) → is_plain c ≡ true → c ≡ plain
plain_of next e = absurd (false≢true e)
plain_of plain e = refl
plain_of (taking form t) e = absurd (false≢true e)

abbrev decodes_plain : ℕ → Bool
decodes_plain k = not (is_plain_kind (kinds.class_of k)) || is_plain (operand_class (decode_of k))

unfoldable all : (ℕ → Bool) → ℕ → Bool
all p zero = true
all p (suc n) = p n && all p n

all_at : (p : ℕ → Bool) (n k : ℕ) → all p n ≡ true → k < n → p k ≡ true
unfolding all
all_at p zero k e h = absurd (omega arith)
all_at p (suc n) k e h = go (p n) refl (dec_lt k n) e (λ q c. all_at p n k q c)
  where
    go : (b : Bool) → p n ≡ b → Dec (k < n) → (b && all p n) ≡ true → (all p n ≡ true → k < n → p k ≡ true) → p k ≡ true
    go false q d e f = absurd (false≢true e)
    go true q (yes c) e f = f e c
    go true q (no c) e f = ap p (let t : k ≡ n = omega arith in t) ∙ q

computed : all decodes_plain 0x5C ≡ true
unfolding all kinds.class_of decode_of
computed = refl

pub plain_decodes : (k : ℕ) → kinds.class_of k ≡ Plain → operand_class (decode_of k) ≡ plain
plain_decodes k e =
    plain_of (operand_class (decode_of k)) (go (kinds.class_of k) e (all_at decodes_plain 0x5C k computed (kind_low k (λ (q : kinds.class_of k ≡ NoKind).
    let z : ◌≡◌ {A = ℕ} 0 1 = cc in omega arith))))
  where
    go : (c : kind.Class) → c ≡ Plain → (not (is_plain_kind c) || is_plain (operand_class (decode_of k))) ≡ true → is_plain (operand_class (decode_of k)) ≡ true
    go Plain q h = h
    go Literal q h = cc
    go Branch q h = cc
    go NoKind q h = cc
