-- What is read of an item's opcode: its form and its kind.
-- Assumes nothing.
use mathlib.Core.Path.{◌≡◌, refl, ap}
use mathlib.Core.Bool.{Bool, true, false, ◌||◌}
use Prim.Native.Nat.{ℕ, zero, suc, ◌+◌}
use native.Mathlib.Omega.{arith}
use lib.Dec.{eqb}
use Rattle.cell.specs.Choice.{if}
use Rattle.cell.proofs.BooleanLaws.{neither}
use Rattle.pack_layout.specs.declared.Class.{Class}
use Rattle.pack_layout.specs.declared.ItemForm.{ItemForm}
use Rattle.pack_layout.specs.Kinds.{class_of, among, branches, immediates, outside, raising, plain, literal, branch, no_kind}
use Rattle.pack_layout.specs.Layout.{alone, immediate, in_cell}
use Rattle.pack_layout.specs.Image.{byte_of}
use Rattle.pack_layout.specs.Packing.{taking, form_of}
use Rattle.pack_layout.specs.Reading.{form_in, form_read, kind_read}
use Rattle.pack_layout.proofs.KindLaws.{literal_is, branch_among, one_among}

picked_plain : (a b c : Bool) → if a literal (if b branch (if c no_kind plain)) ≡ plain → c ≡ false
picked_plain true b c e = cc
picked_plain false true c e = cc
picked_plain false false true e = cc
picked_plain false false false e = refl

-- a plain kind is no immediate opcode
plain_not : (k : ℕ) → class_of k ≡ plain → among k immediates ≡ false
unfolding class_of
plain_not k e =
    let p = picked_plain (eqb k 0x52) (among k branches) (outside k || among k immediates || among k raising) e in
    (neither (outside k) (among k immediates) (neither (outside k || among k immediates) (among k raising) p).0).1

pub record Opcode (g : ItemForm) (k : ℕ) : Type 0 where
  pub form : form_read (byte_of g k) ≡ g
  pub kind : kind_read (form_read (byte_of g k)) (byte_of g k) ≡ k

-- a kind of two forms, by its number and the next
abbrev Both : ℕ → Type 0
Both k = Opcode immediate k × Opcode in_cell k

both_of : (k : ℕ) → among (k + 1) immediates ≡ true → among k immediates ≡ false → form_in (class_of k) ≡ in_cell → Both k
both_of k a b c =
    let p : form_read (k + 1) ≡ immediate = rw a in
    let q : form_read k ≡ in_cell = rw (b, c) in
    (record { form = p; kind = rw p (omega arith) }, record { form = q; kind = rw q })

literal_both : (k : ℕ) → class_of k ≡ literal → Both k
unfolding class_of
literal_both k e = rw (literal_is k e) (both_of 0x52 refl refl refl)

branch_both : (k : ℕ) → class_of k ≡ branch → Both k
unfolding class_of
branch_both k e =
    one_among Both branches
    (both_of 0x42 refl refl refl, (both_of 0x44 refl refl refl, (both_of 0x48 refl refl refl, (both_of 0x4C refl refl refl, (both_of 0x4E refl refl refl, tt)))))
    k (branch_among k e)

taking_read : (k : ℕ) (m : Bool) (f : ℕ) → Both k → Opcode (taking m f) k
taking_read k m zero b = b.1
taking_read k true (suc f) b = b.1
taking_read k false (suc f) b = b.0

-- the opcode of an item of class c in its form
pub opcode_read_lem : (k : ℕ) (c : Class) (m : Bool) (x f : ℕ) → class_of k ≡ c → (c ≡ no_kind → ⊥) → Opcode (form_of c m x f) k
opcode_read_lem k plain m x f e h =
    let p : form_read k ≡ alone = rw (plain_not k e, e) in
    record { form = p; kind = rw p }
opcode_read_lem k literal m x f e h = taking_read k _ f (literal_both k e)
opcode_read_lem k branch m x f e h = taking_read k m f (branch_both k e)
opcode_read_lem k no_kind m x f e h = absurd (h refl)

-- no opcode is 0
pub opcode_some : (g : ItemForm) (k : ℕ) → (class_of k ≡ no_kind → ⊥) → byte_of g k ≡ 0 → ⊥
unfolding class_of
opcode_some alone k h e = h (ap class_of e)
opcode_some immediate k h e = omega arith
opcode_some in_cell k h e = h (ap class_of e)
