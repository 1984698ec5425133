-- The kinds of a listing, as opcodes: a plain kind is a plain instruction; the others take an operand.
use mathlib.Core.Path.{◌≡◌}
use Prim.{tt}
use Prim.Native.Nat.{ℕ, zero, suc, ◌+◌, ◌*◌, ◌%◌, ◌^◌, ◌≤◌}
use native.Mathlib.Omega.{arith}
use Rattle.machine.specs.declared.Machine.{Machine}
use Rattle.machine.specs.declared.Registers.{Registers}
use Rattle.instruction.specs.Plain.{plain_at}
use Rattle.instruction.specs.Taking.{taking_at}
use Rattle.instruction.specs.declared.OperandForm.TheVariants as form
use Rattle.instruction.specs.Dispatch.{decode_of, operand_class}
use Rattle.pack_layout.specs.Kinds.{branches}
use Rattle.pack_layout.specs.Kinds as kinds
use Rattle.pack_layout.specs.declared.Class.TheVariants as class
use Rattle.pack_layout.specs.Listing.{Listing}
use Rattle.pack_layout.specs.Packing.{distance, address_of, behind}
use Rattle.pack_layout.proofs.KindLaws.{literal_is, branch_among, one_among}
use Rattle.list_machine.specs.ListMachine.{Position, effect_as, effect_at, registers_at}
use Rattle.list_machine.proofs.Opcodes.{plain_decodes}
use Rattle.list_shapes.specs.Shapes.{taking_kind}

-- 00h is no kind
pub plain_some : (k : ℕ) → kinds.class_of k ≡ class.Plain → 1 ≤ k
unfolding kinds.class_of
plain_some zero q = absurd (let z : ◌≡◌ {A = ℕ} 0 1 = cc in omega arith)
plain_some (suc k) q = omega arith

-- the effect of an item, by its kind k: r are the registers of the code
module _ (machine : Machine) (base : ℕ) (l : Listing) (p : Position) where
  pub plain_effect : (r : Registers) → r ≡ registers_at machine base l p → kinds.class_of (l.kind p.item) ≡ class.Plain
      → plain_at machine (decode_of (l.kind p.item)) p.memory r ≡ effect_at machine base l p
  plain_effect r e q = rw (e, plain_decodes (l.kind p.item) q)

  module _ (r : Registers) (sp : r.sp ≡ p.sp) (rp : r.rp ≡ p.rp) (ep : r.ep ≡ behind base l p.item) where
    pub literal_effect : (k : ℕ) → kinds.class_of k ≡ class.Literal → r.a ≡ l.operand p.item
        → taking_at machine form.Immediate (taking_kind k) p.memory r ≡ effect_as machine base l (operand_class (decode_of k)) p
    unfolding decode_of
    literal_effect k q e = rw (literal_is k q, e, sp, rp, ep)

    pub branch_effect : (k : ℕ) → kinds.class_of k ≡ class.Branch → (r.ep + 4 * r.a) % 2 ^ 32 ≡ address_of base l (l.operand p.item)
        → taking_at machine form.Immediate (taking_kind k) p.memory r ≡ effect_as machine base l (operand_class (decode_of k)) p
    unfolding decode_of
    branch_effect k q e =
        one_among (λ k. taking_at machine form.Immediate (taking_kind k) p.memory r ≡ effect_as machine base l (operand_class (decode_of k)) p) branches
        (rw (e, sp, rp, ep), (rw (e, sp, rp, ep), (rw (e, sp, rp, ep), (rw (e, sp, rp, ep), (rw (e, sp, rp, ep), tt)))))
        k (branch_among k q)

-- a target is reached from behind its branch
pub lands : (base n at : ℕ) → base ≤ 16777216 → n ≤ 8192 → at ≤ 8192 → (base + 4 * n + 4 * distance n at) % 2 ^ 32 ≡ base + 4 * at
lands base n at a b c = omega arith
