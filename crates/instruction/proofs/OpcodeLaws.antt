-- The opcodes that raise -256, the loops' opcodes, and a number past an arm.
use mathlib.Core.Path.{◌≡◌}
use Prim.Native.Nat.{ℕ, suc, ◌/◌, ◌<◌, ◌≤◌}
use native.Mathlib.Decide.{dec_le, dec_lt}
use native.Mathlib.Omega.{arith}
use borrow.Author.Tests.{ne_eqb}
use lib.ListN.{get_or-eq_default}
use Rattle.instruction.specs.declared.Instruction.TheVariants.{Illegal}
use Rattle.instruction.specs.Dispatch.{opcodes, decode_of, taking, operand_class, form_of, loop_of}

-- 56h, and 58h up but for FFh
pub record Unused (n : ℕ) : Type 0 where
  pub above : 0x55 < n
  pub library : n ≡ 0x57 → ⊥
  pub last : n ≡ 0xFF → ⊥

pub illegal_is : (n : ℕ) → Unused n → decode_of n ≡ Illegal
unfolding decode_of
illegal_is n u = go (dec_le 0x58 n)
  where
    go : Dec (0x58 ≤ n) → decode_of n ≡ Illegal
    go (yes h) = simp (ne_eqb _ _ u.last) (get_or-eq_default opcodes Illegal h)
    go (no h) = let e : n ≡ 0x56 = omega (arith, u.above, u.library) in rw e

-- a number that is at least k and not k
pub past : {n : ℕ} (k : ℕ) → k ≤ n → (n ≡ k → ⊥) → suc k ≤ n
past k h e = omega arith

-- 4Ch to 4Fh
pub loop_is : (n : ℕ) → n / 4 ≡ 0x13 → operand_class (decode_of n) ≡ taking (form_of n) (loop_of n)
unfolding decode_of
loop_is n h = go (dec_lt n 0x4D) (dec_lt n 0x4E) (dec_lt n 0x4F)
  where
    go : Dec (n < 0x4D) → Dec (n < 0x4E) → Dec (n < 0x4F) → operand_class (decode_of n) ≡ taking (form_of n) (loop_of n)
    go (yes a) b d = let e : n ≡ 0x4C = omega arith in rw e
    go (no a) (yes b) d = let e : n ≡ 0x4D = omega arith in rw e
    go (no a) (no b) (yes d) = let e : n ≡ 0x4E = omega arith in rw e
    go (no a) (no b) (no d) = let e : n ≡ 0x4F = omega arith in rw e

pub loop_quarter : {n : ℕ} → 0x4C ≤ n → n < 0x50 → n / 4 ≡ 0x13
loop_quarter h l = omega arith
