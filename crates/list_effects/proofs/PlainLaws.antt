-- The opcodes from 42h on that are no plain instruction of their own raise -256 where they are asked for as one.
use mathlib.Core.Path.{◌≡◌, refl}
use mathlib.Core.Bool.{Bool, true, false}
use mathlib.Core.List.{List}
use Prim.Native.Nat.{ℕ, suc, ◌≤◌}
use borrow.Author.Tests.{eqb-true, eqb-false}
use lib.Dec.{eqb}
use lib.ListN.{get_or-eq_default}
use Rattle.cell.specs.Choice.{if}
use Rattle.cell.specs.declared.Fault.TheVariants as fault
use Rattle.machine.specs.Effects.{raise}
use Rattle.machine.specs.declared.Machine.{Machine}
use Rattle.instruction.specs.Plain.{plain_of}
use Rattle.instruction.specs.declared.Instruction.TheVariants.{Next, Illegal}
use Rattle.instruction.specs.Dispatch.{opcodes, decode_of}
use Rattle.instruction.proofs.OpcodeLaws.{past}

-- a number from 42h on that is none of the arms of the code
pub record Rest (n : ℕ) : Type 0 where
  pub from : 0x42 ≤ n
  pub n46 : n ≡ 0x46 → ⊥
  pub n47 : n ≡ 0x47 → ⊥
  pub n4A : n ≡ 0x4A → ⊥
  pub n4B : n ≡ 0x4B → ⊥
  pub n50 : n ≡ 0x50 → ⊥
  pub n51 : n ≡ 0x51 → ⊥
  pub n54 : n ≡ 0x54 → ⊥
  pub n55 : n ≡ 0x55 → ⊥
  pub n57 : n ≡ 0x57 → ⊥

module _ (machine : Machine) (m : List ℕ) (ep sp rp : ℕ) where
  abbrev Raises : ℕ → Type 0
  Raises n = plain_of machine (decode_of n) m ep sp rp ≡ raise fault.Illegal

  -- n is k, or lies above it
  one : (n k : ℕ) → k ≤ n → Raises k → (suc k ≤ n → Raises n) → Raises n
  one n k l h f = go (eqb n k) refl
    where
      go : (b : Bool) → eqb n k ≡ b → Raises n
      go true q = rw (eqb-true n k q) h
      go false q = f (past k l (eqb-false n k q))

  beyond : (n : ℕ) → 0x58 ≤ n → Raises n
  unfolding plain_of decode_of
  beyond n h = rw (get_or-eq_default opcodes Illegal h) (go (eqb n 0xFF))
    where
      go : (b : Bool) → plain_of machine (if b Next Illegal) m ep sp rp ≡ raise fault.Illegal
      go true = refl
      go false = refl

  pub rest_raises : (n : ℕ) → Rest n → Raises n
  unfolding plain_of decode_of
  rest_raises n r =
      one n 0x42 r.from refl (λ a. one n 0x43 a refl (λ b. one n 0x44 b refl (λ c. one n 0x45 c refl (λ d.
      one n 0x48 (past 0x47 (past 0x46 d r.n46) r.n47) refl (λ e. one n 0x49 e refl (λ f.
      one n 0x4C (past 0x4B (past 0x4A f r.n4A) r.n4B) refl (λ g. one n 0x4D g refl (λ h. one n 0x4E h refl (λ i. one n 0x4F i refl (λ j.
      one n 0x52 (past 0x51 (past 0x50 j r.n50) r.n51) refl (λ k. one n 0x53 k refl (λ l.
      one n 0x56 (past 0x55 (past 0x54 l r.n54) r.n55) refl (λ o. beyond n (past 0x57 o r.n57))))))))))))))
