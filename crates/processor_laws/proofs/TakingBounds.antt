-- The effects of the instructions that take an operand are bounded.
use Rattle.cell.specs.Place.{Fetched}
use mathlib.Core.List.{List}
use Prim.{tt}
use Prim.Native.Nat.{ℕ, ◌+◌, ◌*◌, ◌%◌, ◌^◌, ◌<◌}
use native.Mathlib.Omega.{arith}
use lib.Dec.{eqb}
use Rattle.cell.specs.Memory.{Bytewise}
use Rattle.machine.specs.declared.Machine.{Machine}
use Rattle.machine.specs.declared.Registers.{Registers}
use Rattle.machine.specs.declared.Access.TheVariants.{Stream, DataRead, ReturnRead}
use Rattle.counting.specs.Counting.{loop_ends, plus_ends}
use Rattle.instruction.specs.Taking.{Taking, branch, question_branch, call, loop, plus_loop, literal, taking_of, taking_at, branch_operand, literal_operand, operand_of, after_of}
use Rattle.instruction.specs.declared.OperandForm.{OperandForm}
use Rattle.instruction.specs.declared.OperandForm.TheVariants.{InCell, Immediate}
use Rattle.processor_laws.specs.Soundness.{Sound, Below, Bounded}
use Rattle.processor_laws.proofs.NumberBounds.{sum_below, difference_below}
use Rattle.processor_laws.proofs.EffectBounds.{acting, either, fetched_bounded, fetch_below, read1, read2}

module _ (machine : Machine) (m : List ℕ) (low : Bytewise m) where
  module _ (sp rp : ℕ) (hs : sp < 2 ^ 32) (hr : rp < 2 ^ 32) (operand : Fetched) (after : ℕ) (h : Below operand) where
    pub taking_bounded : (t : Taking) → Bounded (taking_of machine t m sp rp operand after)
    unfolding taking_of
    taking_bounded branch = fetched_bounded operand h (λ to k. acting hs hr tt k)
    taking_bounded question_branch =
        read1 machine m low DataRead sp
        (λ x b. either (eqb x 0) (fetched_bounded operand h (λ to k. acting (sum_below sp 4) hr tt k)) (acting (sum_below sp 4) hr tt tt))
    taking_bounded call = fetched_bounded operand h (λ to k. acting hs (difference_below rp 4) (tt, tt) k)
    taking_bounded loop =
        read2 machine m low ReturnRead rp
        (λ limit index.
        either (loop_ends index limit) (acting hs (sum_below rp 8) tt tt) (fetched_bounded operand h (λ to k. acting hs hr (tt, tt) k)))
    taking_bounded plus_loop =
        read1 machine m low DataRead sp
        (λ n b.
        read2 machine m low ReturnRead rp
        (λ limit index.
        either (plus_ends index limit n) (acting (sum_below sp 4) (sum_below rp 8) tt tt)
        (fetched_bounded operand h (λ to k. acting (sum_below sp 4) hr (tt, tt) k))))
    taking_bounded literal = fetched_bounded operand h (λ x k. acting (difference_below sp 4) hr (tt, tt) tt)

  module _ (ep a : ℕ) (ha : a < 2 ^ 32) where
    branch_below : (form : OperandForm) → Below (branch_operand machine form m ep a)
    branch_below InCell = fetch_below machine m low Stream ep
    branch_below Immediate = let l : (ep + 4 * a) % 2 ^ 32 < 2 ^ 32 = omega arith in l

    literal_below : (form : OperandForm) → Below (literal_operand machine form m ep a)
    literal_below InCell = fetch_below machine m low Stream ep
    literal_below Immediate = ha

    operand_below : (form : OperandForm) (t : Taking) → Below (operand_of machine form t m ep a)
    operand_below form branch = branch_below form
    operand_below form question_branch = branch_below form
    operand_below form call = branch_below form
    operand_below form loop = branch_below form
    operand_below form plus_loop = branch_below form
    operand_below form literal = literal_below form

-- at the registers of a sound machine
pub taking_at_bounded : (machine : Machine) (form : OperandForm) (t : Taking) (m : List ℕ) (r : Registers) → Sound m r
    → Bounded (taking_at machine form t m r)
taking_at_bounded machine form t m r s =
    taking_bounded machine m s.bytes r.sp r.rp s.sp s.rp (operand_of machine form t m r.ep r.a) (after_of form r.ep)
    (operand_below machine m s.bytes r.ep r.a s.a form t)
    t
