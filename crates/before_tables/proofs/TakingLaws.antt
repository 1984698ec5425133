-- The instructions that take an operand ask for what they asked for, where what they read is the same.
use Rattle.cell.specs.Place.{Fetched}
use mathlib.Core.Path.{refl}
use mathlib.Core.List.{List}
use Prim.Native.Nat.{ℕ}
use lib.Dec.{eqb}
use Rattle.cell.specs.declared.Fault.{Fault}
use Rattle.machine.specs.declared.Machine.{Machine}
use Rattle.machine.specs.declared.Registers.{Registers}
use Rattle.machine.specs.declared.Access.TheVariants.{Stream, DataRead, ReturnRead}
use Rattle.machine.specs.declared.Exception.{Exception}
use Rattle.counting.specs.Counting.{loop_ends, plus_ends}
use Rattle.instruction.specs.Taking.{Taking, branch, question_branch, call, loop, plus_loop, literal, taking_of, taking_at, operand_of, after_of}
use Rattle.instruction.specs.declared.OperandForm.{OperandForm}
use Rattle.instruction.specs.declared.OperandForm.TheVariants.{InCell, Immediate}
use Rattle.before_tables.specs.Places.{Reading}
use Rattle.before_tables.specs.Taking.{taking_before, operand_before, taking_at_before}
use Rattle.before_tables.proofs.EffectLaws.{Fetches, cell, all_named, Asks, acts, Alike, either, binds}
use Rattle.before_tables.proofs.PlainLaws.{read1, read2}

module _ {machine : Machine} {before : Fault → Exception} {m : List ℕ} {r : Reading} (w : Alike machine before m r) where
  module _ (sp rp after : ℕ) {g h : Fetched} (operand : Fetches machine before g h) where
    pub same_taking : (t : Taking)
        → Asks machine before (taking_of machine t m sp rp g after) (taking_before r sp rp h after t)
    unfolding taking_of taking_before all_named
    same_taking branch = binds operand (λ to. acts refl)
    same_taking question_branch =
        read1 w DataRead sp (λ x. either (eqb x 0) (binds operand (λ to. acts refl)) (acts refl))
    same_taking call = binds operand (λ to. acts refl)
    same_taking loop =
        read2 w ReturnRead rp (λ limit index. either (loop_ends index limit) (acts refl) (binds operand (λ to. acts refl)))
    same_taking plus_loop =
        read1 w DataRead sp
        (λ n. read2 w ReturnRead rp (λ limit index. either (plus_ends index limit n) (acts refl) (binds operand (λ to. acts refl))))
    same_taking literal = binds operand (λ x. acts refl)

  same_operand : (form : OperandForm) (t : Taking) (ep a : ℕ)
      → Fetches machine before (operand_of machine form t m ep a) (operand_before r form t ep a)
  same_operand InCell branch ep a = w.cells Stream ep
  same_operand InCell question_branch ep a = w.cells Stream ep
  same_operand InCell call ep a = w.cells Stream ep
  same_operand InCell loop ep a = w.cells Stream ep
  same_operand InCell plus_loop ep a = w.cells Stream ep
  same_operand InCell literal ep a = w.cells Stream ep
  same_operand Immediate branch ep a = cell
  same_operand Immediate question_branch ep a = cell
  same_operand Immediate call ep a = cell
  same_operand Immediate loop ep a = cell
  same_operand Immediate plus_loop ep a = cell
  same_operand Immediate literal ep a = cell

  -- at the registers of a cycle
  pub same_taking_at : (form : OperandForm) (t : Taking) (q : Registers)
      → Asks machine before (taking_at machine form t m q) (taking_at_before r form t q)
  same_taking_at form t q = same_taking q.sp q.rp (after_of form q.ep) (same_operand form t q.ep q.a) t
