-- The instructions that take an operand from the instruction stream, before tables: as in crate `instruction` (Taking), over the reading of that time.
use Rattle.cell.specs.Place.{Fetched}
use Rattle.std.specs.Prelude.{[], ◌∷◌, ℕ, ◌+◌, ◌*◌, ◌%◌, ◌^◌, eqb, Ok}
use Rattle.cell.specs.Choice.{if}
use Rattle.cell.specs.Number.{sum, difference}
use Rattle.machine.specs.Effects.{cell_store, go_on, jump, Effect, fetched}
use Rattle.machine.specs.declared.Registers.{Registers}
use Rattle.machine.specs.declared.Access.TheVariants.{DataRead, ReturnRead, ReturnWrite, Stream}
use Rattle.instruction.specs.Plain.{action, pushes}
use Rattle.counting.specs.Counting.{loop_ends, plus_ends}
use Rattle.instruction.specs.Taking.{Taking, branch, question_branch, call, loop, plus_loop, literal, after_of}
use Rattle.instruction.specs.declared.OperandForm.{OperandForm}
use Rattle.instruction.specs.declared.OperandForm.TheVariants.{InCell, Immediate}
use Rattle.before_tables.specs.Places.{Reading}
use Rattle.before_tables.specs.Plain.{items1, items2}

module _ (reads : Reading) where
  module _ (sp rp : ℕ) (operand : Fetched) (after : ℕ) where
    unfoldable pub taking_before : Taking → Effect
    taking_before branch = fetched operand (λ to. action sp rp [] (jump to))
    taking_before question_branch =
        items1 reads DataRead sp
        (λ x. if (eqb x 0) (fetched operand (λ to. action (sum sp 4) rp [] (jump to))) (action (sum sp 4) rp [] go_on))
    taking_before call =
        fetched operand (λ to. action sp (difference rp 4) (cell_store ReturnWrite (difference rp 4) after ∷ []) (jump to))
    taking_before loop =
        items2 reads ReturnRead rp
        (λ limit index.
        if (loop_ends index limit) (action sp (sum rp 8) [] go_on)
        (fetched operand (λ to. action sp rp (cell_store ReturnWrite rp (sum index 1) ∷ []) (jump to))))
    taking_before plus_loop =
        items1 reads DataRead sp
        (λ n.
        items2 reads ReturnRead rp
        (λ limit index.
        if (plus_ends index limit n) (action (sum sp 4) (sum rp 8) [] go_on)
        (fetched operand (λ to. action (sum sp 4) rp (cell_store ReturnWrite rp (sum index n) ∷ []) (jump to)))))
    taking_before literal = fetched operand (λ x. pushes sp rp x)

  -- the cell at EP, or what the rest of A comes to
  abbrev pub operand_in : OperandForm → ℕ → ℕ → Fetched
  operand_in InCell ep x = reads.cell Stream ep
  operand_in Immediate ep x = Ok x

  -- where a branch leads; a literal's value
  abbrev pub operand_before : OperandForm → Taking → ℕ → ℕ → Fetched
  operand_before form branch ep a = operand_in form ep ((ep + 4 * a) % 2 ^ 32)
  operand_before form question_branch ep a = operand_in form ep ((ep + 4 * a) % 2 ^ 32)
  operand_before form call ep a = operand_in form ep ((ep + 4 * a) % 2 ^ 32)
  operand_before form loop ep a = operand_in form ep ((ep + 4 * a) % 2 ^ 32)
  operand_before form plus_loop ep a = operand_in form ep ((ep + 4 * a) % 2 ^ 32)
  operand_before form literal ep a = operand_in form ep a

  -- at the registers of a cycle, A shifted
  abbrev pub taking_at_before : OperandForm → Taking → Registers → Effect
  taking_at_before form t r =
      taking_before r.sp r.rp (operand_before form t r.ep r.a) (after_of form r.ep) t
