-- The instructions that take an operand from the instruction stream, each in two forms: the operand in the cell at EP, or in what is left of A.
-- For a branch the operand is the address it leads to; for a literal its value. The operand is given as the answer of a fetch.
use Rattle.cell.specs.Place.{Fetched}
use Rattle.std.specs.Prelude.{List, [], ◌∷◌, ℕ, ◌+◌, ◌*◌, ◌%◌, ◌^◌, eqb, Ok}
use Rattle.cell.specs.Choice.{if}
use Rattle.cell.specs.Number.{sum, difference}
use Rattle.machine.specs.Places.{fetch_of}
use Rattle.machine.specs.Effects.{cell_store, go_on, jump, Effect, fetched}
use Rattle.machine.specs.declared.Machine.{Machine}
use Rattle.machine.specs.declared.Registers.{Registers}
use Rattle.machine.specs.declared.Step.{Step}
use Rattle.machine.specs.declared.Outcome.{Outcome}
use Rattle.machine.specs.declared.Outcome.TheVariants.{Went, Next, Raise, Halt, Throw}
use Rattle.machine.specs.declared.Access.TheVariants.{Stream, ReturnWrite}
use Rattle.instruction.specs.Plain.{action, pushes, data1, return2}
use Rattle.counting.specs.Counting.{loop_ends, plus_ends}
use Rattle.instruction.specs.declared.OperandForm.{OperandForm}
use Rattle.instruction.specs.declared.OperandForm.TheVariants.{InCell, Immediate}

pub data Taking : Type 0 where
  branch question_branch call loop plus_loop literal : Taking

unfoldable pub taking_of : Machine → Taking → List ℕ → ℕ → ℕ → Fetched → ℕ → Effect
-- 42h BRANCH ( -- )
taking_of machine branch m sp rp operand after = fetched operand (λ to. action sp rp [] (jump to))
-- 44h ?BRANCH ( flag -- ): taken where the flag is 0
taking_of machine question_branch m sp rp operand after =
    data1 machine m sp
    (λ x. if (eqb x 0) (fetched operand (λ to. action (sum sp 4) rp [] (jump to))) (action (sum sp 4) rp [] go_on))
-- 48h CALL ( -- ) R: ( -- a-addr )
taking_of machine call m sp rp operand after =
    fetched operand (λ to. action sp (difference rp 4) (cell_store ReturnWrite (difference rp 4) after ∷ []) (jump to))
-- 4Ch (LOOP) R: ( n1 n2 -- | n1 n3 ): the index grows by 1, and at the limit the loop is over
taking_of machine loop m sp rp operand after =
    return2 machine m rp
    (λ limit index.
    if (loop_ends index limit) (action sp (sum rp 8) [] go_on)
    (fetched operand (λ to. action sp rp (cell_store ReturnWrite rp (sum index 1) ∷ []) (jump to))))
-- 4Eh (+LOOP) ( n -- ) R: ( n2 n3 -- | n2 n4 ): the index grows by n, unless the loop is over
taking_of machine plus_loop m sp rp operand after =
    data1 machine m sp
    (λ n.
    return2 machine m rp
    (λ limit index.
    if (plus_ends index limit n) (action (sum sp 4) (sum rp 8) [] go_on)
    (fetched operand (λ to. action (sum sp 4) rp (cell_store ReturnWrite rp (sum index n) ∷ []) (jump to)))))
-- 52h (LITERAL) ( -- x )
taking_of machine literal m sp rp operand after = fetched operand (λ x. pushes sp rp x)

-- where a branch leads: the cell at EP, or EP + 4 A
abbrev pub branch_operand : Machine → OperandForm → List ℕ → ℕ → ℕ → Fetched
branch_operand machine InCell m ep a = fetch_of machine Stream m ep
branch_operand machine Immediate m ep a = Ok ((ep + 4 * a) % 2 ^ 32)

-- a literal's value: the cell at EP, or A
abbrev pub literal_operand : Machine → OperandForm → List ℕ → ℕ → ℕ → Fetched
literal_operand machine InCell m ep a = fetch_of machine Stream m ep
literal_operand machine Immediate m ep a = Ok a

abbrev pub operand_of : Machine → OperandForm → Taking → List ℕ → ℕ → ℕ → Fetched
operand_of machine form branch m ep a = branch_operand machine form m ep a
operand_of machine form question_branch m ep a = branch_operand machine form m ep a
operand_of machine form call m ep a = branch_operand machine form m ep a
operand_of machine form loop m ep a = branch_operand machine form m ep a
operand_of machine form plus_loop m ep a = branch_operand machine form m ep a
operand_of machine form literal m ep a = literal_operand machine form m ep a

-- the address that a call leaves
abbrev pub after_of : OperandForm → ℕ → ℕ
after_of InCell ep = sum ep 4
after_of Immediate ep = ep

-- at the registers of a cycle, A shifted
abbrev pub taking_at : Machine → OperandForm → Taking → List ℕ → Registers → Effect
taking_at machine form t m r =
    taking_of machine t m r.sp r.rp (operand_of machine form t m r.ep r.a) (after_of form r.ep)

-- where nothing was taken: past the operand cell; or NEXT, since the rest of A was the operand
abbrev pub passed : OperandForm → Registers → Step
passed InCell r = record { registers = record { ep = sum r.ep 4; a = r.a; sp = r.sp; rp = r.rp }; outcome = Went }
passed Immediate r = record { registers = r; outcome = Next }

abbrev pub onward : OperandForm → Step → Outcome → Step
onward form s Went = passed form s.registers
onward form s Next = s
onward form s (Raise f) = s
onward form s (Halt x) = s
onward form s Throw = s

abbrev pub onward_of : OperandForm → Step → Step
onward_of form s = onward form s s.outcome
