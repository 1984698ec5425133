-- A step of (LOOP) or of (+LOOP), once it is found whether it ends the loop.
use Rattle.std.specs.Prelude.{Bool, [], ◌∷◌, ℕ}
use Rattle.cell.specs.Choice.{if}
use Rattle.cell.specs.Number.{sum}
use Rattle.machine.specs.Effects.{cell_store, go_on, jump, Effect}
use Rattle.machine.specs.declared.Access.TheVariants.{ReturnWrite}
use Rattle.instruction.specs.Plain.{action}

-- next is the index behind the step, to where the loop goes on, sp SP behind it
abbrev pub looped_of : ℕ → ℕ → ℕ → ℕ → Bool → Effect
looped_of sp rp to next ends =
    if ends (action sp (sum rp 8) [] go_on) (action sp rp (cell_store ReturnWrite rp next ∷ []) (jump to))
