-- `execute_from_42` meets its contract: what is left when every arm is passed raises -256.
use native.Mathlib.Omega.{arith}
use Prim.Native.Nat.{◌≤◌, ◌<◌}
use Rattle.machine.specs.Commits as commits
use Rattle.instruction.specs.Plain as plain
use Rattle.instruction.specs.Dispatch as dispatch
use Rattle.instruction.proofs.OpcodeLaws.{illegal_is}
use Rattle.dispatch_42.proofs.from_42.execute_from_42.Goals as goal
use Rattle.dispatch_42.proofs.from_42.execute_from_42.Goals.{in_default-via-then-this-lt66, in_default-via-else-this-lt66+else-this-lt80}

pub returns-then-opcode-ne255 : goal.returns-then-opcode-ne255
unfolding dispatch.execute_of plain.plain_of commits.commit_of
returns-then-opcode-ne255 c = let above : 0x50 ≤ c.args.opcode = elim c.in_default.branch [ in_default-via-then-this-lt66 w ↦ absurd (omega (arith, c.requires.le_opcode)) | in_default-via-else-this-lt66+else-this-lt80 w ↦ omega arith ] in
    rw (illegal_is c.args.opcode (record {
      above = omega arith;
      library = omega arith;
      last = c.if-opcode-ne255.true;
    }))
