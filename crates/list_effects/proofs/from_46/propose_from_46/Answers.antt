-- `propose_from_46` meets its contract: the opcodes that are left raise -256.
use mathlib.Core.Path.{sym}
use Rattle.list_effects.proofs.PlainLaws.{rest_raises}
use Rattle.list_effects.proofs.from_46.propose_from_46.Goals as goal

pub returns-in_default : goal.returns-in_default
returns-in_default c = sym (rest_raises c.args.machine c.args.memory.now c.args.r.ep c.args.r.sp c.args.r.rp c.args.opcode (record {
  from = c.requires.le_opcode;
  n46 = c.before.in_default.in_default-own.rest.0.0.0.0.0.0.0.0.1;
  n47 = c.before.in_default.in_default-own.rest.0.0.0.0.0.0.0.1;
  n4A = c.before.in_default.in_default-own.rest.0.0.0.0.0.0.1;
  n4B = c.before.in_default.in_default-own.rest.0.0.0.0.0.1;
  n50 = c.before.in_default.in_default-own.rest.0.0.0.0.1;
  n51 = c.before.in_default.in_default-own.rest.0.0.0.1;
  n54 = c.before.in_default.in_default-own.rest.0.0.1;
  n55 = c.before.in_default.in_default-own.rest.0.1;
  n57 = c.before.in_default.in_default-own.rest.1;
}))
