-- `pack_files::file::operands_of` meets its contract. Assumes nothing.
use mathlib.Core.Path.{refl}
use native.Mathlib.Omega.{arith}
use Rattle.pack_files.proofs.Filing.{operands_back}
use lib.ListN.{replicate}
use Prim.Native.Nat.{◌-◌}
use Rattle.pack_files.proofs.file.operands_of.Goals as goal

pub returns : goal.returns
returns c = operands_back c.args.file.now (replicate 4096 0) c.read_operands.new.operands c.cell_at-n.result (c.cell_at-n.result - 0) (c.requires) c.cell_at-n.ensures
    (omega arith) refl c.read_operands.auto.operands c.read_operands.ensures
