-- `pack_files::file::pack_file` meets its contract.
use Rattle.std.proofs.Common.{sym}
use Rattle.pack_files.proofs.Filing.{header_good, parts_packed}
use Rattle.pack_files.proofs.file.pack_file.Goals as goal

pub returns : goal.returns
returns c = parts_packed c.args.order c.args.file.now (header_good c.args.order c.args.file.now (sym c.in_ok-judge_header.ensures))
    c.cell_at-n.result c.cell_at.result c.operands_of-operands.result c.cell_at-n.ensures c.cell_at.ensures c.operands_of-operands.ensures.1 c.args.output.now _
    c.pack.ensures
