-- `pack_files::file::judge_pack_file` meets its contract.
use Rattle.std.proofs.Common.{sym}
use Rattle.pack_files.proofs.Filing.{header_good, parts_judged}
use Rattle.pack_files.proofs.file.judge_pack_file.Goals as goal

pub returns : goal.returns
returns c = parts_judged c.args.order c.args.file.now (header_good c.args.order c.args.file.now (sym c.in_ok-judge_header.ensures))
    c.cell_at-n.result c.cell_at.result c.operands_of-operands.result c.cell_at-n.ensures c.cell_at.ensures c.operands_of-operands.ensures.1 c.args.size _
    c.judge_pack.ensures
