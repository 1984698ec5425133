-- `shortening::write_short` meets its contract.
-- Assumes nothing.
use mathlib.Core.Path.{sym, ap, ◌∙◌}
use native.Mathlib.Omega.{arith}
use Rattle.pack_layout.specs.File.{filed, file_base}
use Rattle.short_judging.proofs.Parts.{file_count_lem}
use Rattle.short_judging.specs.Operands.{operands_before}
use Rattle.short_files.proofs.Written.{short_written}
use Rattle.shortening.proofs.write_short.Goals as goal

pub returns : goal.returns
returns c = let k = file_count_lem c.args.file.now (omega (arith, c.requires.file_bound.1)) in
    short_written (filed c.args.file.now) c.args.output.now (file_base c.args.file.now) c.cell_at-n.result (c.cell_at-n.ensures ∙ sym k) _ _ _ _ c.args.m _ c.cell_at.ensures
    (c.requires.m_value.0 ∙ ap (operands_before (filed c.args.file.now).kind) (sym k)) (omega (arith, c.requires.m_value.1, c.cell_at-n.ensures)) c.put.ensures c.put-2.ensures
    c.put-3.ensures c.write_items.ensures
