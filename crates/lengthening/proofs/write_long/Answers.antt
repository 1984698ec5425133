-- `lengthening::write_long` meets its contract.
-- Assumes nothing.
use mathlib.Core.Path.{sym, ◌∙◌}
use native.Mathlib.Omega.{arith}
use Rattle.short_judging.proofs.Parts.{short_count_lem}
use Rattle.short_judging.specs.ShortFile.{short_base, short_listing}
use Rattle.short_files.proofs.Written.{long_written}
use Rattle.lengthening.proofs.write_long.Goals as goal

pub returns : goal.returns
returns c = let k = short_count_lem c.args.file.now (omega (arith, c.requires.file_bound.1)) in
    long_written (short_listing c.args.file.now) c.args.output.now (short_base c.args.file.now) c.cell_at-n.result (c.cell_at-n.ensures ∙ sym k) _ _ _ _ c.cell_at.ensures
    (omega (arith, c.requires.file_in_bounds, c.cell_at-n.ensures)) c.put.ensures
    c.put-2.ensures c.write_items.ensures
