-- `unpacker::unpack::unpack_in` meets its contract.
-- Assumes nothing.
use native.Mathlib.Omega.{arith}
use Rattle.unpacker.proofs.Answering.{read_refused, read_passed, counted, unpack_refused, unpack_written}
use Rattle.std.proofs.lemmas.Result.{err_from_is_err_and}
use Rattle.unpacker.proofs.unpack.unpack_in.Goals as goal

pub slice_bounds-write_listing-end : goal.slice_bounds-write_listing-end
slice_bounds-write_listing-end c = omega (arith, counted c.args.order c.args.base.0 c.args.image.now c.recover.result c.in_ok-n.n c.recover.ensures.value c.in_ok-n.was, c.recover.auto.kinds, c.requires.0)

pub returns-in_err-n : goal.returns-in_err-n
returns-in_err-n c = let p = err_from_is_err_and c.from_residual.result c.from_residual.ensures.1 in
    rw (p.1, p.2) (unpack_refused c.args.order c.args.base.0 c.args.image.now c.args.kinds.now c.args.operands.now _ (read_refused _ _ c.recover.result _ c.recover.ensures.value c.in_err-n.was))

pub returns-in_err-write_listing : goal.returns-in_err-write_listing
returns-in_err-write_listing c = let q = err_from_is_err_and c.from_residual-in_err-write_listing.result c.from_residual-in_err-write_listing.ensures.1 in
    let p = read_passed _ _ c.recover.result _ c.recover.ensures.value c.in_ok-n.was in
    unpack_written c.args.order c.args.base.0 c.args.image.now c.args.kinds.now c.args.operands.now c.in_ok-n.n _ _ p.0 p.1 c.recover.ensures.recovered
    (omega (arith, c.recover.auto.kinds, c.requires.0, counted c.args.order c.args.base.0 c.args.image.now c.recover.result c.in_ok-n.n c.recover.ensures.value c.in_ok-n.was)) c.write_listing.result _ _ _ c.write_listing.ensures.value c.write_listing.ensures.kinds_after.0 c.write_listing.ensures.kinds_after.1 (rw (q.1, q.2, c.in_err-write_listing.was))

pub returns : goal.returns
returns c = let p = read_passed _ _ c.recover.result _ c.recover.ensures.value c.in_ok-n.was in
    let h = counted c.args.order c.args.base.0 c.args.image.now c.recover.result c.in_ok-n.n c.recover.ensures.value c.in_ok-n.was in
    unpack_written c.args.order c.args.base.0 c.args.image.now c.args.kinds.now c.args.operands.now c.in_ok-n.n _ _ p.0 p.1 c.recover.ensures.recovered
    (omega (arith, c.recover.auto.kinds, c.requires.0)) c.write_listing.result _ _ _ c.write_listing.ensures.value c.write_listing.ensures.kinds_after.0 c.write_listing.ensures.kinds_after.1 (rw c.in_ok-write_listing.was)
