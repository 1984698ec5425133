-- `unpacker::recover::recover` meets its contract.
-- Assumes nothing.
use mathlib.Core.Path.{sym}
use Prim.Native.Nat.{◌/◌}
use native.Mathlib.Omega.{arith}
use lib.ListN.{length}
use Rattle.unpacker.proofs.Recovering.{too_long, turned_back, fresh_length, fresh_at}
use Rattle.std.proofs.lemmas.Result.{err_from_is_err_and}
use Rattle.unpacker.proofs.recover.recover.Goals as goal

pub returns-then-n-gt-MOST_BYTES : goal.returns-then-n-gt-MOST_BYTES
returns-then-n-gt-MOST_BYTES c = let both = too_long c.args.order c.args.base.0 c.args.image.now (sym c.in_ok-judge_place.ensures) _ _ c.if-n-gt-MOST_BYTES.true in record {
  value = both.0;
  recovered = both.1;
}

pub recover_in-requires : goal.recover_in-requires
recover_in-requires c = record {
  kinds_len = (c.requires.0, c.requires.1, fresh_length 8192 (length c.args.image.now / 4) 4096 (omega (arith, c.if-n-gt-MOST_BYTES.false)), fresh_length 32768 (length c.args.image.now) 0 (omega (arith, c.if-n-gt-MOST_BYTES.false)));
  by_index = fresh_at 8192 (length c.args.image.now / 4) 4096 (omega (arith, c.if-n-gt-MOST_BYTES.false));
  image_value = sym c.in_ok-judge_place.ensures;
}

pub returns-in_err-judge_place : goal.returns-in_err-judge_place
returns-in_err-judge_place c = let p = err_from_is_err_and c.from_residual.result c.from_residual.ensures.1 in
    let both = turned_back c.args.order c.args.base.0 c.args.image.now _ _ _ _ (sym c.in_err-judge_place.ensures) in rw (p.1, p.2) (record {
      value = both.0;
      recovered = both.1;
    })
