-- `unpack_writing::arrays::write_listing` meets its contract.
use Rattle.std.proofs.Common.{length, sym, arith}
use lib.ListN.{length-take}
use Rattle.unpack_writing.proofs.Room.{arrays_room}
use Rattle.unpack_writing.proofs.arrays.write_listing.Goals as goal

pub slice_bounds-copy_from_slice-end-2 : goal.slice_bounds-copy_from_slice-end-2
slice_bounds-copy_from_slice-end-2 c = let r = arrays_room (length c.args.ks.now) (length c.args.kinds.now) (length c.args.operands.now) (sym c.in_ok-judge_arrays.ensures) in
    omega (arith, r.0, length-take (length c.args.ks.now) c.args.kinds.now)

pub copy_from_slice-requires : goal.copy_from_slice-requires
copy_from_slice-requires c = let r = arrays_room (length c.args.ks.now) (length c.args.kinds.now) (length c.args.operands.now) (sym c.in_ok-judge_arrays.ensures) in
    omega (arith, r.0, length-take (length c.args.ks.now) c.args.kinds.now)

pub slice_bounds-copy_from_slice-end-4 : goal.slice_bounds-copy_from_slice-end-4
slice_bounds-copy_from_slice-end-4 c = let r = arrays_room (length c.args.ks.now) (length c.args.kinds.now) (length c.args.operands.now) (sym c.in_ok-judge_arrays.ensures) in
    omega (arith, r.1, c.requires.0, length-take (length c.args.xs.now) c.args.operands.now)

pub copy_from_slice-requires-2 : goal.copy_from_slice-requires-2
copy_from_slice-requires-2 c = let r = arrays_room (length c.args.ks.now) (length c.args.kinds.now) (length c.args.operands.now) (sym c.in_ok-judge_arrays.ensures) in
    omega (arith, r.1, c.requires.0, length-take (length c.args.xs.now) c.args.operands.now)
