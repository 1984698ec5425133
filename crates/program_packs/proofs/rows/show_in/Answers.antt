-- The cells that a packing counts lie inside its output, which keeps its length.
use Rattle.std.proofs.Common.{arith}
use Rattle.packer.proofs.Answering.{pack_room}
use Rattle.program_packs.proofs.rows.show_in.Goals as goal

pub print_packed-requires : goal.print_packed-requires
print_packed-requires g c =
    let room = pack_room c.args.order c.args.output.now c.pack-answer.new.output c.pack-answer.result
    c.args.kinds.now c.args.operands.now c.args.base.0 c.pack-answer.ensures in
    omega (arith, room, c.pack-answer.auto.output)
