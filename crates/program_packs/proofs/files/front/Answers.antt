-- The cells that a packing counts lie inside its output, which keeps its length.
use Rattle.std.proofs.Common.{arith, replicate}
use Rattle.pack_files.proofs.Filing.{pack_file_room}
use Rattle.program_packs.proofs.files.front.Goals as goal

pub print_packed-requires : goal.print_packed-requires
print_packed-requires g c =
    let room = pack_file_room 0 (replicate 1024 0) c.pack_file-answer.new.output c.pack_file-answer.result
    _ c.pack_file-answer.ensures in
    omega (arith, room, c.pack_file-answer.auto.output)
