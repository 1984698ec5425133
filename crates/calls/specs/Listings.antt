-- What `beetle_pack` and `beetle_pack_file` leave and answer.
use Rattle.std.specs.Prelude.{List, ℕ, length, Ok, Err}
use Rattle.cell.specs.Refusals.{Judged, refusal_number}
use Rattle.pack_refusals.specs.Judgement.{judge_pack}
use Rattle.packer.specs.Pack.{Packed, PackResult, pack_of}
use Rattle.pack_files.specs.Files.{judge_pack_file, pack_file_of}
use Rattle.lent_arrays.specs.Lending.{with_room}
use Rattle.calls.specs.Modules.{Noted, Moved, moved, load_noted}

-- as of a load: 0 and the cells, or a refusal's number with nothing written
abbrev pub pack_noted : List ℕ → Packed → Noted
pack_noted = load_noted

-- a judgement of all that was lent, and the result that crate packer gives
abbrev pub pack_if : Judged → PackResult → List ℕ → List ℕ → Moved
pack_if (Err n) result output out = moved output out (refusal_number n)
pack_if (Ok _) result output out = record { bytes = result.output; noted = pack_noted out result.answer }

unfoldable pub pack_call : ℕ → List ℕ → List ℕ → ℕ → List ℕ → List ℕ → Moved
pack_call order kinds operands base output out =
    pack_if (with_room (judge_pack order kinds operands base (length output)) (length out) 1)
    (pack_of order kinds operands base output) output out

unfoldable pub pack_file_call : ℕ → List ℕ → List ℕ → List ℕ → Moved
pack_file_call order file output out =
    pack_if (with_room (judge_pack_file order file (length output)) (length out) 1) (pack_file_of order file output) output out
