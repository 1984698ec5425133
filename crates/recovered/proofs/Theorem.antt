-- The theorem.
-- Assumes nothing.
use mathlib.Core.Path.{◌≡◌, refl, sym, ap, ◌∙◌}
use mathlib.Core.List.{List, ◌++◌}
use Prim.Native.Nat.{ℕ, ◌+◌, ◌*◌, ◌/◌, ◌<◌}
use native.Mathlib.Omega.{arith}
use lib.ListN.{length, get_or, take, drop, get_or-append}
use Rattle.packer.specs.Pack.{PackResult, pack_of}
use Rattle.unpacker.specs.Unpack.{unpack_of}
use Rattle.approved.specs.Approved.{StandsAt, of_arrays}
use Rattle.approved.proofs.Approved.{packed_runs}
use Rattle.unpack_laws.proofs.Theorems.{packs_again, words_again}
use Rattle.recovered.specs.Recovered.{recovered, RecoveredRuns}

pub recovered_runs : RecoveredRuns
recovered_runs order s base ks xs low e m h =
    let r = unpack_of order s base ks xs in
    let kinds = take r.count r.kinds in
    let operands = take r.count r.operands in
    let q = packs_again order s base ks xs s e (omega arith) in
    let stands : StandsAt (pack_of order kinds operands base s) m base =
    rw q (record {
      inside = omega (arith, h.inside);
      bytes = λ i b. h.bytes i (omega arith) ∙ sym (get_or-append s (drop (length s) s) 0 i (omega arith));
    })
    in
    packed_runs order base (recovered r) (pack_of order kinds operands base s)
    (of_arrays kinds operands base s (words_again order s base ks xs low e))
    (ap (λ (p : PackResult). p.number) q) m stands
