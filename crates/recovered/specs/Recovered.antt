-- What is read from an image is what runs: document 02, (h), joined with demand 3. A module came back to an office; its cells stand in a memory at their
-- base. If `unpack` gives a listing for them, the processor runs them as that listing reads.
use Rattle.std.specs.Prelude.{◌≡◌, List, ℕ, ◌+◌, ◌≤◌, ◌<◌, length, get_or, take}
use Rattle.cell.specs.Memory.{Bytewise}
use Rattle.pack_layout.specs.Listing.{Listing, listed}
use Rattle.unpacker.specs.Unpack.{UnpackResult, unpack_of}
use Rattle.approved.specs.Approved.{RunsAsListed}

-- the listing that an unpacking wrote
abbrev pub recovered : UnpackResult → Listing
recovered r = listed (take r.count r.kinds) (take r.count r.operands)

-- an image's bytes stand in a memory, from an address on
pub record ImageAt (s m : List ℕ) (a : ℕ) : Type 0 where
  pub inside : a + length s ≤ length m
  pub bytes : (i : ℕ) → i < length s → get_or m (a + i) 0 ≡ get_or s i 0

abbrev pub RecoveredRuns : Type 0
RecoveredRuns =
    (order : ℕ) (s : List ℕ) (base : ℕ) (ks xs : List ℕ) → Bytewise s → (unpack_of order s base ks xs).number ≡ 0
    → (m : List ℕ) → ImageAt s m base
    → RunsAsListed order base (recovered (unpack_of order s base ks xs)) m
