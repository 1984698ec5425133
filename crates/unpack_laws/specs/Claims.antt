-- What is proved of images and listings. Document 02, (h): an image that the packer writes is read back to its listing, what is read packs to its image, no
-- other image is taken, and no two listings that are taken share one. The proofs stand in proofs/Theorems.antt.
use Rattle.std.specs.Prelude.{◌≡◌, List, ◌++◌, ℕ, ◌*◌, ◌/◌, ◌^◌, ◌≤◌, ◌<◌, length, get_or, take, drop, Err, Ok}
use Rattle.cell.specs.Refusals.{passed}
use Rattle.cell.specs.Memory.{Bytewise, cell_count}
use Rattle.cell.specs.declared.Refusal.TheVariants.{NoListing}
use Rattle.packer.specs.Pack.{PackResult, packed_to, pack_of}
use Rattle.unpack_judging.specs.Judgement.{judge_place}
use Rattle.unpack_writing.specs.Writing.{over}
use Rattle.unpacker.specs.Judgement.{judge_read}
use Rattle.unpacker.specs.Unpack.{unpacked_to, unpack_of}

-- operands as they are lent: cells
abbrev pub Words : List ℕ → Type 0
Words operands = (i : ℕ) → i < length operands → get_or operands i 0 < 2 ^ 32

-- the image that a packing wrote
abbrev pub image_of : PackResult → List ℕ
image_of p = take (4 * p.count) p.output

-- pack, then unpack with room for the listing: its kinds and its operands, and nothing else
abbrev pub ReadsBack : Type 0
ReadsBack =
    (order : ℕ) (kinds operands : List ℕ) (base : ℕ) (out ks xs : List ℕ) → Words operands → (pack_of order kinds operands base out).number ≡ 0
    → length kinds ≤ length ks → length operands ≤ length xs
    → unpack_of order (image_of (pack_of order kinds operands base out)) base ks xs ≡ unpacked_to (over kinds ks) (over operands xs) (Ok (length kinds))

-- unpack, then pack what it wrote with room for the image: its bytes, and no others
abbrev pub PacksAgain : Type 0
PacksAgain =
    (order : ℕ) (s : List ℕ) (base : ℕ) (ks xs out : List ℕ) → (unpack_of order s base ks xs).number ≡ 0 → length s ≤ length out
    → let r = unpack_of order s base ks xs in
    pack_of order (take r.count r.kinds) (take r.count r.operands) base out
    ≡ packed_to (s ++ drop (length s) out) (Ok (cell_count (length s / 4)))

-- listings that differ have images that differ, where both are packed for one base and in one byte order
abbrev pub OneListing : Type 0
OneListing =
    (order base : ℕ) (kinds operands out kinds2 operands2 out2 : List ℕ) → Words operands → Words operands2
    → (pack_of order kinds operands base out).number ≡ 0 → (pack_of order kinds2 operands2 base out2).number ≡ 0
    → image_of (pack_of order kinds operands base out) ≡ image_of (pack_of order kinds2 operands2 base out2)
    → (kinds ≡ kinds2) × (operands ≡ operands2)

-- bytes that `pack` writes for some listing
pub data Packed (order base : ℕ) : List ℕ → Type 0 where
  by_pack : (kinds operands out : List ℕ) → Words operands → (pack_of order kinds operands base out).number ≡ 0
      → Packed order base (image_of (pack_of order kinds operands base out))

-- exactly those are taken; any others, at a base that is not refused, are turned away by -4116
pub record TakenExactly : Type 0 where
  pub taken : (order base : ℕ) (s : List ℕ) → Packed order base s → judge_read order base s ≡ passed
  pub only : (order base : ℕ) (s : List ℕ) → Bytewise s → judge_read order base s ≡ passed → Packed order base s
  pub others : (order base : ℕ) (s : List ℕ) → Bytewise s → judge_place order base (length s) ≡ passed → (Packed order base s → ⊥)
      → judge_read order base s ≡ Err NoListing
