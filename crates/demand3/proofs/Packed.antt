-- The packer's bytes in memory are the image's cells.
use mathlib.Core.Path.{◌≡◌, ◌∙◌}
use mathlib.Core.List.{List}
use Prim.Native.Nat.{ℕ, suc, ◌+◌, ◌*◌, ◌<◌}
use native.Mathlib.Omega.{arith}
use lib.ListN.{get_or}
use Rattle.cell.specs.Memory.{cell_at}
use Rattle.pack_layout.specs.Listing.{Listing}
use Rattle.pack_layout.specs.Output.{bytes_of}
use Rattle.pack_layout.specs.Packing.{image_cells, image, Legal}
use Rattle.pack_layout.proofs.Output.{cell_there}
use Rattle.pack_layout.proofs.Packing.{image_below, size_is}
use Rattle.demand3.specs.Demand3.{PackedHolds}

-- bytes that are alike give one cell
same_cell : (order : ℕ) (m bs : List ℕ) (base a n : ℕ) → ((i : ℕ) → i < n → get_or m (base + i) 0 ≡ get_or bs i 0) → a + 4 < suc n
    → cell_at order m (base + a) ≡ cell_at order bs a
unfolding cell_at
same_cell order m bs base a n f h =
    let e1 : base + a + 1 ≡ base + (a + 1) = omega arith in
    let e2 : base + a + 2 ≡ base + (a + 2) = omega arith in
    let e3 : base + a + 3 ≡ base + (a + 3) = omega arith in
    rw (e1, e2, e3, f a (omega arith), f (a + 1) (omega arith), f (a + 2) (omega arith), f (a + 3) (omega arith))

-- the bytes of an image from an address on are its cells there
pub packed_cells : (order base : ℕ) (l : Listing) (m : List ℕ) (a : ℕ) → Legal base l
    → ((i : ℕ) → i < 4 * image_cells l → get_or m (a + i) 0 ≡ get_or (bytes_of order (image base l)) i 0)
    → (j : ℕ) → j < image_cells l → cell_at order m (a + 4 * j) ≡ get_or (image base l) j 0
packed_cells order base l m a ok bytes j c =
    same_cell order m (bytes_of order (image base l)) a (4 * j) (4 * image_cells l) bytes (omega arith)
    ∙ cell_there order (image base l) j (omega (arith, size_is base l ok)) (image_below base l ok)

pub packed_holds : PackedHolds
packed_holds machine base l m ok h = record { inside = h.inside; cells = packed_cells machine.order base l m base ok h.bytes }
