-- The image in memory: its cells are fetched, NEXT at a cell enters the item that opens it, and stores elsewhere leave it there.
use Rattle.std.specs.Prelude.{Ok}
use mathlib.Core.Path.{◌≡◌, ap, ◌∙◌}
use mathlib.Core.Bool.{true}
use mathlib.Core.List.{List}
use Prim.Native.Nat.{ℕ, ◌+◌, ◌*◌, ◌%◌, ◌<◌}
use native.Mathlib.Omega.{arith}
use borrow.Author.Tests.{lt-ltb, eq-eqb}
use lib.ListN.{length, get_or}
use Rattle.cell.specs.Memory.{cell_at, Alike}
use Rattle.cell.specs.Number.{sum}
use Rattle.cell.proofs.MemoryLaws.{cell_alike}
use Rattle.machine.specs.Places.{place_of, fetch_of}
use Rattle.throws.specs.Throws.{cycle_state, next_of}
use Rattle.machine.specs.declared.Machine.{Machine}
use Rattle.machine.specs.declared.Registers.{Registers}
use Rattle.machine.specs.declared.Access.TheVariants.{Stream}
use Rattle.machine.specs.declared.Ended.TheVariants.{Went}
use Rattle.pack_layout.specs.Listing.{Listing}
use Rattle.pack_layout.specs.Layout.{opens, mid}
use Rattle.pack_layout.specs.Packing.{layout, image_cells, image, address_of, ep_value, register, Legal}
use Rattle.pack_layout.proofs.Packing.{placed, at_inside}
use Rattle.pack_layout.proofs.Meet.{enter}
use Rattle.demand3.specs.Demand3.{Holds}

fetch_good : (machine : Machine) (m : List ℕ) (a : ℕ) → a < length m → a % 4 ≡ 0 → fetch_of machine Stream m a ≡ Ok (cell_at machine.order m a)
unfolding fetch_of place_of
fetch_good machine m a h q = rw (lt-ltb a (length m) h, eq-eqb (a % 4) 0 q)

-- A and EP at an item
abbrev pub at_item : ℕ → Listing → ℕ → ℕ → ℕ → Registers
at_item base l i sp rp = record { ep = ep_value base l i; a = register base l i; sp = sp; rp = rp }

module _ (machine : Machine) (base : ℕ) (l : Listing) (ok : Legal base l) where
  -- a memory that is alike on the image
  pub still_holds : (m m2 : List ℕ) → Holds machine base l m → Alike base (base + 4 * image_cells l) m m2 → length m2 ≡ length m → Holds machine base l m2
  still_holds m m2 h f e =
      record {
        inside = omega (arith, h.inside, e);
        cells = λ j c. cell_alike base (base + 4 * image_cells l) machine.order m m2 (base + 4 * j) f (omega arith) (omega arith) ∙ h.cells j c;
      }

  module _ (m : List ℕ) (h : Holds machine base l m) where
    -- a fetch from the instruction stream
    pub image_fetch : (j : ℕ) → j < image_cells l → fetch_of machine Stream m (base + 4 * j) ≡ Ok (get_or (image base l) j 0)
    image_fetch j c =
        fetch_good machine m (base + 4 * j) (omega (arith, h.inside)) (omega (arith, (placed base l ok).aligned))
        ∙ ap Ok (h.cells j c)

    pub entry_cell : (i : ℕ) → i < l.count → opens (layout l) i ≡ true → fetch_of machine Stream m (address_of base l i) ≡ Ok (register base l i)
    entry_cell i c o = image_fetch (mid (layout l) i).at (at_inside base l ok i c) ∙ ap Ok (enter base l ok i o).cell

    pub ep_after : (i : ℕ) → i < l.count → opens (layout l) i ≡ true → sum (address_of base l i) 4 ≡ ep_value base l i
    unfolding sum
    ep_after i c o = omega (arith, (placed base l ok).inside, at_inside base l ok i c, (enter base l ok i o).ep)

    -- NEXT at the cell of an item that opens one
    pub next_enters : (i sp rp a : ℕ) → i < l.count → opens (layout l) i ≡ true
        → next_of machine m (record { ep = address_of base l i; a = a; sp = sp; rp = rp }) ≡ cycle_state m (at_item base l i sp rp) Went
    unfolding next_of
    next_enters i sp rp a c o = rw (entry_cell i c o, ep_after i c o)
