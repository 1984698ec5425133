-- A start at the base of an image in memory.
use Rattle.std.specs.Prelude.{Ok}
use Rattle.cell.specs.Refusals.{passed}
use mathlib.Core.Path.{◌≡◌, sym, ap, ◌∙◌}
use mathlib.Core.List.{List}
use mathlib.Core.Logic.{inl}
use Prim.Native.Nat.{ℕ, ◌+◌, ◌*◌, ◌≤◌}
use native.Mathlib.Omega.{arith}
use lib.ListN.{length}
use Rattle.cell.specs.Memory.{cell_at, Alike}
use Rattle.cell.specs.Number.{sum}
use Rattle.cell.proofs.MemoryLaws.{cell_frame, alike_trans, store_length}
use Rattle.machine.specs.Places.{fetch_of}
use Rattle.exceptions.specs.Fixed.{handler_cell, memory_cell, bad_cell, address_cell}
use Rattle.throws.specs.Throws.{next_of}
use Rattle.machine.specs.declared.Access.TheVariants.{Stream}
use Rattle.machine.specs.declared.Machine.{Machine}
use Rattle.machine.specs.declared.Table.{Table}
use Rattle.areas.specs.Areas.{filed as with_areas}
use Rattle.bounds.specs.Bounds.{judge_bounded, machine_of, first_sp, first_rp}
use Rattle.areas.specs.declared.Areas.{Areas}
use Rattle.processor_start.specs.Starting.{four_cells, start_of}
use Rattle.processor_start.specs.Answers.{started_to, start_answer}
use Rattle.processor_start.specs.declared.Started.TheVariants.{Ready}
use Rattle.pack_layout.specs.Listing.{Listing}
use Rattle.pack_layout.specs.Packing.{image_cells, Legal}
use Rattle.pack_layout.proofs.Listing.{some_item}
use Rattle.pack_layout.proofs.Packing.{placed, at_inside}
use Rattle.demand3.specs.Demand3.{Holds, first_registers}
use Rattle.demand3.proofs.Image.{image_fetch, still_holds}

-- the four cells lie below 10h
module _ (machine : Machine) (m : List ℕ) (handler : ℕ) where
  pub four_length : length (four_cells machine m handler) ≡ length m
  four_length =
      store_length machine.order _ address_cell 0xFFFFFFFF
      ∙ store_length machine.order _ bad_cell 0xFFFFFFFF
      ∙ store_length machine.order _ memory_cell (length m)
      ∙ store_length machine.order m handler_cell handler

  four_alike : (lo hi : ℕ) → 0x10 ≤ lo → Alike lo hi m (four_cells machine m handler)
  four_alike lo hi h =
      alike_trans lo hi _ _ _ (cell_frame lo hi machine.order m handler_cell handler (inl (omega arith)))
      (alike_trans lo hi _ _ _ (cell_frame lo hi machine.order _ memory_cell (length m) (inl (omega arith)))
      (alike_trans lo hi _ _ _ (cell_frame lo hi machine.order _ bad_cell 0xFFFFFFFF (inl (omega arith)))
      (cell_frame lo hi machine.order _ address_cell 0xFFFFFFFF (inl (omega arith)))))

module _ (order : ℕ) (areas : Areas) (table : Table) (base : ℕ) (l : Listing) (ok : Legal base l) (m : List ℕ) (handler : ℕ)
    (h : Holds (machine_of order areas table (length m)) base l m) where
  abbrev machine : Machine
  machine = machine_of order areas table (length m)

  pub four_holds : Holds machine base l (four_cells machine m handler)
  four_holds =
      still_holds machine base l ok m (four_cells machine m handler) h
      (four_alike machine m handler base (base + 4 * image_cells l) (placed base l ok).above_cells)
      (four_length machine m handler)

  first_fetch : fetch_of machine Stream (four_cells machine m handler) base ≡ Ok (cell_at order (four_cells machine m handler) base)
  first_fetch =
      let some = at_inside base l ok 0 (some_item l ok.input).0 in
      let z : base + 4 * 0 ≡ base = omega arith in
      (rw z at (image_fetch machine base l ok (four_cells machine m handler) four_holds 0 (omega (arith, some))))
      ∙ ap Ok (sym (rw z at (four_holds.cells 0 (omega (arith, some)))))

  first_ep : sum base 4 ≡ base + 4
  unfolding sum
  first_ep = omega (arith, (placed base l ok).inside, at_inside base l ok 0 (some_item l ok.input).0)

  pub start_ready : judge_bounded (length m) order areas table ≡ passed
      → start_answer order areas table m base handler
      ≡ started_to (four_cells machine m handler)
      (Ok (Ready (with_areas areas (first_registers machine base (four_cells machine m handler) (first_sp (length m) areas) (first_rp (length m) areas)))))
  unfolding start_answer start_of next_of
  start_ready q = rw (q, first_fetch, first_ep)
