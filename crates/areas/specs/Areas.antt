-- Stack areas and what refuses them. Document 02, (a): a call is given the top and the number of cells of each stack; four zeros are no areas. The data area lies below its
-- top, the held cell just under it, the return area below its own top. -4111 turns areas away, the held cell counted as one of them; sums are exact.
use Rattle.std.specs.Prelude.{◌≡◌, Bool, not, ◌&&◌, ◌||◌, [], ◌∷◌, ℕ, ◌+◌, ◌*◌, ◌%◌, ◌≤◌, ltb, eqb}
use Rattle.cell.specs.Choice.{if}
use Rattle.cell.specs.Memory.{cell_count}
use Rattle.cell.specs.Place.{address}
use Rattle.cell.specs.Refusals.{Ground, Judged, passed, judge}
use Rattle.cell.specs.declared.Refusal.TheVariants.{StackAreas}
use Rattle.machine.specs.declared.Registers.{Registers}
use Rattle.areas.specs.declared.Area.{Area}
use Rattle.areas.specs.declared.Areas.{Areas}
use Rattle.areas.specs.declared.RegisterFile.{RegisterFile}

abbrev pub area_of : ℕ → ℕ → Area
area_of top cells = record { top = address top; cells = cell_count cells }

abbrev pub areas_of : ℕ → ℕ → ℕ → ℕ → Areas
areas_of data_top data_cells return_top return_cells =
    record { stack = area_of data_top data_cells; returns = area_of return_top return_cells }

-- four zeros
abbrev pub no_areas : Areas
no_areas = areas_of 0 0 0 0

abbrev pub zero : Area → Bool
zero area = eqb area.top.0 0 && eqb area.cells.0 0

abbrev pub none : Areas → Bool
none areas = zero areas.stack && zero areas.returns

-- the cells held under an area: one under the data area, none under the return area
abbrev pub held_under_data : ℕ
held_under_data = 1

abbrev pub held_under_return : ℕ
held_under_return = 0

-- the bytes of an area with the cells held under it
abbrev pub bytes_with : ℕ → Area → ℕ
bytes_with held area = 4 * (area.cells.0 + held)

-- an area with an unaligned top, with no cell, that begins below 0 or ends past memory
abbrev pub misplaced : ℕ → ℕ → Area → Bool
misplaced len held area =
    not (eqb (area.top.0 % 4) 0)
    || (eqb area.cells.0 0 || (ltb area.top.0 (bytes_with held area) || ltb len area.top.0))

-- an area, with the cells held under it, begins below a top
abbrev pub begins_below : ℕ → Area → ℕ → Bool
begins_below held area top = ltb area.top.0 (top + bytes_with held area)

-- each begins below the other's top
abbrev pub overlapping : Areas → Bool
overlapping areas =
    begins_below held_under_return areas.returns areas.stack.top.0
    && begins_below held_under_data areas.stack areas.returns.top.0

-- -4111
abbrev pub bad_areas : Bool → Ground
bad_areas applies = record { applies = applies; refusal = StackAreas }

unfoldable pub judge_areas : ℕ → Areas → Judged
judge_areas len areas =
    if (none areas) passed
    (judge
    (bad_areas (misplaced len held_under_data areas.stack)
    ∷ bad_areas (misplaced len held_under_return areas.returns)
    ∷ bad_areas (overlapping areas)
    ∷ []))

-- the registers that cycles move, beside the areas
abbrev pub filed : Areas → Registers → RegisterFile
filed areas r = record { registers = r; areas = areas }

-- what areas that were taken are
pub record Placed (len held : ℕ) (area : Area) : Type 0 where
  pub aligned : area.top.0 % 4 ≡ 0
  pub some : 1 ≤ area.cells.0
  pub begins : bytes_with held area ≤ area.top.0
  pub ends : area.top.0 ≤ len
