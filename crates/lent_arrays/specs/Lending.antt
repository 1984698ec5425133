-- Lent arrays: what is read from their first places and written there, and their judgement. Document 02, (a): the areas join the registers.
use Rattle.std.specs.Prelude.{List, [], ◌∷◌, ◌++◌, ℕ, ◌+◌, ltb, length, get_or, drop, Ok, Err}
use Rattle.cell.specs.Choice.{if}
use Rattle.cell.specs.Refusals.{Ground, Judged, refusal_number, judge, after}
use Rattle.cell.specs.declared.Refusal.TheVariants.{ShortOutput}
use Rattle.areas.specs.Areas.{areas_of, no_areas, filed}
use Rattle.areas.specs.declared.Areas.{Areas}
use Rattle.areas.specs.declared.RegisterFile.{RegisterFile}

-- the first of a lent array are written, the rest stay
abbrev pub written : List ℕ → List ℕ → List ℕ
written xs lent = xs ++ drop (length xs) lent

-- the four numbers of the areas from a place on: top and cells of the data area, then of the return area
abbrev pub areas_at : ℕ → List ℕ → Areas
areas_at i lent = areas_of (get_or lent i 0) (get_or lent (i + 1) 0) (get_or lent (i + 2) 0) (get_or lent (i + 3) 0)

abbrev pub area_list : Areas → List ℕ
area_list areas = areas.stack.top.0 ∷ areas.stack.cells.0 ∷ areas.returns.top.0 ∷ areas.returns.cells.0 ∷ []

-- the areas to be judged: an array too short to hold them gives none, and is refused by -4105 in its place
abbrev pub areas_in : ℕ → List ℕ → Areas
areas_in i lent = if (ltb (length lent) (i + 4)) no_areas (areas_at i lent)

-- `registers` holds EP, A, SP, RP in this order, then the areas
abbrev pub registers_of : List ℕ → RegisterFile
registers_of lent =
    filed (areas_at 4 lent) (record { ep = get_or lent 0 0; a = get_or lent 1 0; sp = get_or lent 2 0; rp = get_or lent 3 0 })

abbrev pub register_list : RegisterFile → List ℕ
register_list f =
    f.registers.ep ∷ f.registers.a ∷ f.registers.sp ∷ f.registers.rp ∷ area_list f.areas

-- -4105: an array has fewer places than a success writes into. Document 01, Turned back for the state; it is judged last
abbrev pub short_array : ℕ → ℕ → Ground
short_array size needed = record { applies = ltb size needed; refusal = ShortOutput }

abbrev pub with_room : Judged → ℕ → ℕ → Judged
with_room j size needed = after j (judge (short_array size needed ∷ []))

-- the number answered where `out` has no place: -4105, unless the input or the output is refused before it
abbrev pub no_place : Judged → ℕ
no_place (Err r) = refusal_number r
no_place (Ok _) = refusal_number ShortOutput
