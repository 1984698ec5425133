-- What a run of the list machine rests on once it passed, and what it answers.
use mathlib.Core.Path.{◌≡◌, refl, ap, ◌∙◌}
use mathlib.Core.List.{List}
use Prim.Native.Nat.{ℕ}
use lib.ListN.{length}
use Rattle.cell.specs.Memory.{cell_count}
use Rattle.cell.specs.Refusals.{Lent, Judged, passed}
use Rattle.cell.specs.declared.CellCount.{CellCount}
use Rattle.cell.proofs.JudgementLaws.{both_pass}
use Rattle.machine.specs.Places.{Fits}
use Rattle.machine.specs.declared.Table.{Table}
use Rattle.areas.specs.Areas.{judge_areas}
use Rattle.bounds.specs.Bounds.{judge_bounded, machine_of}
use Rattle.areas.specs.declared.Areas.{Areas}
use Rattle.bounds.proofs.BoundLaws.{lent, areas_pass, passed_fits}
use Rattle.pack_layout.specs.Listing.{listed, judged_arrays, Checked}
use Rattle.pack_layout.specs.Packing.{image_cells, judged_place}
use Rattle.pack_prepare.proofs.Checking.{arrays_checked}
use Rattle.list_machine.specs.Runs.{Course, goes_on, stopped_by, stood_outside, Run}
use Rattle.list_tables.specs.Tables.{Rows, Settled}
use Rattle.list_tables.specs.declared.Image.{Image}
use Rattle.list_tables.specs.declared.ItemRow.{ItemRow}
use Rattle.list_counting.specs.Outcomes.{course_of, run_as}
use Rattle.list_counting.specs.declared.Ending.{Ending}
use Rattle.list_counting.specs.declared.Ending.TheVariants as ending
use Rattle.list_counting.specs.declared.ItemRun.{ItemRun}
use Rattle.list_refusals.specs.Judging.{judge_begin, judge_image}
use Rattle.list_following.specs.Follow.{ending_of, ran_of}

-- what passed before the layout: the memory, the areas and the arrays
module _ (len order : ℕ) (areas : Areas) (table : Table) (kinds operands : List ℕ) (e : judge_begin len order areas table kinds operands ≡ passed) where
  begin_bounded : judge_bounded len order areas table ≡ passed
  unfolding judge_begin
  begin_bounded = (both_pass (judge_bounded len order areas table) (judged_arrays kinds operands) e).0

  pub begin_lent : Lent len
  begin_lent = lent len order areas table begin_bounded

  pub begin_areas : judge_areas len areas ≡ passed
  begin_areas = areas_pass len order areas table begin_bounded

  pub begin_fits : Fits (machine_of order areas table len) len
  begin_fits = passed_fits len order areas table begin_bounded

  pub begin_checked : Checked kinds operands
  unfolding judge_begin
  begin_checked = arrays_checked kinds operands (both_pass (judge_bounded len order areas table) (judged_arrays kinds operands) e).1

-- the table of a listing whose image passed
pub image_settled : (kinds operands : List ℕ) (table : List ItemRow) (base : ℕ) (cells : CellCount) (room : Judged) (image : Image) → Checked kinds operands
    → length table ≡ length kinds → Rows (listed kinds operands) table (length kinds) → cells ≡ cell_count (image_cells (listed kinds operands))
    → image.base.0 ≡ base → image.cells ≡ cells → judge_image base cells.0 room ≡ passed → Settled kinds operands table image
unfolding judge_image
image_settled kinds operands table base cells room image ok whole rs e b c j =
    record {
      checked = ok;
      whole = whole;
      rows = rs;
      size = ap (λ (x : CellCount). x.0) (c ∙ e);
      place = rw (b, c) (both_pass (judged_place base cells.0) room j).0;
    }

-- the code's value of a run, and back
ending_back : (e : Ending) → ending_of (course_of e) ≡ e
ending_back ending.GoesOn = refl
ending_back (ending.Stopped x) = refl
ending_back (ending.Outside why) = refl

course_back : (c : Course) → course_of (ending_of c) ≡ c
course_back goes_on = refl
course_back (stopped_by x) = refl
course_back (stood_outside why) = refl

pub run_back : (m : List ℕ) (x : ItemRun) → ran_of (run_as m x) ≡ x
run_back m x = ap (λ (e : Ending). record { stand = x.stand; items = x.items; cycles = x.cycles; ending = e }) (ending_back x.ending)

pub run_there : (r : Run) → run_as r.position.memory (ran_of r) ≡ r
run_there r = ap (λ (c : Course). record { position = r.position; items = r.items; cycles = r.cycles; course = c }) (course_back r.course)
