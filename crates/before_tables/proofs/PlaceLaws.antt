-- Places: where there is no table, a place is judged as it was, and the same is thrown for a fault.
use Rattle.std.specs.Prelude.{Ok, Err}
use Rattle.cell.specs.Place.{Checked}
use mathlib.Core.Path.{◌≡◌, refl}
use mathlib.Core.Bool.{true, false≢true}
use mathlib.Core.List.{List}
use Prim.Native.Nat.{ℕ}
use lib.ListN.{length}
use Rattle.cell.specs.Refusals.{Lent, judge_machine, passed}
use Rattle.cell.specs.declared.Fault.{Fault}
use Rattle.cell.specs.declared.Fault.TheVariants as fault
use Rattle.cell.proofs.JudgementLaws.{both_pass, machine_good}
use Rattle.machine.specs.Places.{Width, one_byte, one_cell, open_to, place_of, fetch_of, fetch_byte_of}
use Rattle.exceptions.specs.Exceptions.{exception_of}
use Rattle.machine.specs.declared.Access.{Access}
use Rattle.machine.specs.declared.Access.TheVariants.{DataRead, DataWrite, ReturnRead, ReturnWrite, NamedRead, NamedWrite, Stream, Push}
use Rattle.areas.specs.Areas.{judge_areas}
use Rattle.areas.specs.declared.Areas.{Areas}
use Rattle.before_tables.specs.Places.{place_before, fetch_before, fetch_byte_before, reading_before}
use Rattle.before_tables.specs.Throws.{exception_before}
use Rattle.before_tables.specs.Answers.{judge_bounded_before}
use Rattle.before_tables.specs.Claims.{Taken, untabled, before, SamePlace, SameException}
use Rattle.before_tables.proofs.EffectLaws.{Judges, good, bad, named, Alike, reads}
use Rattle.before_tables.proofs.MachineLaws.{stack_ends, returns_end, allowed_same, spared}

pub open_true : (c : Checked) → open_to c true ≡ c
open_true (Ok _) = refl
open_true (Err f) = refl

module _ (order len : ℕ) (areas : Areas) (t : Taken order len areas) where
  lent : Lent len
  unfolding judge_bounded_before
  lent = (machine_good len order (both_pass (judge_machine len order) (judge_areas len areas) t).0).lent

  areas_pass : judge_areas len areas ≡ passed
  unfolding judge_bounded_before
  areas_pass = (both_pass (judge_machine len order) (judge_areas len areas) t).1

  -- in a memory of any size
  module _ (size a : ℕ) where
    cells : (access : Access) → place_of (untabled order len areas) one_cell access size a ≡ place_before (before order len areas) one_cell access size a
    unfolding place_of place_before
    cells access =
        rw (spared (untabled order len areas) refl access a, allowed_same order len areas lent areas_pass access a) (open_true _)

    pub place_same : (w : Width) (access : Access) → named w access ≡ true
        → place_of (untabled order len areas) w access size a ≡ place_before (before order len areas) w access size a
    unfolding place_of place_before
    place_same one_cell access n = cells access
    place_same one_byte NamedRead n = open_true _
    place_same one_byte NamedWrite n = rw (spared (untabled order len areas) refl NamedWrite a) (open_true _)
    place_same one_byte DataRead n = absurd (false≢true n)
    place_same one_byte DataWrite n = absurd (false≢true n)
    place_same one_byte ReturnRead n = absurd (false≢true n)
    place_same one_byte ReturnWrite n = absurd (false≢true n)
    place_same one_byte Stream n = absurd (false≢true n)
    place_same one_byte Push n = absurd (false≢true n)

  pub told_same : (f : Fault) → exception_of (untabled order len areas) f ≡ exception_before (before order len areas) f
  unfolding exception_of exception_before
  told_same (fault.Range a) = refl
  told_same (fault.Alignment a) = refl
  told_same (fault.Data a) = rw (stack_ends order len areas lent areas_pass).end
  told_same (fault.Return a) = rw (returns_end order len areas lent areas_pass).end
  told_same fault.Table = refl
  told_same fault.Divisor = refl
  told_same fault.Illegal = refl
  told_same fault.Library = refl

  judges : (c : Checked) → Judges (untabled order len areas) (exception_before (before order len areas)) c c
  judges (Ok _) = good
  judges (Err f) = bad (told_same f)

  pub judged_same : (size a : ℕ) (w : Width) (access : Access) → named w access ≡ true
      → Judges (untabled order len areas) (exception_before (before order len areas)) (place_of (untabled order len areas) w access size a)
      (place_before (before order len areas) w access size a)
  judged_same size a w access n = rw (place_same size a w access n) (judges (place_before (before order len areas) w access size a))

  -- so a memory is read as it was
  pub alike : (m : List ℕ)
      → Alike (untabled order len areas) (exception_before (before order len areas)) m (reading_before (before order len areas) m)
  unfolding fetch_of fetch_byte_of fetch_before fetch_byte_before
  alike m =
      record {
        cells = λ access a. reads _ (judged_same (length m) a one_cell access refl);
        bytes = λ a. reads _ (judged_same (length m) a one_byte NamedRead refl);
        range = λ a. told_same (fault.Range a);
        unaligned = λ a. told_same (fault.Alignment a);
        divisor = told_same fault.Divisor;
        illegal = told_same fault.Illegal;
        library = told_same fault.Library;
      }

pub same_place : SamePlace
same_place order len areas t a = (
  λ access. place_same order len areas t len a one_cell access refl,
  place_same order len areas t len a one_byte NamedRead refl,
  place_same order len areas t len a one_byte NamedWrite refl,
)

pub same_exception : SameException
same_exception order len areas t f = told_same order len areas t f
