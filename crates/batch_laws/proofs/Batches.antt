-- Batches in any order and in parts, of no form, refused, and form by form.
-- Assumes nothing.
use Rattle.std.specs.Prelude.{Ok, Err}
use Rattle.cell.specs.Refusals.{Judged, passed}
use mathlib.Core.Path.{◌≡◌, refl, sym, ap, ap₂, ◌∙◌}
use mathlib.Core.List.{List, [], ◌++◌, map}
use Prim.Native.Nat.{ℕ, zero, suc, ◌+◌, ◌*◌, ◌≤◌}
use native.Mathlib.Nat.{add-mul, suc-mul, mul-le-mul_right}
use native.Mathlib.Omega.{arith}
use lib.ListN.{length, take, drop, length-drop, length-map}
use Rattle.cell.proofs.JudgementLaws.{refusal_some}
use Rattle.permutations.specs.Permutations.{Permuted}
use Rattle.permutations.proofs.PermutationLaws.{map_append, permuted_map}
use Rattle.bounds.specs.Bounds.{judge_bounded}
use Rattle.processor_laws.proofs.BudgetLaws.{run_keeps_length}
use Rattle.batch_forms.specs.Forms.{forms_of, formed}
use Rattle.batch_reports.specs.Reports.{report_of, together}
use Rattle.batch_judging.proofs.JudgementLaws.{Good, batch_good, good_passes}
use Rattle.batches.specs.Batches.{Common, Forms, forms_given, forms_in, given_to, single, runs_of, last_memory, BatchAnswer, batched_to, judge_common, batch_if, batch_answer}
use Rattle.batch_laws.specs.Claims.{SameReport, InAnyOrder, front, behind, Cut, PartsAddUp, PartsMake, EmptyBatch, RefusedBatch, EachCountedOnce, form_at, AsTheLastLeft, EachIsRun}
use Rattle.batch_laws.proofs.Reports.{reports_in_any_order, report_append}
use Rattle.batch_laws.proofs.Forms.{forms_parted, forms_length, form_length, formed_length}
use Rattle.batch_laws.proofs.Runs.{run_in_time, AllInTime, no_run, one_more, ways_once, last_append, cycles_most, largest_most}

-- a batch that no ground refuses
abbrev pub GoodBatch : Common → ℕ → Forms → Type 0
GoodBatch b lent f =
    Good b.setting.order (length b.start) lent b.registers.areas b.setting.table b.address f.size (length f.buffer) f.count

module _ (b : Common) (m : List ℕ) (f : Forms) where
  passed_if : (j : Judged) → (batch_if j b m f).number ≡ 0 → j ≡ passed
  passed_if (Err n) e = absurd (refusal_some n e)
  passed_if (Ok _) e = refl

  pub good_if_accepted : (batch_answer b m f).number ≡ 0 → GoodBatch b (length m) f
  unfolding batch_answer
  good_if_accepted e = batch_good _ _ _ _ _ _ _ _ _ (passed_if (judge_common b (length m) f) e)

  -- what a good batch answers
  pub good_answer : GoodBatch b (length m) f
      → batch_answer b m f ≡ batched_to (last_memory m (runs_of b (forms_in f))) (Ok (report_of (runs_of b (forms_in f))))
  unfolding batch_answer
  good_answer g = rw (good_passes _ _ _ _ _ _ _ _ _ g)

  pub good_number : GoodBatch b (length m) f → (batch_answer b m f).number ≡ 0
  good_number g = ap (λ (s : BatchAnswer). s.number) (good_answer g)

  pub good_report : GoodBatch b (length m) f → (batch_answer b m f).report ≡ report_of (runs_of b (forms_in f))
  good_report g = ap (λ (s : BatchAnswer). s.report) (good_answer g)

  pub good_memory : GoodBatch b (length m) f → (batch_answer b m f).memory ≡ last_memory m (runs_of b (forms_in f))
  good_memory g = ap (λ (s : BatchAnswer). s.memory) (good_answer g)

  -- a batch that is refused
  refused_if : (j : Judged) → ((batch_if j b m f).number ≡ 0 → ⊥) → ((batch_if j b m f).report ≡ report_of []) × ((batch_if j b m f).memory ≡ m)
  refused_if (Err n) h = (refl, refl)
  refused_if (Ok _) h = absurd (h refl)

  pub as_refused : ((batch_answer b m f).number ≡ 0 → ⊥) → ((batch_answer b m f).report ≡ report_of []) × ((batch_answer b m f).memory ≡ m)
  unfolding batch_answer
  as_refused h = refused_if (judge_common b (length m) f) h

  -- a batch of no form
  empty_if : (j : Judged) → f.count ≡ 0 → ((batch_if j b m f).report ≡ report_of []) × ((batch_if j b m f).memory ≡ m)
  empty_if (Err n) e = (refl, refl)
  empty_if (Ok _) e = rw e (refl, refl)

  pub as_empty : f.count ≡ 0 → ((batch_answer b m f).report ≡ report_of []) × ((batch_answer b m f).memory ≡ m)
  unfolding batch_answer
  as_empty e = empty_if (judge_common b (length m) f) e

pub refused_batch : RefusedBatch
refused_batch = as_refused

pub empty_batch : EmptyBatch
empty_batch = as_empty

-- the same forms in another order
ordered_if : (b : Common) (m : List ℕ) (f : Forms) (other : List ℕ) (j : Judged)
    → Permuted (forms_in f) (forms_in (forms_given other f.count f.size))
    → SameReport (batch_if j b m (forms_given other f.count f.size)) (batch_if j b m f)
ordered_if b m f other (Err n) p = record { number = refl; report = refl }
ordered_if b m f other (Ok _) p =
    record {
      number = refl;
      report = reports_in_any_order _ _ (permuted_map (single b) (forms_in f) (forms_in (forms_given other f.count f.size)) p);
    }

pub in_any_order : InAnyOrder
unfolding batch_answer
in_any_order b m f other l p = rw l (ordered_if b m f other (judge_common b (length m) f) p)

-- forms that lie whole in a buffer, and fit where they go
module _ (b : Common) (size : ℕ) (inside : b.address + size ≤ length b.start) where
  laid_length : (buffer : List ℕ) → size ≤ length buffer → length (formed b.start b.address (take size buffer)) ≡ length b.start
  laid_length buffer h =
      let e : length (take size buffer) ≡ size = form_length size 0 buffer (omega arith) in
      formed_length b.start (take size buffer) b.address (rw e inside)

  room_first : (n : ℕ) (buffer : List ℕ) → suc n * size ≤ length buffer → size ≤ length buffer
  room_first n buffer h = omega (arith, suc-mul n size)

  room_rest : (n : ℕ) (buffer : List ℕ) → suc n * size ≤ length buffer → n * size ≤ length (drop size buffer)
  room_rest n buffer h = simp length-drop (omega (arith, suc-mul n size))

  -- the memory stays as long as the start memory
  pub last_length : (n : ℕ) (buffer m : List ℕ) → n * size ≤ length buffer → length m ≡ length b.start
      → length (last_memory m (runs_of b (forms_of n size buffer))) ≡ length b.start
  last_length zero buffer m h e = e
  last_length (suc n) buffer m h e =
      last_length n (drop size buffer) (single b (take size buffer)).memory (room_rest n buffer h)
      (run_keeps_length (given_to b (take size buffer)) ∙ laid_length buffer (room_first n buffer h))

  -- every run is accepted
  pub all_in_time : (n : ℕ) (buffer : List ℕ) → n * size ≤ length buffer
      → judge_bounded (length b.start) b.setting.order b.registers.areas b.setting.table ≡ passed
      → AllInTime b.budget (runs_of b (forms_of n size buffer))
  all_in_time zero buffer h j = no_run
  all_in_time (suc n) buffer h j =
      one_more (run_in_time (given_to b (take size buffer)) (rw (laid_length buffer (room_first n buffer h)) j))
      (all_in_time n (drop size buffer) (room_rest n buffer h) j)

-- a batch cut in two
module _ (b : Common) (m : List ℕ) (f : Forms) (k n : ℕ) (parted : k + n ≡ f.count) where
  bytes : k * f.size + n * f.size ≡ f.count * f.size
  bytes = sym (add-mul k n f.size) ∙ ap (λ (i : ℕ). i * f.size) parted

  runs_parted : runs_of b (forms_in f) ≡ runs_of b (forms_in (front k f)) ++ runs_of b (forms_in (behind k n f))
  runs_parted =
      ap (λ (i : ℕ). runs_of b (forms_of i f.size f.buffer)) (sym parted)
      ∙ ap (map (single b)) (forms_parted f.size k n f.buffer)
      ∙ map_append (single b) (forms_in (front k f)) (forms_in (behind k n f))

  front_good : GoodBatch b (length m) f → GoodBatch b (length m) (front k f)
  front_good g = record { long = g.long; bounded = g.bounded; inside = g.inside; enough = omega (arith, bytes, g.enough) }

  behind_good : GoodBatch b (length m) f → GoodBatch b (length (batch_answer b m (front k f)).memory) (behind k n f)
  behind_good g =
      record {
        long =
            ap length (good_memory b m (front k f) (front_good g))
            ∙ last_length b f.size g.inside k f.buffer m (front_good g).enough g.long;
        bounded = g.bounded;
        inside = g.inside;
        enough = simp length-drop (omega (arith, bytes, g.enough));
      }

  pub cut_batch : GoodBatch b (length m) f → Cut b m f k n
  cut_batch g =
      let first = front_good g in
      let second = behind_good g in
      let left = (batch_answer b m (front k f)).memory in
      record {
        first = good_number b m (front k f) first;
        second = good_number b left (behind k n f) second;
        report =
            good_report b m f g ∙ ap report_of runs_parted
            ∙ report_append (runs_of b (forms_in (front k f))) (runs_of b (forms_in (behind k n f)))
            ∙ sym (ap₂ together (good_report b m (front k f) first) (good_report b left (behind k n f) second));
        memory =
            good_memory b m f g ∙ ap (last_memory m) runs_parted
            ∙ last_append m (runs_of b (forms_in (front k f))) (runs_of b (forms_in (behind k n f)))
            ∙ ap (λ (l : List ℕ). last_memory l (runs_of b (forms_in (behind k n f)))) (sym (good_memory b m (front k f) first))
            ∙ sym (good_memory b left (behind k n f) second);
      }

  pub parts_good : GoodBatch b (length m) (front k f) → GoodBatch b (length (batch_answer b m (front k f)).memory) (behind k n f)
      → GoodBatch b (length m) f
  parts_good p q =
      record {
        long = p.long;
        bounded = p.bounded;
        inside = p.inside;
        enough = omega (arith, bytes, p.enough, q.enough, length-drop (k * f.size) f.buffer);
      }

pub parts_add_up : PartsAddUp
parts_add_up b m f k n e h = cut_batch b m f k n e (good_if_accepted b m f h)

pub parts_make : PartsMake
parts_make b m f k n e h i =
    good_number b m f
    (parts_good b m f k n e (good_if_accepted b m (front k f) h)
    (good_if_accepted b (batch_answer b m (front k f)).memory (behind k n f) i))

-- every form counted once
pub each_counted_once : EachCountedOnce
each_counted_once b m f h =
    let g = good_if_accepted b m f h in
    let runs = runs_of b (forms_in f) in
    let t = all_in_time b f.size g.inside f.count f.buffer g.enough g.bounded in
    let n : length runs ≡ f.count = length-map (forms_in f) (single b) ∙ forms_length f.size f.count f.buffer in
    rw (good_report b m f g) (
    record {
      forms = n;
      ways = ways_once b.budget runs t ∙ n;
      cycles = rw n at (cycles_most runs);
      largest = largest_most b.budget runs t;
    }
    )

-- the last form, and each of them
last_form : (b : Common) (f : Forms) (m : List ℕ) (k : ℕ) → f.count ≡ suc k
    → last_memory m (runs_of b (forms_in f)) ≡ (single b (form_at f k)).memory
last_form b f m k e =
    let s : k + 1 ≡ f.count = omega (arith, e) in
    ap (last_memory m) (runs_parted b m f k 1 s)
    ∙ last_append m (runs_of b (forms_in (front k f))) (runs_of b (forms_in (behind k 1 f)))

pub as_the_last_left : AsTheLastLeft
as_the_last_left b m f k e h = good_memory b m f (good_if_accepted b m f h) ∙ last_form b f m k e

pub each_is_run : EachIsRun
each_is_run b m f h k l =
    let g = good_if_accepted b m f h in
    let i : k * f.size + f.size ≤ length f.buffer =
    omega (arith, g.enough, suc-mul k f.size, mul-le-mul_right {m = suc k} {n = f.count} f.size (omega arith)) in
    let long = formed_length b.start (form_at f k) b.address (rw (form_length f.size (k * f.size) f.buffer i) g.inside) in
    (run_in_time (given_to b (form_at f k)) (rw long g.bounded)).ended
