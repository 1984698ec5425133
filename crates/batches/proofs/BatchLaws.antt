-- Where the loop over the forms stands.
-- Assumes nothing.
use mathlib.Core.Path.{◌≡◌, sym, ap, ◌∙◌}
use mathlib.Core.List.{List, [], ◌∷◌}
use Prim.Native.Nat.{ℕ, zero, suc, ◌+◌, ◌*◌, ◌≤◌, ◌<◌}
use native.Mathlib.Nat.{suc-mul}
use native.Mathlib.Omega.{arith}
use lib.ListN.{length, take, drop}
use lib.Seq.{drop-drop}
use Rattle.areas.specs.declared.RegisterFile.{RegisterFile}
use Rattle.processor.specs.Answers.{RunAnswered, RunAnswer, ran_to, given_of, run_answer}
use Rattle.batch_forms.specs.Forms.{forms_of, formed}
use Rattle.batch_reports.specs.declared.Tally.{Tally}
use Rattle.batch_reports.specs.Reports.{tally_of, added}
use Rattle.batch_reports.specs.Conditions.{Within}
use Rattle.batch_reports.proofs.TallyLaws.{added_assoc, tally_append}
use Rattle.batches.specs.Batches.{Common, Forms, forms_in, single, runs_of, last_memory}

-- a form that was laid into memory and run there, by what `lay_form`, `run`, `count_run` and `add` promise
module _ (b : Common) (form laid next : List ℕ) (a : RunAnswered) (t one u : Tally) (lay : laid ≡ formed b.start b.address form)
    (ran : ran_to b.registers b.budget next a ≡ run_answer (given_of b.setting.order b.setting.table laid b.registers b.budget)) where
  as_single : ran_to b.registers b.budget next a ≡ single b form
  as_single =
      ran ∙ ap (λ (m : List ℕ). run_answer (given_of b.setting.order b.setting.table m b.registers b.budget)) lay

  pub run_counted : ((r : RegisterFile) (m : List ℕ) → one ≡ tally_of (ran_to r b.budget m a ∷ [])) → u ≡ added t one
      → u ≡ added t (tally_of (single b form ∷ []))
  run_counted c q = q ∙ ap (added t) (c b.registers next ∙ ap (λ (x : RunAnswer). tally_of (x ∷ [])) as_single)

  pub run_left : next ≡ (single b form).memory
  run_left = ap (λ (x : RunAnswer). x.memory) as_single

-- after k forms, at a place of the buffer, with so many left: the runs of these give the whole, in figures and in memory
pub record Standing (b : Common) (f : Forms) (m now : List ℕ) (t : Tally) (at k : ℕ) : Type 0 where
  pub left : ℕ
  pub parted : k + left ≡ f.count
  pub long : length now ≡ length b.start
  pub room : at + left * f.size ≤ length f.buffer
  pub within : Within t
  pub counted : t.forms ≡ k
  pub figures : added t (tally_of (runs_of b (forms_of left f.size (drop at f.buffer)))) ≡ tally_of (runs_of b (forms_in f))
  pub memory : last_memory now (runs_of b (forms_of left f.size (drop at f.buffer))) ≡ last_memory m (runs_of b (forms_in f))

module _ (b : Common) (f : Forms) (m : List ℕ) where
  -- a form more, once it has run
  module _ (now next : List ℕ) (t u : Tally) (at k : ℕ) (form : List ℕ) (e : form ≡ take f.size (drop at f.buffer))
      (q : u ≡ added t (tally_of (single b form ∷ []))) (w : Within u) (n : next ≡ (single b form).memory) (long : length next ≡ length b.start) where
    -- the runs still to come, once it is taken off
    rest : ℕ → List RunAnswer
    rest l = runs_of b (forms_of l f.size (drop (at + f.size) f.buffer))

    same : (l : ℕ) → single b form ∷ rest l ≡ runs_of b (forms_of (suc l) f.size (drop at f.buffer))
    unfolding rest
    same l = rw (e, drop-drop f.size at f.buffer)

    figures : (l : ℕ) → added u (tally_of (rest l)) ≡ added t (tally_of (runs_of b (forms_of (suc l) f.size (drop at f.buffer))))
    figures l =
        ap (λ (x : Tally). added x (tally_of (rest l))) q ∙ added_assoc t (tally_of (single b form ∷ [])) (tally_of (rest l))
        ∙ ap (added t) (sym (tally_append (single b form ∷ []) (rest l))) ∙ ap (λ (rs : List RunAnswer). added t (tally_of rs)) (same l)

    memory : (l : ℕ) → last_memory next (rest l) ≡ last_memory now (runs_of b (forms_of (suc l) f.size (drop at f.buffer)))
    memory l =
        ap (λ (x : List ℕ). last_memory x (rest l)) n ∙ ap (λ (rs : List RunAnswer). last_memory now rs) (same l)

    pub batch_goes_on : k < f.count → Standing b f m now t at k → Standing b f m next u (at + f.size) (k + 1)
    unfolding rest
    batch_goes_on h s = go s.left s.parted s.room s.figures s.memory
      where
        go : (l : ℕ) → k + l ≡ f.count → at + l * f.size ≤ length f.buffer
            → added t (tally_of (runs_of b (forms_of l f.size (drop at f.buffer)))) ≡ tally_of (runs_of b (forms_in f))
            → last_memory now (runs_of b (forms_of l f.size (drop at f.buffer))) ≡ last_memory m (runs_of b (forms_in f))
            → Standing b f m next u (at + f.size) (k + 1)
        go zero p r x y = absurd (omega arith)
        go (suc l) p r x y =
            record {
              left = l;
              parted = omega arith;
              long = long;
              room = omega (arith, suc-mul l f.size);
              within = w;
              counted = ap (λ (v : Tally). v.forms) q ∙ ap (λ (v : ℕ). v + 1) s.counted;
              figures = figures l ∙ x;
              memory = memory l ∙ y;
            }
