-- Reports in any order and in any number of parts, and the mean.
-- Assumes nothing.
use mathlib.Core.Path.{◌≡◌, refl, sym, ap, ◌∙◌}
use mathlib.Core.Bool.{Bool, true, false}
use mathlib.Core.List.{List, [], ◌∷◌, ◌++◌}
use Prim.Native.Nat.{◌+◌, ◌<◌}
use native.Mathlib.Nat.{div-add-mod', mod-lt}
use native.Mathlib.Omega.{arith}
use borrow.Author.Tests.{eqb-true, eqb-false}
use lib.Dec.{eqb}
use Rattle.permutations.specs.Permutations.{Permuted, none, taken}
use Rattle.processor.specs.Answers.{RunAnswer}
use Rattle.batch_reports.specs.declared.Tally.{Tally}
use Rattle.batch_reports.specs.Reports.{tally_of, added, reported, report_of, together}
use Rattle.batch_reports.proofs.TallyLaws.{added_assoc, added_comm, tally_append}
use Rattle.batch_laws.specs.Claims.{ReportsInAnyOrder, joined, ReportsAddUp, IsMean, MeanIsExact}

-- a run more, wherever it stands
tally_insert : (x : RunAnswer) (before behind : List RunAnswer) → tally_of (before ++ x ∷ behind) ≡ tally_of (x ∷ before ++ behind)
tally_insert x before behind =
    let one = tally_of (x ∷ []) in
    tally_append before (x ∷ behind) ∙ ap (added (tally_of before)) (tally_append (x ∷ []) behind)
    ∙ sym (added_assoc (tally_of before) one (tally_of behind))
    ∙ ap (λ (t : Tally). added t (tally_of behind)) (added_comm (tally_of before) one) ∙ added_assoc one (tally_of before) (tally_of behind)
    ∙ ap (added one) (sym (tally_append before behind)) ∙ sym (tally_append (x ∷ []) (before ++ behind))

pub tally_permuted : (xs ys : List RunAnswer) → Permuted xs ys → tally_of ys ≡ tally_of xs
tally_permuted xs ys none = refl
tally_permuted xs ys (taken x rest before behind q) =
    tally_insert x before behind ∙ tally_append (x ∷ []) (before ++ behind)
    ∙ ap (added (tally_of (x ∷ []))) (tally_permuted rest (before ++ behind) q) ∙ sym (tally_append (x ∷ []) rest)

pub reports_in_any_order : ReportsInAnyOrder
reports_in_any_order runs others p = ap reported (tally_permuted runs others p)

pub report_append : (xs ys : List RunAnswer) → report_of (xs ++ ys) ≡ together (report_of xs) (report_of ys)
report_append xs ys = ap reported (tally_append xs ys)

pub reports_add_up : ReportsAddUp
reports_add_up [] = refl
reports_add_up (p ∷ ps) = report_append p (joined ps) ∙ ap (together (report_of p)) (reports_add_up ps)

-- quotient and remainder, by whether there is a form
mean_of_lem : (t : Tally) (z : Bool) → eqb t.forms 0 ≡ z → (t.forms ≡ 0 → t.cycles ≡ 0) → IsMean (reported t)
mean_of_lem t true e h =
    let n = eqb-true t.forms 0 e in
    record {
      whole = rw e (omega (arith, n, h n));
      below = λ (p : 0 < t.forms). absurd (omega (arith, n, p));
      none = λ (q : t.forms ≡ 0). rw e (refl, refl);
    }
mean_of_lem t false e h =
    let n = eqb-false t.forms 0 e in
    record {
      whole = rw e (div-add-mod' t.cycles t.forms);
      below = λ (p : 0 < t.forms). rw e (mod-lt t.cycles p);
      none = λ (q : t.forms ≡ 0). absurd (n q);
    }

no_cycles : (runs : List RunAnswer) → (tally_of runs).forms ≡ 0 → (tally_of runs).cycles ≡ 0
no_cycles [] e = refl
no_cycles (r ∷ rs) e = absurd (omega arith)

pub mean_is_exact : MeanIsExact
mean_is_exact runs = mean_of_lem (tally_of runs) (eqb (tally_of runs).forms 0) refl (no_cycles runs)
