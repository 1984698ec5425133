-- A judgement passes exactly if the conditions hold.
use mathlib.Core.Path.{◌≡◌, refl, sym, ap, ◌∙◌}
use mathlib.Core.Bool.{true, not, ◌||◌}
use mathlib.Core.List.{List, [], ◌∷◌}
use Prim.Native.Nat.{ℕ, suc, ◌+◌, ◌*◌, ◌%◌, ◌≤◌}
use native.Mathlib.Omega.{arith}
use lib.Dec.{leb, ltb, eqb}
use lib.ListN.{length, get_or, take, drop}
use lib.Seq.{drop-cons}
use borrow.Author.Tests.{ltb-false, leb-false, eqb-true, not-false, le-ltb, lt-leb, eq-eqb}
use Rattle.cell.specs.Refusals.{passed, judge, judge_machine, GoodMachine}
use Rattle.cell.specs.declared.Refusal.TheVariants.{Header, FileLength, Unaligned, Outside, ShortOutput}
use Rattle.cell.proofs.BooleanLaws.{both_true, neither}
use Rattle.cell.proofs.JudgementLaws.{both_pass, one_clear, machine_good}
use Rattle.module_judging.specs.Format.{title, order_of, count_of}
use Rattle.module_judging.specs.Grounds.{stands_at, titled, header, file_length, outside, short_output, judge_file, judge_place, judge_load, judge_save}
use Rattle.module_judging.specs.Conditions.{GoodFile, GoodPlace, Loadable, Savable}
use Rattle.module_judging.proofs.JudgeLaws.{load_parts, save_parts}

pub good_machine : (len order : ℕ) → GoodMachine len order → judge_machine len order ≡ passed
unfolding judge_machine
good_machine len order g =
    rw (le-ltb len 1024 g.lent.least, le-ltb 16777216 len g.lent.most, eq-eqb (len % 4) 0 g.lent.whole, le-ltb 1 order g.known)

-- bytes found one by one, and bytes taken at once
stands_taken : (file : List ℕ) (at : ℕ) (xs : List ℕ) → at + length xs ≤ length file → stands_at file at xs ≡ true
    → take (length xs) (drop at file) ≡ xs
stands_taken file at [] h e = refl
stands_taken file at (x ∷ xs) h e =
    let p = both_true (eqb (get_or file at 0) x) (stands_at file (suc at) xs) e in
    rw (drop-cons file at 0 (omega arith), eqb-true (get_or file at 0) x p.0)
    (ap (λ (l : List ℕ). x ∷ l) (stands_taken file (suc at) xs (omega arith) p.1))

taken_stands : (file : List ℕ) (at : ℕ) (xs : List ℕ) → at + length xs ≤ length file → take (length xs) (drop at file) ≡ xs
    → stands_at file at xs ≡ true
taken_stands file at [] h e = refl
taken_stands file at (x ∷ xs) h e =
    let d : get_or file at 0 ∷ take (length xs) (drop (suc at) file) ≡ x ∷ xs =
    sym (ap (take (suc (length xs))) (drop-cons file at 0 (omega arith))) ∙ e in
    let p : get_or file at 0 ≡ x = cc in
    let q : take (length xs) (drop (suc at) file) ≡ xs = cc in
    rw (eq-eqb (get_or file at 0) x p, taken_stands file (suc at) xs (omega arith) q)

pub file_good : (file : List ℕ) → judge_file file ≡ passed → GoodFile file
unfolding judge_file
file_good file e =
    let p = one_clear (header file).applies Header (judge (file_length file ∷ [])) e in
    let q = one_clear (file_length file).applies FileLength passed p.1 in
    let s = neither (ltb (length file) 8) (not (titled file) || ltb 1 (order_of file)) p.0 in
    let t = neither (not (titled file)) (ltb 1 (order_of file)) s.1 in
    let u = neither (ltb (length file) 12) (not (eqb (length file) (12 + 4 * count_of file))) q.0 in
    let l : 8 ≤ length file = ltb-false (length file) 8 s.0 in
    record {
      titled = stands_taken file 0 title (omega arith) (not-false (titled file) t.0);
      known = ltb-false 1 (order_of file) t.1;
      whole =
          eqb-true (length file) (12 + 4 * count_of file) (not-false (eqb (length file) (12 + 4 * count_of file)) u.1);
    }

pub good_file : (file : List ℕ) → GoodFile file → judge_file file ≡ passed
unfolding judge_file
good_file file g =
    let w : length file ≡ 12 + 4 * count_of file = g.whole in
    let t : titled file ≡ true = taken_stands file 0 title (omega arith) g.titled in
    rw (le-ltb (length file) 8 (omega arith), t, le-ltb 1 (order_of file) g.known, le-ltb (length file) 12 (omega arith), eq-eqb (length file) (12 + 4 * count_of file) w)

pub place_good : (len a l : ℕ) → judge_place len a l ≡ passed → GoodPlace len a l
unfolding judge_place
place_good len a l e =
    let p = one_clear (not (eqb (a % 4) 0)) Unaligned (judge (outside len a l ∷ [])) e in
    let q = one_clear (leb len a || ltb len (a + 4 * l)) Outside passed p.1 in
    let s = neither (leb len a) (ltb len (a + 4 * l)) q.0 in
    record {
      aligned = eqb-true (a % 4) 0 (not-false (eqb (a % 4) 0) p.0);
      inside = leb-false len a s.0;
      room = ltb-false len (a + 4 * l) s.1;
    }

pub good_place : (len a l : ℕ) → GoodPlace len a l → judge_place len a l ≡ passed
unfolding judge_place
good_place len a l g =
    rw (eq-eqb (a % 4) 0 g.aligned, lt-leb len a g.inside, le-ltb len (a + 4 * l) g.room)

pub load_good : (order : ℕ) (m file : List ℕ) (a : ℕ) → judge_load (length m) order file a ≡ passed → Loadable order m file a
load_good order m file a e =
    let p = both_pass (judge_machine (length m) order) _ (sym (load_parts (length m) order file a) ∙ e) in
    let q = both_pass (judge_file file) (judge_place (length m) a (count_of file)) p.1 in
    record {
      machine = machine_good (length m) order p.0;
      format = file_good file q.0;
      place = place_good (length m) a (count_of file) q.1;
    }

pub good_load : (order : ℕ) (m file : List ℕ) (a : ℕ) → Loadable order m file a → judge_load (length m) order file a ≡ passed
good_load order m file a g =
    rw (load_parts (length m) order file a, good_machine (length m) order g.machine, good_file file g.format)
    (good_place (length m) a (count_of file) g.place)

pub save_good : (order : ℕ) (m : List ℕ) (a l : ℕ) (out : List ℕ) → judge_save (length m) order a l (length out) ≡ passed
    → Savable order m a l out
save_good order m a l out e =
    let p = both_pass (judge_machine (length m) order) _ (sym (save_parts (length m) order a l (length out)) ∙ e) in
    let q = both_pass (judge_place (length m) a l) (judge (short_output (length out) l ∷ [])) p.1 in
    let s = one_clear (ltb (length out) (12 + 4 * l)) ShortOutput passed q.1 in
    record {
      machine = machine_good (length m) order p.0;
      place = place_good (length m) a l q.0;
      room = ltb-false (length out) (12 + 4 * l) s.0;
    }

pub good_save : (order : ℕ) (m : List ℕ) (a l : ℕ) (out : List ℕ) → Savable order m a l out
    → judge_save (length m) order a l (length out) ≡ passed
good_save order m a l out g =
    rw (save_parts (length m) order a l (length out), good_machine (length m) order g.machine, good_place (length m) a l g.place)
    (rw (le-ltb (length out) (12 + 4 * l) g.room))
