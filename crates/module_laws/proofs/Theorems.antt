-- The theorems of specs/Theorems.antt.
use mathlib.Core.Path.{◌≡◌, refl, sym, ap, subst, ◌∙◌}
use mathlib.Core.List.{List, ◌++◌, append_assoc}
use mathlib.Core.Logic.{inl, inr}
use Prim.Native.Nat.{ℕ, ◌+◌, ◌*◌, ◌^◌, ◌≤◌, ◌<◌, min}
use native.Mathlib.Omega.{arith}
use lib.ListN.{length, take, drop, take-append-drop, length-drop}
use lib.Seq.{paste, take_at, drop_at, take_all, length-take-le}
use Rattle.cell.specs.Memory.{Bytewise, cell_count}
use Rattle.std.specs.Prelude.{Ok, Err}
use Rattle.cell.specs.Refusals.{Judged, passed, GoodMachine}
use Rattle.cell.proofs.JudgementLaws.{refusal_some}
use Rattle.module_judging.specs.Format.{order_of, count_of, code_of, header_of, module_of}
use Rattle.module_judging.specs.Grounds.{judge_load, judge_save}
use Rattle.module_copying.specs.Copies.{copied}
use Rattle.module_loading.specs.Answers.{LoadResult, loaded_to, load_if, load_of, load_first_of}
use Rattle.module_saving.specs.Answers.{save_if, saved_to, save_of}
use Rattle.module_judging.specs.Conditions.{GoodPlace, Loadable, Savable}
use Rattle.module_laws.specs.Theorems.{AcceptedExactly, SavedExactly, saved_file, SameCells, SavedLoads, LoadedSaves}
use Rattle.module_laws.specs.Firsts.{SavedLoadsFirst}
use Rattle.module_loading.proofs.AnswerLaws.{first_whole}
use Rattle.module_judging.proofs.ConditionLaws.{load_good, good_load, save_good, good_save}
use Rattle.module_copying.proofs.CopyLaws.{copied_length, copied_apart, copied_cell}
use Rattle.module_copying.proofs.SameLaws.{copied_same, drop_bytewise, take_bytewise}
use Rattle.module_laws.proofs.FileLaws.{module_length, module_code, module_order, module-count, module-good, module-cell, header_back}

load_passed : (order : ℕ) (m file : List ℕ) (a n : ℕ) (j : Judged) → (load_if j order m file a n).number ≡ 0 → j ≡ passed
load_passed order m file a n (Ok _) e = refl
load_passed order m file a n (Err r) e = absurd (refusal_some r e)

save_passed : (order : ℕ) (m : List ℕ) (a l : ℕ) (out : List ℕ) (j : Judged) → (save_if j order m a l out).number ≡ 0 → j ≡ passed
save_passed order m a l out (Ok _) e = refl
save_passed order m a l out (Err r) e = absurd (refusal_some r e)

-- a file is accepted exactly if the listed conditions hold
pub accepted_exactly : AcceptedExactly
unfolding load_of
accepted_exactly order m file a =
    record {
      if = λ (g : Loadable order m file a). rw (good_load order m file a g);
      only = λ (e : (load_of order m file a).number ≡ 0). load_good order m file a (load_passed order m file a (count_of file) (judge_load (length m) order file a) e);
    }

pub saved_exactly : SavedExactly
unfolding save_of
saved_exactly order m a l out =
    record {
      if = λ (g : Savable order m a l out). rw (good_save order m a l out g);
      only = λ (e : (save_of order m a l out).number ≡ 0). save_good order m a l out (save_passed order m a l out (judge_save (length m) order a l (length out)) e);
    }

-- what an accepted save wrote is the module
pub saved_file_lem : (order : ℕ) (m : List ℕ) (b l : ℕ) (out : List ℕ) → Savable order m b l out
    → saved_file (save_of order m b l out) ≡ module_of order m b l
unfolding save_of
saved_file_lem order m b l out g =
    rw (good_save order m b l out g)
    (take_at (module_of order m b l) (drop (12 + 4 * l) out) (12 + 4 * l) (module_length order m b l g.place.room))

-- where the module is a file, an accepted save leaves that file in front of the rest of the output
saved_whole : (order : ℕ) (m : List ℕ) (a l : ℕ) (out file : List ℕ) → Savable order m a l out → module_of order m a l ≡ file
    → length file ≡ 12 + 4 * l → save_of order m a l out ≡ saved_to (file ++ drop (length file) out) (Ok (length file))
unfolding save_of
saved_whole order m a l out file g e w = rw (good_save order m a l out g, e, w)

-- a good file that is loaded, whole or in part
module _ (order : ℕ) (m file : List ℕ) (a : ℕ) (g : Loadable order m file a) where
  pub load_memory : (load_of order m file a).memory ≡ copied (order_of file) order (code_of file) m a (count_of file)
  unfolding load_of
  load_memory = rw (good_load order m file a g)

  pub first_loads : (k : ℕ)
      → load_first_of order m file a k
      ≡ loaded_to (copied (order_of file) order (code_of file) m a (min k (count_of file))) (Ok (cell_count (min k (count_of file))))
  unfolding load_first_of
  first_loads k = rw (good_load order m file a g)

-- the first cells of the module of the l cells from b on, loaded
module-loads : (theirs : ℕ) (m : List ℕ) (b l : ℕ) → Bytewise m → theirs ≤ 1 → l < 2 ^ 32 → b + 4 * l ≤ length m
    → (ours : ℕ) (lent : List ℕ) (a k : ℕ) → GoodMachine (length lent) ours → GoodPlace (length lent) a l
    → SameCells theirs m b (min k l) ours lent a (load_first_of ours lent (module_of theirs m b l) a k)
module-loads theirs m b l low o h r ours lent a k machine place =
    let n : count_of (module_of theirs m b l) ≡ l = module-count theirs m b l h in
    let g : Loadable ours lent (module_of theirs m b l) a =
    record { machine = machine; format = module-good theirs m b l o h r; place = rw n place } in
    let e : load_first_of ours lent (module_of theirs m b l) a k
    ≡ loaded_to (copied theirs ours (take (4 * l) (drop b m)) lent a (min k l)) (Ok (cell_count (min k l))) =
    first_loads ours lent (module_of theirs m b l) a g k ∙ rw (n, module_order theirs m b l, module_code theirs m b l) in
    rw e
    (record {
      accepted = refl;
      counted = refl;
      cells =
          λ (i : ℕ) (j : i < min k l).
          copied_cell theirs ours (take (4 * l) (drop b m)) lent a (take_bytewise (4 * l) (drop b m) (drop_bytewise b m low)) (min k l)
          (omega (arith, place.room)) i j
          ∙ module-cell theirs m b l i (omega (arith, j));
      long = copied_length theirs ours (take (4 * l) (drop b m)) lent a (min k l);
      below = copied_apart theirs ours (take (4 * l) (drop b m)) lent a 0 a (min k l) (inr (omega arith));
      above = copied_apart theirs ours (take (4 * l) (drop b m)) lent a (a + 4 * min k l) (length lent) (min k l) (inl (omega arith));
    })

-- the first cells of a saved module, loaded on a machine of either byte order, are those that were saved
pub saved_loads_first : SavedLoadsFirst
saved_loads_first theirs m b l out low e ours lent a k machine place =
    let g = (saved_exactly theirs m b l out).only e in
    rw (saved_file_lem theirs m b l out g)
    (module-loads theirs m b l low g.machine.known (omega (arith, g.place.room, g.machine.lent.most)) g.place.room ours lent a k machine place)

-- a saved module loaded on a machine of either byte order, at any address where it fits, gives the same cells
pub saved_loads : SavedLoads
saved_loads theirs m b l out low e ours lent a machine place =
    let file : List ℕ = saved_file (save_of theirs m b l out) in
    let k : ℕ = l + count_of file in
    let n : min k l ≡ l = omega arith in
    let w : load_first_of ours lent file a k ≡ load_of ours lent file a = first_whole ours lent file a k (omega arith) in
    subst (λ (r : LoadResult). SameCells theirs m b l ours lent a r) w
    (subst (λ (i : ℕ). SameCells theirs m b i ours lent a (load_first_of ours lent file a k)) n
    (saved_loads_first theirs m b l out low e ours lent a k machine place))

-- the part of memory that a copy of the machine's own order filled is the code part
own_part : (m : List ℕ) (a : ℕ) (code : List ℕ) (n : ℕ) → a ≤ length m → length code ≡ n
    → take n (drop a (paste m a code n)) ≡ code
own_part m a code n h e =
    rw (append_assoc (take a m) (take n code) (drop (a + n) m), drop_at (take a m) (take n code ++ drop (a + n) m) a (length-take-le a m h))
    (take_at (take n code) (drop (a + n) m) n (length-take-le n code (omega (arith, e))) ∙ take_all n code (omega (arith, e)))

-- the module of the cells where a file of the machine's own order was loaded is that file
own_module : (order : ℕ) (m file : List ℕ) (a : ℕ) → Bytewise file → Loadable order m file a → order_of file ≡ order
    → module_of order (load_of order m file a).memory a (count_of file) ≡ file
unfolding module_of
own_module order m file a low g o =
    let w : length (code_of file) ≡ 4 * count_of file = simp length-drop (omega (arith, g.format.whole)) in
    let s : (load_of order m file a).memory ≡ paste m a (code_of file) (4 * count_of file) =
    load_memory order m file a g
    ∙ ap (λ (t : ℕ). copied t order (code_of file) m a (count_of file)) o
    ∙ copied_same order (code_of file) (drop_bytewise 12 file low) m a (count_of file) g.place.room (omega (arith, w)) in
    rw (s, own_part m a (code_of file) (4 * count_of file) (omega (arith, g.place.inside)) w)
    (ap (λ (t : ℕ). header_of t (count_of file) ++ code_of file) (sym o)
    ∙ ap (λ (t : List ℕ). t ++ code_of file) (header_back file g.format low)
    ∙ take-append-drop 12 file)

-- a module of the machine's own order that was loaded, saved from there, gives back the file byte for byte
pub loaded_saves : LoadedSaves
loaded_saves order m file a low e o out r =
    let g = (accepted_exactly order m file a).only e in
    let n : length (load_of order m file a).memory ≡ length m =
    ap length (load_memory order m file a g) ∙ copied_length (order_of file) order (code_of file) m a (count_of file) in
    let s : Savable order (load_of order m file a).memory a (count_of file) out =
    record { machine = rw n g.machine; place = rw n g.place; room = omega (arith, g.format.whole) } in
    saved_whole order (load_of order m file a).memory a (count_of file) out file s (own_module order m file a low g o) g.format.whole
