-- Runs in two parts: a run that goes on is taken up where it stands, and one that is over stays.
use mathlib.Core.Path.{◌≡◌, refl, sym, ap, ◌∙◌}
use mathlib.Core.Bool.{Bool, true, false, true≢false}
use Prim.Native.Nat.{ℕ, zero, suc, ◌+◌, ◌<◌}
use native.Mathlib.Nat.{add-zero, add_assoc, add-suc}
use native.Mathlib.Omega.{arith}
use borrow.Author.Tests.{lt-ltb, ltb-true}
use lib.Dec.{ltb}
use Rattle.cell.specs.Choice.{if}
use Rattle.machine.specs.declared.Machine.{Machine}
use Rattle.pack_layout.specs.Listing.{Listing}
use Rattle.list_machine.specs.declared.Outside.TheVariants.{PastEnd}
use Rattle.list_machine.specs.ListMachine.{Position, Carried, on, stopped, outside, carry_out, cycles_at}
use Rattle.list_machine.specs.Runs.{Course, goes_on, stopped_by, stood_outside, is_over, Run, further_by, further_in, further, run_of, resuming}
use Rattle.list_machine.specs.Cutting.{joined, CutInTwo, StaysOver}
use Rattle.list_machine.proofs.Within.{Within, carry_within}

module _ (machine : Machine) (base : ℕ) (l : Listing) where
  -- so many items, and then some more
  pub run_cut : (a b : ℕ) (s : Run) → run_of machine base l (a + b) s ≡ run_of machine base l b (run_of machine base l a s)
  unfolding run_of
  run_cut a zero s = ap (λ (k : ℕ). run_of machine base l k s) (add-zero a)
  run_cut a (suc b) s = ap (λ (k : ℕ). run_of machine base l k s) (add-suc a b) ∙ ap (further machine base l) (run_cut a b s)

  over_stays : (s : Run) (c : Course) → is_over c ≡ true → further_in machine base l s c ≡ s
  over_stays s goes_on o = absurd (true≢false (sym o))
  over_stays s (stopped_by x) o = refl
  over_stays s (stood_outside why) o = refl

  pub run_over : (b : ℕ) (s : Run) → is_over s.course ≡ true → run_of machine base l b s ≡ s
  unfolding run_of further
  run_over zero s o = refl
  run_over (suc b) s o = ap (further machine base l) (run_over b s o) ∙ over_stays s s.course o

  -- one item more, with what was done before
  further_by_joined : (s r : Run) (c : Carried) → further_by machine base l (joined s r) c ≡ joined s (further_by machine base l r c)
  further_by_joined s r (on p) = rw (add-suc s.items r.items, add_assoc s.cycles r.cycles (cycles_at machine base l r.position))
  further_by_joined s r (stopped x p) = rw (add-suc s.items r.items, add_assoc s.cycles r.cycles (cycles_at machine base l r.position))
  further_by_joined s r (outside why) = refl

  further_joined : (s r : Run) (c : Course) → further_in machine base l (joined s r) c ≡ joined s (further_in machine base l r c)
  further_joined s r goes_on = further_by_joined s r (carry_out machine base l r.position)
  further_joined s r (stopped_by x) = refl
  further_joined s r (stood_outside why) = refl

  run_joined : (b : ℕ) (s r : Run) → run_of machine base l b (joined s r) ≡ joined s (run_of machine base l b r)
  unfolding run_of further
  run_joined zero s r = refl
  run_joined (suc b) s r = ap (further machine base l) (run_joined b s r) ∙ further_joined s (run_of machine base l b r) (run_of machine base l b r).course

  -- a run that goes on stands in front of an item
  abbrev pub Inside : Run → Type 0
  Inside s = s.course ≡ goes_on → s.position.item < l.count

  by_inside : (s : Run) (c : Carried) → Within l.count c → Inside (further_by machine base l s c)
  by_inside s (on p) h e = h
  by_inside s (stopped x p) h e = absurd (let z : ◌≡◌ {A = ℕ} 0 1 = cc in omega arith)
  by_inside s (outside why) h e = absurd (let z : ◌≡◌ {A = ℕ} 0 1 = cc in omega arith)

  in_inside : (s : Run) (c : Course) → s.course ≡ c → Inside s → Inside (further_in machine base l s c)
  in_inside s goes_on q h = by_inside s (carry_out machine base l s.position) (carry_within machine base l s.position)
  in_inside s (stopped_by x) q h = h
  in_inside s (stood_outside why) q h = h

  pub run_inside : (k : ℕ) (s : Run) → Inside s → Inside (run_of machine base l k s)
  unfolding run_of further
  run_inside zero s h = h
  run_inside (suc k) s h = in_inside (run_of machine base l k s) (run_of machine base l k s).course refl (run_inside k s h)

  pub resuming_inside : (p : Position) → Inside (resuming l p)
  resuming_inside p = go (ltb p.item l.count) refl
    where
      go : (b : Bool) → ltb p.item l.count ≡ b → if b goes_on (stood_outside PastEnd) ≡ goes_on → p.item < l.count
      go true q e = ltb-true p.item l.count q
      go false q e = absurd (let z : ◌≡◌ {A = ℕ} 0 1 = cc in omega arith)

  -- a run that goes on, taken up where it stands
  taken_up : (s : Run) → s.course ≡ goes_on → s.position.item < l.count → s ≡ joined s (resuming l s.position)
  taken_up s q h = rw (lt-ltb s.position.item l.count h, add-zero s.items, add-zero s.cycles, ← q)

pub cut_in_two : CutInTwo
cut_in_two machine base l p a b q =
    let s : Run = run_of machine base l a (resuming l p) in
    run_cut machine base l a b (resuming l p)
    ∙ ap (run_of machine base l b) (taken_up machine base l s q (run_inside machine base l a (resuming l p) (resuming_inside machine base l p) q))
    ∙ run_joined machine base l b s (resuming l s.position)

pub stays_over : StaysOver
stays_over machine base l p a b o = run_cut machine base l a b (resuming l p) ∙ run_over machine base l b (run_of machine base l a (resuming l p)) o
