-- The bytes of all forms, and what passing says of a batch.
-- Assumes nothing.
use mathlib.Core.Path.{◌≡◌}
use mathlib.Core.List.{[], ◌∷◌}
use Prim.Native.Nat.{ℕ, ◌+◌, ◌*◌, ◌^◌, ◌≤◌, ◌<◌}
use native.Mathlib.Nat.{mul-le-mul_right}
use native.Mathlib.Omega.{arith}
use borrow.Author.Tests.{ltb-false, eqb-true, eq-eqb, le-ltb, not-false}
use lib.Dec.{ltb, eqb}
use Rattle.cell.specs.Refusals.{passed, judge}
use Rattle.cell.specs.declared.Refusal.TheVariants as refusal
use Rattle.cell.proofs.JudgementLaws.{both_pass, one_clear}
use Rattle.machine.specs.declared.Table.{Table}
use Rattle.areas.specs.declared.Areas.{Areas}
use Rattle.bounds.specs.Bounds.{judge_bounded}
use Rattle.batch_judging.specs.Grounds.{other_length, too_few_bytes, judge_forms, judge_batch}

-- a count of 16 bits times a length of 32 is a number of 64
pub bytes_fit : (count size : ℕ) → count < 65536 → size < 2 ^ 32 → count * size < 2 ^ 64
bytes_fit count size h l = omega (arith, mul-le-mul_right {m = count} {n = 65535} size (omega arith))

-- a batch that no ground refuses
pub record Good (order len lent : ℕ) (areas : Areas) (table : Table) (a size forms count : ℕ) : Type 0 where
  pub long : lent ≡ len
  pub bounded : judge_bounded len order areas table ≡ passed
  pub inside : a + size ≤ len
  pub enough : count * size ≤ forms

pub batch_good : (order len lent : ℕ) (areas : Areas) (table : Table) (a size forms count : ℕ)
    → judge_batch order len lent areas table a size forms count ≡ passed → Good order len lent areas table a size forms count
unfolding judge_batch judge_forms
batch_good order len lent areas table a size forms count e =
    let p = both_pass _ _ e in
    let q = both_pass _ _ p.1 in
    let s = one_clear (other_length len lent).applies refusal.MemoryLength passed p.0 in
    let t = one_clear (ltb len (a + size)) refusal.Outside (judge (too_few_bytes size forms count ∷ [])) q.1 in
    let u = one_clear (ltb forms (count * size)) refusal.ShortOutput passed t.1 in
    record {
      long = eqb-true lent len (not-false (eqb lent len) s.0);
      bounded = q.0;
      inside = ltb-false len (a + size) t.0;
      enough = ltb-false forms (count * size) u.0;
    }

-- and back
pub good_passes : (order len lent : ℕ) (areas : Areas) (table : Table) (a size forms count : ℕ)
    → Good order len lent areas table a size forms count → judge_batch order len lent areas table a size forms count ≡ passed
unfolding judge_batch judge_forms
good_passes order len lent areas table a size forms count g =
    simp (eq-eqb lent len g.long, g.bounded, le-ltb len (a + size) g.inside, le-ltb forms (count * size) g.enough)
