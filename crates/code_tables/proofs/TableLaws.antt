-- What a table that was taken is.
use mathlib.Core.Path.{◌≡◌, refl}
use mathlib.Core.Bool.{Bool, true, false, not, ◌||◌}
use Prim.Native.Nat.{ℕ, ◌+◌, ◌%◌, ◌^◌, ◌≤◌}
use native.Mathlib.Omega.{arith}
use lib.Dec.{ltb, eqb}
use borrow.Author.Tests.{ltb-false, eqb-true, not-false}
use Rattle.cell.specs.Refusals.{passed}
use Rattle.cell.specs.declared.Refusal.TheVariants as refusal
use Rattle.cell.proofs.BooleanLaws.{both_true, neither}
use Rattle.cell.proofs.JudgementLaws.{one_clear}
use Rattle.machine.specs.Places.{guarded_of}
use Rattle.machine.specs.declared.Table.{Table}
use Rattle.code_tables.specs.Tables.{none_given, own_cells, bad_table, judge_table, Kept}

-- a table that was taken, where one was given
pub kept : (len : ℕ) (table : Table) → none_given table ≡ false → judge_table len table ≡ passed → Kept len table
unfolding judge_table
kept len table n e =
    let first = table.first.0 in
    let end = table.end.0 in
    let b = (one_clear (bad_table len table) refusal.Table passed (rw n at e)).0 in
    let p = neither (not (eqb (first % 4) 0)) (not (eqb (end % 4) 0) || (ltb end first || (ltb first own_cells || ltb len end))) b in
    let q = neither (not (eqb (end % 4) 0)) (ltb end first || (ltb first own_cells || ltb len end)) p.1 in
    let r = neither (ltb end first) (ltb first own_cells || ltb len end) q.1 in
    let s = neither (ltb first own_cells) (ltb len end) r.1 in
    record {
      first_aligned = eqb-true (first % 4) 0 (not-false (eqb (first % 4) 0) p.0);
      end_aligned = eqb-true (end % 4) 0 (not-false (eqb (end % 4) 0) q.0);
      ordered = ltb-false end first r.0;
      begins = ltb-false first own_cells s.0;
      ends = ltb-false len end s.1;
    }

-- the bytes of a table that was taken end in 32 bits
pub table_guards : (len : ℕ) (table : Table) → len ≤ 16777216 → judge_table len table ≡ passed → (guarded_of table).first.0 + (guarded_of table).bytes ≤ 2 ^ 32
table_guards len table l e = go (none_given table) refl
  where
    go : (b : Bool) → none_given table ≡ b → (guarded_of table).first.0 + (guarded_of table).bytes ≤ 2 ^ 32
    go true q =
        let z = both_true (eqb table.first.0 0) (eqb table.end.0 0) q in
        omega (arith, eqb-true table.first.0 0 z.0, eqb-true table.end.0 0 z.1)
    go false q = let k = kept len table q e in omega (arith, l, k.ordered, k.ends)
