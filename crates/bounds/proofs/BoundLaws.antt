-- What passed with a judgement of all that bounds a machine, and that the machine fits the memory.
use mathlib.Core.Path.{◌≡◌, refl}
use mathlib.Core.Bool.{Bool, true, false}
use Prim.Native.Nat.{ℕ}
use native.Mathlib.Omega.{arith}
use Rattle.cell.specs.Refusals.{passed, after, judge_machine, Lent}
use Rattle.cell.proofs.JudgementLaws.{both_pass, machine_good}
use Rattle.machine.specs.Places.{Fits}
use Rattle.machine.specs.declared.Table.{Table}
use Rattle.areas.specs.Areas.{none, judge_areas}
use Rattle.areas.specs.declared.Areas.{Areas}
use Rattle.areas.proofs.AreaLaws.{taken}
use Rattle.code_tables.specs.Tables.{judge_table}
use Rattle.code_tables.proofs.TableLaws.{table_guards}
use Rattle.bounds.specs.Bounds.{judge_bounded, machine_of}

-- the machine of areas that were taken fits a memory that is lent
pub machine_fits : (order len : ℕ) (areas : Areas) (table : Table) → Lent len → judge_areas len areas ≡ passed → judge_table len table ≡ passed
    → Fits (machine_of order areas table len) len
machine_fits order len areas table l e j = go (none areas) refl
  where
    go : (b : Bool) → none areas ≡ b → Fits (machine_of order areas table len) len
    go true q =
        record {
          whole = l.whole;
          most = l.most;
          stack = rw q (record { aligned = omega arith; begins = omega arith; ends = omega arith });
          fewer = rw q (omega arith);
          returns = rw q (record { aligned = omega arith; begins = omega arith; ends = omega arith });
          guards = table_guards len table l.most j;
        }
    go false q =
        let t = taken len areas q e in
        let s = t.stack in
        let r = t.returns in
        record {
          whole = l.whole;
          most = l.most;
          stack = rw q (record { aligned = omega arith; begins = omega arith; ends = omega arith });
          fewer = rw q (omega arith);
          returns = rw q (record { aligned = omega arith; begins = omega arith; ends = omega arith });
          guards = table_guards len table l.most j;
        }

-- a judgement that passed
module _ (len order : ℕ) (areas : Areas) (table : Table) (e : judge_bounded len order areas table ≡ passed) where
  parts : (judge_machine len order ≡ passed) × (after (judge_areas len areas) (judge_table len table) ≡ passed)
  unfolding judge_bounded
  parts = both_pass (judge_machine len order) (after (judge_areas len areas) (judge_table len table)) e

  pub lent : Lent len
  lent = (machine_good len order parts.0).lent

  pub areas_pass : judge_areas len areas ≡ passed
  areas_pass = (both_pass (judge_areas len areas) (judge_table len table) parts.1).0

  pub table_pass : judge_table len table ≡ passed
  table_pass = (both_pass (judge_areas len areas) (judge_table len table) parts.1).1

  pub passed_fits : Fits (machine_of order areas table len) len
  passed_fits = machine_fits order len areas table lent areas_pass table_pass
