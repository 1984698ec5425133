-- A good write does not meet the table, nor does a throw's push: so cycles leave its bytes.
use Rattle.cell.specs.Refusals.{passed}
use Rattle.cell.specs.Place.{good}
use mathlib.Core.Path.{◌≡◌, refl, sym, ◌∙◌}
use mathlib.Core.Bool.{Bool, true, false, not, ◌&&◌, true≢false}
use mathlib.Core.List.{List, [], ◌∷◌}
use mathlib.Core.Logic.{◌⊎◌, inl, inr, ⊎_elim}
use Prim.{tt}
use Prim.Native.Nat.{ℕ, ◌+◌, ◌-◌, ◌%◌, ◌≤◌, ◌<◌}
use native.Mathlib.Omega.{arith}
use lib.Dec.{ltb, eqb}
use lib.ListN.{length}
use borrow.Author.Tests.{ltb-true, ltb-false, eqb-true, le-leb}
use Rattle.cell.specs.Memory.{Alike}
use Rattle.cell.proofs.BooleanLaws.{both_true}
use Rattle.machine.specs.Places.{Width, one_byte, one_cell, guarded_of, in_table, table_allows, aligned_as, place_of}
use Rattle.machine.specs.Effects.{Store, Effect, act, raise}
use Rattle.machine.specs.Commits.{width_of, places_of, touches}
use Rattle.throws.specs.Throws.{CycleState}
use Rattle.machine.specs.declared.Table.{Table}
use Rattle.machine.specs.declared.Guarded.{Guarded}
use Rattle.machine.specs.declared.Machine.{Machine}
use Rattle.machine.specs.declared.Registers.{Registers}
use Rattle.machine.specs.declared.Access.{Access}
use Rattle.machine.specs.declared.Access.TheVariants.{DataRead, DataWrite, ReturnRead, ReturnWrite, NamedRead, NamedWrite, Stream, Push}
use Rattle.machine.proofs.CommitLaws.{good_placed, both_good}
use Rattle.instruction.specs.Plain.{plain_at}
use Rattle.instruction.specs.Taking.{taking_at, operand_of, after_of}
use Rattle.instruction.specs.Dispatch.{OperandClass, next, plain, taking, operand_class, decode_of}
use Rattle.instruction.specs.declared.Instruction.{Instruction}
use Rattle.cycles.specs.Cycles.{shifted, cycles_of}
use Rattle.code_tables.specs.Tables.{none_given, own_cells}
use Rattle.bounds.specs.Bounds.{judge_bounded, machine_of}
use Rattle.areas.specs.declared.Areas.{Areas}
use Rattle.code_tables.proofs.TableLaws.{kept}
use Rattle.bounds.proofs.BoundLaws.{table_pass}
use Rattle.area_laws.specs.Staying.{stores_of, stores_by, stores_in}
use Rattle.area_laws.proofs.Untouched.{Spare, SparesPush, cycles_leave}
use Rattle.table_laws.specs.Keeping.{is_write, Keeps, PlacesSpare, CyclesKeep}
use Rattle.table_laws.proofs.Stores.{AllWrite, Writing, writes, plain_writes, taking_writes}

untrue : (t : Bool) → not t ≡ true → t ≡ false
untrue true e = absurd (true≢false (sym e))
untrue false e = refl

-- a write outside the table
spared : (machine : Machine) (access : Access) (a : ℕ) → is_write access ≡ true → table_allows machine access a ≡ true → in_table machine.table a ≡ false
spared machine DataRead a w e = absurd (true≢false (sym w))
spared machine DataWrite a w e = untrue (in_table machine.table a) e
spared machine ReturnRead a w e = absurd (true≢false (sym w))
spared machine ReturnWrite a w e = untrue (in_table machine.table a) e
spared machine NamedRead a w e = absurd (true≢false (sym w))
spared machine NamedWrite a w e = untrue (in_table machine.table a) e
spared machine Stream a w e = absurd (true≢false (sym w))
spared machine Push a w e = untrue (in_table machine.table a) e

-- where a table starts: with a cell, above 0h to Fh
pub record Starts (table : Guarded) : Type 0 where
  pub aligned : table.first.0 % 4 ≡ 0
  pub above : own_cells ≤ table.first.0

module _ (machine : Machine) (k : Starts machine.table) where
  abbrev first : ℕ
  first = machine.table.first.0

  abbrev end : ℕ
  end = first + machine.table.bytes

  -- a place that meets the table does not begin before it
  begins : (w : Width) (a : ℕ) → aligned_as w a ≡ true → first < a + width_of w → first ≤ a
  begins one_byte a e h = omega (arith, h)
  begins one_cell a e h = omega (arith, h, k.aligned, eqb-true (a % 4) 0 e)

  miss : (w : Width) (a : ℕ) → aligned_as w a ≡ true → in_table machine.table a ≡ false → (ltb a end && ltb first (a + width_of w)) ≡ false
  miss w a e n = go (ltb a end) (ltb first (a + width_of w)) refl refl
    where
      go : (s t : Bool) → ltb a end ≡ s → ltb first (a + width_of w) ≡ t → (s && t) ≡ false
      go false t p q = refl
      go true false p q = refl
      go true true p q =
          let inside : in_table machine.table a ≡ true =
          rw (le-leb first a (begins w a e (ltb-true first (a + width_of w) q)), p) in
          absurd (true≢false (sym inside ∙ n))

  place_misses : (w : Width) (access : Access) (long a : ℕ) → is_write access ≡ true → place_of machine w access long a ≡ good
      → (ltb a end && ltb first (a + width_of w)) ≡ false
  place_misses w access long a h e =
      let p = good_placed machine w access long a e in miss w a p.aligned (spared machine access a h p.spares)

  stores_miss : (long : ℕ) (ss : List Store) → AllWrite ss → Spare machine first end long ss
  unfolding places_of touches
  stores_miss long [] h p = refl
  stores_miss long (s ∷ ss) h p =
      let c = place_of machine s.width s.access long s.at in
      let q : c ≡ good = both_good c (places_of machine long ss) p in
      rw (place_misses s.width s.access long s.at h.0 q) (stores_miss long ss h.1 (rw q at p))

  pub effect_misses : (long : ℕ) (e : Effect) → Writing e → Spare machine first end long (stores_of e)
  effect_misses long (act x) (writes h) = stores_miss long x.stores h
  effect_misses long (raise f) h = stores_miss long [] tt

  pub push_misses : SparesPush machine first end
  push_misses long at e = place_misses one_cell Push long at refl e

  by_class : (m : List ℕ) (r : Registers) (i : Instruction) (c : OperandClass) → Spare machine first end (length m) (stores_by machine m r i c)
  by_class m r i next = stores_miss (length m) [] tt
  by_class m r i plain = effect_misses (length m) (plain_at machine i m r) (plain_writes machine m r.ep r.sp r.rp i)
  by_class m r i (taking form t) =
      effect_misses (length m) (taking_at machine form t m r)
      (taking_writes machine m r.ep r.sp r.rp (operand_of machine form t m r.ep r.a) (after_of form r.ep) t)

  -- whatever the instruction in front of the machine
  pub cycle_misses : (m : List ℕ) (r : Registers) → Spare machine first end (length m) (stores_in machine m r)
  cycle_misses m r = let i = decode_of (r.a % 256) in by_class m (shifted r) i (operand_class i)

  pub cycles_miss : (n : ℕ) (s : CycleState) → Alike first end s.memory (cycles_of machine n s).memory
  cycles_miss n s =
      cycles_leave machine first end k.above push_misses n s
      (λ j l. cycle_misses (cycles_of machine j s).memory (cycles_of machine j s).result.registers)

-- a place that meets no byte from first on lies before them or behind them
apart_of : (first end a n : ℕ) → (ltb a (first + (end - first)) && ltb first (a + n)) ≡ false → (a + n ≤ first) ⊎ (end ≤ a)
apart_of first end a n e = go (ltb a (first + (end - first))) (ltb first (a + n)) refl refl e
  where
    go : (s t : Bool) → ltb a (first + (end - first)) ≡ s → ltb first (a + n) ≡ t → (s && t) ≡ false → (a + n ≤ first) ⊎ (end ≤ a)
    go false t p q e = inr (let h = ltb-false a (first + (end - first)) p in omega (arith, h))
    go true false p q e = inl (ltb-false first (a + n) q)
    go true true p q e = absurd (true≢false e)

-- a table that was taken: where one is given, it starts so; else it has no byte
taken : (len order : ℕ) (areas : Areas) (table : Table) → judge_bounded len order areas table ≡ passed → (Starts (guarded_of table)) ⊎ (table.end.0 ≡ 0)
taken len order areas table e = go (none_given table) refl
  where
    go : (b : Bool) → none_given table ≡ b → (Starts (guarded_of table)) ⊎ (table.end.0 ≡ 0)
    go true q = inr (eqb-true table.end.0 0 (both_true (eqb table.first.0 0) (eqb table.end.0 0) q).1)
    go false q =
        let k = kept len table q (table_pass len order areas table e) in inl (record { aligned = k.first_aligned; above = k.begins })

pub places_spare : PlacesSpare
places_spare len order areas table e width access a w p =
    let machine = machine_of order areas table len in
    ⊎_elim
    (λ (k : Starts (guarded_of table)).
    apart_of table.first.0 table.end.0 a (width_of width) (place_misses machine k width access len a w p))
    (λ (z : table.end.0 ≡ 0). inr (omega (arith, z)))
    (taken len order areas table e)

-- what leaves the bytes of a table that starts so keeps every table that was taken
pub keeps : (len order : ℕ) (areas : Areas) (table : Table) (m m2 : List ℕ) → judge_bounded len order areas table ≡ passed
    → (Starts (guarded_of table) → Alike table.first.0 (table.first.0 + (table.end.0 - table.first.0)) m m2)
    → Keeps table m m2
unfolding Alike
keeps len order areas table m m2 e h a lo hi =
    ⊎_elim
    (λ (k : Starts (guarded_of table)). h k a (omega (arith, lo)) (omega (arith, lo, hi)))
    (λ (z : table.end.0 ≡ 0). absurd (omega (arith, hi, z)))
    (taken len order areas table e)

pub cycles_keep : CyclesKeep
cycles_keep order areas table n s e =
    let machine = machine_of order areas table (length s.memory) in
    keeps (length s.memory) order areas table s.memory (cycles_of machine n s).memory e (λ k. cycles_miss machine k n s)
