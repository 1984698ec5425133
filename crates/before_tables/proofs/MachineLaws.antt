-- The machine without a table lets its stacks have the cells that they had: what is said by a span's last cell comes to what was said by its floor.
use mathlib.Core.Path.{◌≡◌, refl, sym, ap, ◌∙◌}
use mathlib.Core.Bool.{Bool, true, false, not, ◌&&◌}
use Prim.Native.Nat.{ℕ, ◌+◌, ◌-◌, ◌*◌, ◌/◌, ◌%◌, ◌≤◌}
use native.Mathlib.Omega.{arith}
use lib.Dec.{ltb, leb, eqb}
use borrow.Author.Tests.{ltb-true, leb-true, leb-false, eqb-true, eqb-false, le-ltb, le-leb, lt-leb, ne_eqb}
use Rattle.cell.specs.Refusals.{Lent, passed}
use Rattle.machine.specs.Places.{no_table, in_table, guarded_of, end_in, span_at, within, allowed, table_allows}
use Rattle.machine.specs.declared.Span.{Span}
use Rattle.machine.specs.declared.Machine.{Machine}
use Rattle.machine.specs.declared.Access.{Access}
use Rattle.machine.specs.declared.Access.TheVariants.{DataRead, DataWrite, ReturnRead, ReturnWrite, NamedRead, NamedWrite, Stream, Push}
use Rattle.areas.specs.Areas.{none, judge_areas}
use Rattle.areas.specs.declared.Areas.{Areas}
use Rattle.areas.proofs.AreaLaws.{taken}
use Rattle.before_tables.specs.Machines.{SpanBefore, end_before, within_before, allowed_before}
use Rattle.before_tables.specs.Claims.{untabled, before}

-- no place lies in two zeros
outside : (a : ℕ) → in_table (guarded_of no_table) a ≡ false
outside a = simp (le-leb 0 a (omega arith), le-ltb a 0 (omega arith))

-- tests
and_false : (b : Bool) → (b && false) ≡ false
and_false true = refl
and_false false = refl

and_true : (b : Bool) → (b && true) ≡ b
and_true true = refl
and_true false = refl

leb_shift : (x y c : ℕ) → leb (x + c) (y + c) ≡ leb x y
leb_shift x y c = go (leb x y) refl
  where
    go : (b : Bool) → leb x y ≡ b → leb (x + c) (y + c) ≡ b
    go true e = le-leb (x + c) (y + c) (omega (arith, leb-true x y e))
    go false e = lt-leb (x + c) (y + c) (omega (arith, leb-false x y e))

abbrev span_from : ℕ → ℕ → SpanBefore
span_from floor cells = record { floor = floor; cells = cells }

-- spans of as many cells that end alike
pub record Ends (s : Span) (t : SpanBefore) : Type 0 where
  pub end : end_in s ≡ end_before t
  pub cells : s.cells.0 ≡ t.cells

within_same : (s : Span) (t : SpanBefore) (a : ℕ) → Ends s t → within s a ≡ within_before t a
within_same s t a e = rw (e.end, e.cells, leb_shift t.floor a (4 * t.cells))

-- writes: the cells above the held one, which was the floor
above_held : (floor cells a : ℕ) → floor % 4 ≡ 0
    → (within_before (span_from (floor + 4) cells) a && eqb (a % 4) 0)
    ≡ ((within_before (span_from floor (cells + 1)) a && not (eqb a floor)) && eqb (a % 4) 0)
above_held floor cells a f =
    let e : floor + 4 + 4 * cells ≡ floor + 4 * (cells + 1) = omega arith in
    rw e (go (eqb (a % 4) 0) (leb floor a) (eqb a floor) (ltb a (floor + 4 * (cells + 1))) refl refl refl)
  where
    go : (u l q t : Bool) → eqb (a % 4) 0 ≡ u → leb floor a ≡ l → eqb a floor ≡ q
        → ((leb (floor + 4) a && t) && u) ≡ (((l && t) && not q) && u)
    go false l q t eu el eq = rw (and_false (leb (floor + 4) a && t), and_false ((l && t) && not q))
    go true false q t eu el eq = rw (lt-leb (floor + 4) a (omega (arith, leb-false floor a el)))
    go true true true t eu el eq = rw (lt-leb (floor + 4) a (omega (arith, eqb-true a floor eq)), and_false t)
    go true true false t eu el eq =
        rw (le-leb (floor + 4) a (omega (arith, leb-true floor a el, eqb-false a floor eq, eqb-true (a % 4) 0 eu, f)))
        (sym (and_true (t && true)))

-- no cell was held
none_held : (floor cells a : ℕ) → floor + 4 * cells ≤ 16777216
    → within_before (span_from floor cells) a ≡ (within_before (span_from floor cells) a && not (eqb a 0xFFFFFFFF))
none_held floor cells a h = go (ltb a (floor + 4 * cells)) refl
  where
    go : (t : Bool) → ltb a (floor + 4 * cells) ≡ t → (leb floor a && t) ≡ ((leb floor a && t) && not (eqb a 0xFFFFFFFF))
    go true e = rw (ne_eqb a 0xFFFFFFFF (omega (arith, h, ltb-true a (floor + 4 * cells) e))) (sym (and_true (leb floor a && true)))
    go false e = rw (and_false (leb floor a))

module _ (order len : ℕ) (areas : Areas) (lent : Lent len) (areas_pass : judge_areas len areas ≡ passed) where
  pub stack_ends : Ends (untabled order len areas).stack (before order len areas).stack
  stack_ends = go (none areas) refl
    where
      go : (b : Bool) → none areas ≡ b → Ends (untabled order len areas).stack (before order len areas).stack
      go true q = rw q (record { end = omega (arith, lent.whole, lent.least); cells = refl })
      go false q =
          let s = (taken len areas q areas_pass).stack in
          rw q (record { end = omega (arith, s.begins, s.some); cells = refl })

  pub returns_end : Ends (untabled order len areas).returns (before order len areas).returns
  returns_end = go (none areas) refl
    where
      go : (b : Bool) → none areas ≡ b → Ends (untabled order len areas).returns (before order len areas).returns
      go true q = rw q (record { end = omega (arith, lent.whole, lent.least); cells = refl })
      go false q =
          let s = (taken len areas q areas_pass).returns in
          rw q (record { end = omega (arith, s.begins, s.some); cells = refl })

  -- an aligned place of the data stack is written where it was
  write_same : (a : ℕ)
      → (allowed (untabled order len areas) DataWrite a && eqb (a % 4) 0) ≡ (allowed_before (before order len areas) DataWrite a && eqb (a % 4) 0)
  write_same a = go (none areas) refl
    where
      go : (b : Bool) → none areas ≡ b
          → (allowed (untabled order len areas) DataWrite a && eqb (a % 4) 0) ≡ (allowed_before (before order len areas) DataWrite a && eqb (a % 4) 0)
      go true q =
          let e : Ends (span_at (len - 4) (len / 4)) (span_from 0 (len / 4)) = record { end = omega (arith, lent.whole, lent.least); cells = refl } in
          rw q
          (ap (λ b. b && eqb (a % 4) 0)
          (within_same (span_at (len - 4) (len / 4)) (span_from 0 (len / 4)) a e ∙ none_held 0 (len / 4) a (omega (arith, lent.most))))
      go false q =
          let s = (taken len areas q areas_pass).stack in
          let top : ℕ = areas.stack.top.0 in
          let cells : ℕ = areas.stack.cells.0 in
          let floor : ℕ = top - 4 * (cells + 1) in
          let e : Ends (span_at (top - 4) cells) (span_from (floor + 4) cells) = record { end = omega (arith, s.begins, s.some); cells = refl } in
          rw q
          (ap (λ b. b && eqb (a % 4) 0) (within_same (span_at (top - 4) cells) (span_from (floor + 4) cells) a e)
          ∙ above_held floor cells a (omega (arith, s.aligned, s.begins)))

  -- an aligned place is allowed where it was
  pub allowed_same : (access : Access) (a : ℕ)
      → (allowed (untabled order len areas) access a && eqb (a % 4) 0) ≡ (allowed_before (before order len areas) access a && eqb (a % 4) 0)
  allowed_same DataRead a = ap (λ b. b && eqb (a % 4) 0) (within_same (untabled order len areas).stack (before order len areas).stack a stack_ends)
  allowed_same DataWrite a = write_same a
  allowed_same ReturnRead a = ap (λ b. b && eqb (a % 4) 0) (within_same (untabled order len areas).returns (before order len areas).returns a returns_end)
  allowed_same ReturnWrite a = ap (λ b. b && eqb (a % 4) 0) (within_same (untabled order len areas).returns (before order len areas).returns a returns_end)
  allowed_same NamedRead a = refl
  allowed_same NamedWrite a = refl
  allowed_same Stream a = refl
  allowed_same Push a = ap (λ b. b && eqb (a % 4) 0) (within_same (untabled order len areas).stack (before order len areas).stack a stack_ends)

-- no table turns a write away
pub spared : (machine : Machine) → machine.table ≡ guarded_of no_table → (access : Access) (a : ℕ) → table_allows machine access a ≡ true
spared machine free DataRead a = refl
spared machine free DataWrite a = rw (free, outside a)
spared machine free ReturnRead a = refl
spared machine free ReturnWrite a = rw (free, outside a)
spared machine free NamedRead a = refl
spared machine free NamedWrite a = rw (free, outside a)
spared machine free Stream a = refl
spared machine free Push a = rw (free, outside a)
