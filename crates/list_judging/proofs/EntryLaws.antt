-- The search for an entry, from the last item down.
use mathlib.Core.Path.{◌≡◌, refl}
use mathlib.Core.Bool.{true, false, ◌&&◌}
use mathlib.Core.List.{List}
use Prim.Native.Nat.{ℕ, zero, suc, ◌+◌, ◌-◌, ◌*◌, ◌≤◌, ◌<◌}
use native.Mathlib.Omega.{arith}
use lib.Dec.{eqb}
use Rattle.std.specs.Prelude.{Some, None}
use Rattle.list_tables.specs.declared.ItemRow.{ItemRow}
use Rattle.list_tables.specs.Tables.{place_in, entry_in, entry_below}

-- of the first i items the last is an entry at the address, or is none
pub entry_here : (table : List ItemRow) (base i a : ℕ) → 0 < i → (entry_in table (i - 1) && eqb (base + 4 * place_in table (i - 1)) a) ≡ true
    → entry_below table base i a ≡ Some (record { 0 = i - 1 })
unfolding entry_below
entry_here table base zero a h q = absurd (omega arith)
entry_here table base (suc i) a h q = let e : suc i - 1 ≡ i = omega arith in rw e (rw (rw e at q))

pub entry_before : (table : List ItemRow) (base i a : ℕ) → 0 < i → (entry_in table (i - 1) && eqb (base + 4 * place_in table (i - 1)) a) ≡ false
    → entry_below table base i a ≡ entry_below table base (i - 1) a
unfolding entry_below
entry_before table base zero a h q = absurd (omega arith)
entry_before table base (suc i) a h q = let e : suc i - 1 ≡ i = omega arith in rw e (rw (rw e at q))

pub entry_none : (table : List ItemRow) (base i a : ℕ) → i ≤ 0 → entry_below table base i a ≡ None
unfolding entry_below
entry_none table base zero a h = refl
entry_none table base (suc i) a h = absurd (omega arith)
