-- The commit of an effect, for any stores: a fault in the reading, a bad place, or all is carried out. And what a good place tells.
use mathlib.Core.Path.{◌≡◌, refl}
use mathlib.Core.Bool.{Bool, true, false, ◌&&◌}
use Prim.Native.Nat.{ℕ, ◌+◌, ◌%◌, ◌<◌, ◌≤◌}
use native.Mathlib.Omega.{arith}
use lib.Dec.{ltb}
use borrow.Author.Tests.{ltb-true, eqb-true}
use Rattle.cell.specs.Choice.{if}
use Rattle.cell.specs.Place.{Checked, good, address}
use Rattle.cell.specs.declared.Fault.TheVariants.{Range}
use Rattle.std.specs.Prelude.{Ok, Err}
use Rattle.machine.specs.Places.{Width, one_byte, one_cell, allowed, table_allows, aligned_as, fault_at, open_to, place_of}
use Rattle.machine.specs.declared.Access.{Access}
use mathlib.Core.List.{List}
use lib.ListN.{length}
use Rattle.cell.specs.declared.Fault.{Fault}
use Rattle.machine.specs.Effects.{Store, effect_of, raise}
use Rattle.machine.specs.Commits.{first_bad, places_of, stored_of, stepped, step_of, settled_of, commit_of}
use Rattle.machine.specs.declared.Registers.{Registers}
use Rattle.machine.specs.declared.Then.{Then}
use Rattle.machine.specs.declared.Then.TheVariants.{GoOn, Jump, Halt, Throw}
use Rattle.machine.specs.declared.Machine.{Machine}

module _ (machine : Machine) (m : List ℕ) (r : Registers) where
  -- a fault in the reading
  pub commit_raising : (f : Fault) → commit_of machine m r (raise f) ≡ stepped m (step_of r (Err f))
  unfolding commit_of
  commit_raising f = refl

  module _ (sp rp : ℕ) (ss : List Store) where
    -- a bad place
    pub commit_bad : (then : Then) (f : Fault) → places_of machine (length m) ss ≡ Err f
        → commit_of machine m r (effect_of sp rp ss then) ≡ stepped m (step_of r (Err f))
    unfolding commit_of
    commit_bad then f e = rw e

    -- all is carried out
    pub commit_good : (then : Then) → places_of machine (length m) ss ≡ good
        → commit_of machine m r (effect_of sp rp ss then) ≡ stepped (stored_of machine m ss) (settled_of r.ep r.a sp rp then)
    unfolding commit_of
    commit_good GoOn e = rw e
    commit_good (Jump a) e = rw e
    commit_good (Halt x) e = rw e
    commit_good Throw e = rw e

-- what a good place is
pub record Placed (machine : Machine) (width : Width) (access : Access) (len a : ℕ) : Type 0 where
  pub inside : a < len
  pub aligned : aligned_as width a ≡ true
  pub allows : allowed machine access a ≡ true
  pub spares : table_allows machine access a ≡ true

pub good_placed : (machine : Machine) (width : Width) (access : Access) (len a : ℕ) → place_of machine width access len a ≡ good
    → Placed machine width access len a
unfolding place_of
good_placed machine width access len a = go (ltb a len) (allowed machine access a) (aligned_as width a) (table_allows machine access a) refl refl refl refl
  where
    go : (s t u v : Bool) → ltb a len ≡ s → allowed machine access a ≡ t → aligned_as width a ≡ u → table_allows machine access a ≡ v
        → open_to (if s (if (t && u) good (Err (fault_at access a))) (Err (Range (address a)))) v ≡ good → Placed machine width access len a
    go true true true true p q w x e = record { inside = ltb-true a len p; aligned = w; allows = q; spares = x }
    go true true true false p q w x e = absurd (let z : ◌≡◌ {A = ℕ} 0 1 = cc in omega arith)
    go true true false v p q w x e = absurd (let z : ◌≡◌ {A = ℕ} 0 1 = cc in omega arith)
    go true false u v p q w x e = absurd (let z : ◌≡◌ {A = ℕ} 0 1 = cc in omega arith)
    go false t u v p q w x e = absurd (let z : ◌≡◌ {A = ℕ} 0 1 = cc in omega arith)

-- all four bytes of a cell at a good place are in memory
pub room_place : (machine : Machine) (access : Access) (len a : ℕ) → len % 4 ≡ 0 → place_of machine one_cell access len a ≡ good → a + 4 ≤ len
room_place machine access len a w e =
    let g = good_placed machine one_cell access len a e in
    omega (arith, g.inside, eqb-true (a % 4) 0 g.aligned)

pub room_byte : (machine : Machine) (access : Access) (len a : ℕ) → place_of machine one_byte access len a ≡ good → a < len
room_byte machine access len a e = (good_placed machine one_byte access len a e).inside

-- of two places, the first bad one
pub first_good : (c : Checked) → first_bad c good ≡ c
first_good (Ok _) = refl
first_good (Err f) = refl

-- where none is bad, the first is good
pub both_good : (c d : Checked) → first_bad c d ≡ good → c ≡ good
both_good (Ok _) d e = refl
both_good (Err f) d e = cc
