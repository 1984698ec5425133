-- The loops of ROLL: the places that are still to be judged decide for all; and what is still to be stored, with the values of the start, gives the
-- memory that is asked for.
use Rattle.std.specs.Prelude.{Err}
use Rattle.cell.specs.Place.{Checked, good}
use mathlib.Core.Path.{◌≡◌, refl, sym, ◌∙◌, ap}
use mathlib.Core.List.{List}
use mathlib.Core.Logic.{inr}
use Prim.Native.Nat.{ℕ, zero, suc, ◌+◌, ◌-◌, ◌*◌, ◌%◌, ◌<◌, ◌≤◌}
use native.Mathlib.Omega.{arith}
use lib.ListN.{length}
use Rattle.cell.specs.Memory.{cell_at, store_cell, Alike}
use Rattle.cell.proofs.MemoryLaws.{cell_alike, cell_frame, alike_refl, alike_trans, alike_narrow, store_length}
use Rattle.cell.specs.declared.Fault.{Fault}
use Rattle.machine.specs.Places.{one_cell, place_of}
use Rattle.machine.specs.Effects.{roll_stores, rolled}
use Rattle.machine.specs.Commits.{places_of, stored_of}
use Rattle.machine.specs.declared.Machine.{Machine}
use Rattle.machine.specs.declared.Access.TheVariants.{DataWrite}
use Rattle.machine.proofs.CommitLaws.{first_good, both_good, room_place}

pub record Rolling (machine : Machine) (m0 : List ℕ) (top depth last : ℕ) (m : List ℕ) (k : ℕ) : Type 0 where
  pub within : k ≤ depth
  pub long : length m ≡ length m0
  pub kept : Alike top (top + 4 * k + 4) m0 m
  pub ahead :
      stored_of machine m (roll_stores machine.order m0 top last k)
      ≡ stored_of machine m0 (roll_stores machine.order m0 top last depth)

module _ (machine : Machine) (m0 : List ℕ) (top depth last : ℕ) where
  pub roll_begins : Rolling machine m0 top depth last m0 depth
  roll_begins = record { within = omega arith; long = refl; kept = alike_refl top (top + 4 * depth + 4) m0; ahead = refl }

  pub roll_goes_on : (m : List ℕ) (k x : ℕ) → x ≡ cell_at machine.order m (top + 4 * k) → Rolling machine m0 top depth last m (suc k)
      → Rolling machine m0 top depth last (store_cell machine.order m (top + 4 * suc k) x) k
  unfolding stored_of roll_stores
  roll_goes_on m k x e s =
      record {
        within = omega (arith, s.within);
        long = store_length machine.order m (top + 4 * suc k) x ∙ s.long;
        kept =
            alike_trans top (top + 4 * k + 4) m0 m _
            (alike_narrow top (top + 4 * suc k + 4) (top + 4 * k + 4) m0 m (omega arith) s.kept)
            (cell_frame top (top + 4 * k + 4) machine.order m (top + 4 * suc k) x (inr (omega arith)));
        ahead =
            rw (e ∙ cell_alike top (top + 4 * suc k + 4) machine.order m0 m (top + 4 * k) s.kept (omega arith) (omega arith))
            s.ahead;
      }

  pub roll_ends : (m : List ℕ) → Rolling machine m0 top depth last m zero
      → store_cell machine.order m top last ≡ stored_of machine m0 (roll_stores machine.order m0 top last depth)
  unfolding stored_of roll_stores
  roll_ends m s = s.ahead

-- with u above 0
pub rolled_some : (order : ℕ) (m : List ℕ) (top depth : ℕ) → (depth ≡ 0 → ⊥)
    → rolled order m top depth ≡ roll_stores order m top (cell_at order m (top + 4 * depth)) depth
rolled_some order m top zero n = absurd (n refl)
rolled_some order m top (suc u) n = refl

-- one step, as the code counts
pub roll_again : (machine : Machine) (m0 : List ℕ) (top depth last : ℕ) (m : List ℕ) (k x : ℕ) (m2 : List ℕ) → 0 < k
    → x ≡ cell_at machine.order m (top + 4 * (k - 1)) → m2 ≡ store_cell machine.order m (top + 4 * k) x
    → Rolling machine m0 top depth last m k → Rolling machine m0 top depth last m2 (k - 1)
roll_again machine m0 top depth last m k x m2 h e q s =
    let n : k ≡ suc (k - 1) = omega arith in
    rw q
    (rw (ap (λ (j : ℕ). store_cell machine.order m (top + 4 * j) x) n)
    (roll_goes_on machine m0 top depth last m (k - 1) x e (rw n at s)))

-- after the last step
pub roll_done : (machine : Machine) (m0 : List ℕ) (top depth last : ℕ) (m : List ℕ) (k : ℕ) (m2 : List ℕ) → (depth ≡ 0 → ⊥)
    → last ≡ cell_at machine.order m0 (top + 4 * depth) → k ≤ 0 → m2 ≡ store_cell machine.order m top last
    → Rolling machine m0 top depth last m k → m2 ≡ stored_of machine m0 (rolled machine.order m0 top depth)
roll_done machine m0 top depth last m zero m2 n e h q s =
    rw (rolled_some machine.order m0 top depth n, ← e) (q ∙ roll_ends machine m0 top depth last m s)
roll_done machine m0 top depth last m (suc k) m2 n e h q s = absurd (omega arith)

-- the places from the k-th up decide for all
pub record Judging (machine : Machine) (m : List ℕ) (top depth k : ℕ) : Type 0 where
  pub within : k ≤ depth
  pub ahead :
      places_of machine (length m) (rolled machine.order m top depth)
      ≡ places_of machine (length m) (roll_stores machine.order m top (cell_at machine.order m (top + 4 * depth)) k)

module _ (machine : Machine) (m : List ℕ) (top depth : ℕ) where
  pub judge_begins : (depth ≡ 0 → ⊥) → Judging machine m top depth depth
  judge_begins n =
      record { within = omega arith; ahead = ap (places_of machine (length m)) (rolled_some machine.order m top depth n) }

  -- a bad place
  pub judge_bad : (k : ℕ) (c : Checked) (f : Fault) → 0 < k → c ≡ place_of machine one_cell DataWrite (length m) (top + 4 * k) → c ≡ Err f
      → Judging machine m top depth k → c ≡ places_of machine (length m) (rolled machine.order m top depth)
  unfolding places_of roll_stores
  judge_bad zero c f h e b s = absurd (omega arith)
  judge_bad (suc k) c f h e b s = b ∙ sym (s.ahead ∙ simp (sym e ∙ b))

  -- one place passed
  pub judge_again : (k : ℕ) (c : Checked) → 0 < k → c ≡ place_of machine one_cell DataWrite (length m) (top + 4 * k) → c ≡ good
      → Judging machine m top depth k → Judging machine m top depth (k - 1)
  unfolding places_of roll_stores
  judge_again zero c h e g s = absurd (omega arith)
  judge_again (suc k) c h e g s =
      let n : suc k - 1 ≡ k = omega arith in
      rw n (record { within = omega (arith, s.within); ahead = s.ahead ∙ rw (sym e ∙ g) })

  -- the top one, the last
  pub judge_done : (k : ℕ) (c : Checked) → k ≤ 0 → c ≡ place_of machine one_cell DataWrite (length m) top
      → Judging machine m top depth k → c ≡ places_of machine (length m) (rolled machine.order m top depth)
  unfolding places_of roll_stores
  judge_done zero c h e s = e ∙ sym (s.ahead ∙ first_good _)
  judge_done (suc k) c h e s = absurd (omega arith)

-- where all places are good, the cells lie in memory
pub rolled_room : (machine : Machine) (m : List ℕ) (top depth : ℕ) → length m % 4 ≡ 0
    → places_of machine (length m) (rolled machine.order m top depth) ≡ good → 0 < depth → top + 4 * depth + 4 ≤ length m
unfolding places_of roll_stores
rolled_room machine m top zero w e h = absurd (omega arith)
rolled_room machine m top (suc u) w e h = room_place machine DataWrite (length m) (top + 4 * suc u) w (both_good _ _ e)
