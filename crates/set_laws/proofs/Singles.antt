-- Modules that pass by themselves, loaded singly.
-- Assumes nothing.
use mathlib.Core.Path.{◌≡◌, refl, ap, ◌∙◌}
use mathlib.Core.List.{List, [], ◌∷◌}
use Prim.Native.Nat.{ℕ, ◌+◌}
use lib.ListN.{length}
use Rattle.cell.specs.Memory.{cell_count}
use Rattle.std.specs.Prelude.{Ok}
use Rattle.cell.specs.Refusals.{passed}
use Rattle.module_loading.specs.Answers.{LoadResult, loaded_to, load_of}
use Rattle.set_judging.specs.declared.Member.{Member}
use Rattle.set_judging.specs.Members.{cells_of}
use Rattle.set_judging.specs.Grounds.{judge_member}
use Rattle.set_judging.proofs.MemberLaws.{Each, none, more}
use Rattle.set_judging.proofs.PassLaws.{member_parts}
use Rattle.set_loading.specs.Sets.{copied_one, copied_set, cells_in}
use Rattle.set_loading.proofs.SetLaws.{one_length}
use Rattle.set_laws.specs.Claims.{alone, no_load, accepted, Singly}

module _ (order len : ℕ) (buffer : List ℕ) where
  abbrev pub Passes : Member → Type 0
  Passes x = judge_member len order buffer x ≡ passed

  -- a load by itself is the copy, in any memory of that length
  pub alone_copies : (x : Member) (m : List ℕ) → length m ≡ len → Passes x
      → alone order buffer x m ≡ loaded_to (copied_one order buffer x m) (Ok (cell_count (cells_of buffer x)))
  unfolding load_of copied_one
  alone_copies x m l p = rw (l, (member_parts len order buffer x p).1)

  pub singly_copied : (xs : List Member) (m : List ℕ) → length m ≡ len → Each Passes xs
      → Singly order buffer xs m (loaded_to (copied_set order buffer xs m) (Ok (cell_count (cells_in buffer xs))))
  singly_copied [] m l none = record { each = no_load; memory = refl; count = refl }
  singly_copied (x ∷ xs) m l (more p s) =
      let e = alone_copies x m l p in
      let next : List ℕ = copied_one order buffer x m in
      let h : (alone order buffer x m).memory ≡ next = ap (λ (r : LoadResult). r.memory) e in
      let rest = singly_copied xs next (one_length order buffer x m ∙ l) s in
      record {
        each = accepted {x = x} {xs = xs} {m = m} (ap (λ (r : LoadResult). r.number) e) (rw h rest.each);
        memory = rw h rest.memory;
        count = rw (h, ap (λ (r : LoadResult). r.count) e) (ap (λ (n : ℕ). cells_of buffer x + n) rest.count);
      }
