-- Sets in any sequence and in any order; all or none.
-- Assumes nothing.
use mathlib.Core.Path.{◌≡◌, refl, sym, ap, ◌∙◌}
use mathlib.Core.List.{List, [], ◌∷◌}
use Prim.Native.Nat.{ℕ, ◌*◌}
use native.Mathlib.Omega.{arith}
use lib.ListN.{length}
use Rattle.cell.specs.Memory.{cell_count}
use Rattle.std.specs.Prelude.{Ok, Err}
use Rattle.cell.specs.Refusals.{Judged, passed}
use Rattle.module_loading.specs.Answers.{loaded_to}
use Rattle.set_judging.specs.declared.Member.{Member}
use Rattle.set_judging.specs.Members.{members_of}
use Rattle.set_judging.specs.Grounds.{judge_set}
use Rattle.set_judging.proofs.MemberLaws.{Each}
use Rattle.set_judging.proofs.PassLaws.{member_fits, each_passes}
use Rattle.set_judging.proofs.SetLaws.{set_passing, passing_set}
use Rattle.set_loading.specs.Sets.{copied_set, cells_in, load_set_if, load_set_of}
use Rattle.permutations.specs.Permutations.{Permuted}
use Rattle.permutations.proofs.PermutationLaws.{length_permuted, permuted_refl}
use Rattle.set_laws.specs.Claims.{numbers_of, InAnySequence, InOrderGiven, InAnyOrder, AllOrNone}
use Rattle.set_laws.proofs.Lists.{Pairwise, each_map, each_permuted, pairwise_permuted}
use Rattle.set_laws.proofs.Orders.{Apart, Room, copied_permuted, cells_permuted}
use Rattle.set_laws.proofs.Singles.{Passes, singly_copied}
use Rattle.set_laws.proofs.Conditions.{accepted_passed, apart_turned, all_apart, apart_all, passes_each}

-- the result where the judgement passes
passed_result : (order : ℕ) (m buffer numbers : List ℕ) → judge_set (length m) order buffer numbers ≡ passed
    → load_set_of order m buffer numbers
    ≡ loaded_to (copied_set order buffer (members_of numbers) m) (Ok (cell_count (cells_in buffer (members_of numbers))))
unfolding load_set_of
passed_result order m buffer numbers j = rw j

-- an accepted set: its modules pass by themselves and share no byte, and its result is their copy
pub record Accepted (order : ℕ) (m buffer numbers : List ℕ) : Type 0 where
  pub passed : Each (Passes order (length m) buffer) (members_of numbers)
  pub apart : Pairwise (Apart buffer) (members_of numbers)
  pub result : load_set_of order m buffer numbers
      ≡ loaded_to (copied_set order buffer (members_of numbers) m) (Ok (cell_count (cells_in buffer (members_of numbers))))

pub accepted_set : (order : ℕ) (m buffer numbers : List ℕ) → (load_set_of order m buffer numbers).number ≡ 0 → Accepted order m buffer numbers
accepted_set order m buffer numbers e =
    let j = accepted_passed order m buffer numbers e in
    let p = set_passing (length m) order buffer numbers j in
    record {
      passed = each_passes (length m) order buffer (members_of numbers) p.alone;
      apart = all_apart buffer (members_of numbers) p.apart;
      result = passed_result order m buffer numbers j;
    }

module _ (order len : ℕ) (buffer : List ℕ) where
  pub room_each : (xs : List Member) → Each (Passes order len buffer) xs → Each (Room len buffer) xs
  room_each = each_map (Passes order len buffer) (Room len buffer) (λ x p. (member_fits len order buffer x p).room)

-- the copy in another order, with its count
permuted_result : (order : ℕ) (m buffer : List ℕ) (xs ys : List Member) → Permuted xs ys → Each (Passes order (length m) buffer) xs
    → Pairwise (Apart buffer) xs
    → loaded_to (copied_set order buffer ys m) (Ok (cell_count (cells_in buffer ys)))
    ≡ loaded_to (copied_set order buffer xs m) (Ok (cell_count (cells_in buffer xs)))
permuted_result order m buffer xs ys q p s =
    rw (copied_permuted order (length m) buffer xs ys m q refl (room_each order (length m) buffer xs p) s, cells_permuted buffer xs ys q)

pub in_any_sequence : InAnySequence
in_any_sequence order m buffer numbers e ys q =
    let a = accepted_set order m buffer numbers e in
    let xs = members_of numbers in
    rw (a.result, ← permuted_result order m buffer xs ys q a.passed a.apart)
    (singly_copied order (length m) buffer ys m refl (each_permuted (Passes order (length m) buffer) xs ys q a.passed))

pub in_order_given : InOrderGiven
in_order_given order m buffer numbers e =
    in_any_sequence order m buffer numbers e (members_of numbers) (permuted_refl (members_of numbers))

-- the modules of the numbers of some modules are these
members_back : (xs : List Member) → members_of (numbers_of xs) ≡ xs
members_back [] = refl
members_back (x ∷ xs) = ap (λ (ys : List Member). x ∷ ys) (members_back xs)

numbers_length : (xs : List Member) → length (numbers_of xs) ≡ 3 * length xs
numbers_length [] = refl
numbers_length (x ∷ xs) = let e = numbers_length xs in omega (arith, e)

set_permuted : (order : ℕ) (m buffer numbers : List ℕ) (ys : List Member) → judge_set (length m) order buffer numbers ≡ passed
    → Permuted (members_of numbers) ys → judge_set (length m) order buffer (numbers_of ys) ≡ passed
set_permuted order m buffer numbers ys j q =
    let len = length m in
    let xs = members_of numbers in
    let p = set_passing len order buffer numbers j in
    let n = length_permuted xs ys q in
    let e = numbers_length ys in
    let b = members_back ys in
    let t : length (members_of (numbers_of ys)) ≡ length xs = ap length b ∙ n in
    passing_set len order buffer (numbers_of ys)
    (record {
      machine = p.machine;
      alone = rw b (passes_each order len buffer ys (each_permuted (Passes order len buffer) xs ys q (each_passes len order buffer xs p.alone)));
      whole = omega (arith, e);
      some = omega (arith, t, p.some);
      few = omega (arith, t, p.few);
      apart = rw b (apart_all buffer ys (pairwise_permuted (Apart buffer) (apart_turned buffer) xs ys q (all_apart buffer xs p.apart)));
    })

pub in_any_order : InAnyOrder
in_any_order order m buffer numbers e ys q =
    let a = accepted_set order m buffer numbers e in
    let xs = members_of numbers in
    passed_result order m buffer (numbers_of ys) (set_permuted order m buffer numbers ys (accepted_passed order m buffer numbers e) q)
    ∙ rw (members_back ys) (permuted_result order m buffer xs ys q a.passed a.apart ∙ sym a.result)

refused_none : (j : Judged) (order : ℕ) (m buffer : List ℕ) (xs : List Member) → ((load_set_if j order m buffer xs).number ≡ 0 → ⊥)
    → ((load_set_if j order m buffer xs).memory ≡ m) × ((load_set_if j order m buffer xs).count ≡ 0)
refused_none (Ok _) order m buffer xs e = absurd (e refl)
refused_none (Err r) order m buffer xs e = (refl, refl)

pub all_or_none : AllOrNone
unfolding load_set_of
all_or_none order m buffer numbers e = refused_none (judge_set (length m) order buffer numbers) order m buffer (members_of numbers) e
