-- What load_set accepts, as plain facts: of one module, of two, and of a set.
-- Assumes nothing.
use mathlib.Core.Path.{◌≡◌, refl}
use mathlib.Core.Bool.{false}
use mathlib.Core.List.{List, [], ◌∷◌}
use mathlib.Core.Logic.{⊎_elim}
use Prim.Native.Nat.{ℕ, ◌+◌, ◌≤◌, ◌<◌, max, min}
use native.Mathlib.Omega.{arith}
use borrow.Author.Tests.{ltb-true, ltb-false, lt-ltb, le-ltb}
use lib.ListN.{length}
use Rattle.std.specs.Prelude.{Ok, Err}
use Rattle.cell.specs.Refusals.{Judged, passed}
use Rattle.cell.proofs.BooleanLaws.{neither}
use Rattle.cell.proofs.JudgementLaws.{refusal_some, machine_good}
use Rattle.module_judging.proofs.ConditionLaws.{good_machine, load_good, good_load}
use Rattle.set_judging.specs.declared.Member.{Member}
use Rattle.set_judging.specs.Members.{members_of, member_at, file_of}
use Rattle.set_judging.specs.Sharing.{end_of, share, shares_one, sharing}
use Rattle.set_judging.specs.Grounds.{judge_member, judge_members, judge_set}
use Rattle.set_judging.proofs.MemberLaws.{Each, none, more, members_length, each_at}
use Rattle.set_judging.proofs.PassLaws.{member_parts, each_passes}
use Rattle.set_judging.proofs.SetLaws.{Passing, set_passing, passing_set}
use Rattle.set_loading.specs.Sets.{load_set_if, load_set_of}
use Rattle.set_laws.specs.Claims.{SharedByte, ShareExactly, GoodMember, LoadableSet, AcceptedExactly}
use Rattle.set_laws.proofs.Lists.{Pairwise, no_pair, pairs, each_of, pairwise_at, pairwise_of}
use Rattle.set_laws.proofs.Bytes.{below_or}
use Rattle.set_laws.proofs.Orders.{Apart}
use Rattle.set_laws.proofs.Singles.{Passes}

-- the number 0 is that of no refusal
number_passed : (j : Judged) (order : ℕ) (m buffer : List ℕ) (xs : List Member) → (load_set_if j order m buffer xs).number ≡ 0 → j ≡ passed
number_passed (Ok _) order m buffer xs e = refl
number_passed (Err r) order m buffer xs e = absurd (refusal_some r e)

pub accepted_passed : (order : ℕ) (m buffer numbers : List ℕ) → (load_set_of order m buffer numbers).number ≡ 0
    → judge_set (length m) order buffer numbers ≡ passed
unfolding load_set_of
accepted_passed order m buffer numbers e = number_passed (judge_set (length m) order buffer numbers) order m buffer (members_of numbers) e

-- two modules that share, by the later beginning
module _ (buffer : List ℕ) (x y : Member) where
  abbrev later : ℕ
  later = max x.address.0 y.address.0

  abbrev earlier : ℕ
  earlier = min (end_of buffer x) (end_of buffer y)

  shared_byte : later < earlier → SharedByte buffer x y
  shared_byte h =
      record {
        byte = later;
        first = record { begun = omega arith; inside = omega (arith, h) };
        second = record { begun = omega arith; inside = omega (arith, h) };
      }

  byte_between : SharedByte buffer x y → later < earlier
  byte_between s = omega (arith, s.first.begun, s.first.inside, s.second.begun, s.second.inside)

  unshared_apart : share (end_of buffer) x y ≡ false → Apart buffer x y
  unshared_apart e s = let l = ltb-false later earlier e in let h = byte_between s in omega (arith, l, h)

  apart_unshared : Apart buffer x y → share (end_of buffer) x y ≡ false
  apart_unshared s =
      ⊎_elim (λ (h : later < earlier). absurd (s (shared_byte h)))
      (λ (l : earlier ≤ later). le-ltb later earlier l)
      (below_or later earlier)

pub share_exactly : ShareExactly
share_exactly buffer x y =
    record { if = λ s. lt-ltb _ _ (byte_between buffer x y s); only = λ e. shared_byte buffer x y (ltb-true _ _ e) }

pub apart_turned : (buffer : List ℕ) (x y : Member) → Apart buffer x y → Apart buffer y x
apart_turned buffer x y s t = s (record { byte = t.byte; first = t.second; second = t.first })

-- a list with no two that share
one_apart : (buffer : List ℕ) (x : Member) (ys : List Member) → shares_one (end_of buffer) x ys ≡ false → Each (Apart buffer x) ys
one_apart buffer x [] e = none
one_apart buffer x (y ∷ ys) e =
    let p = neither (share (end_of buffer) x y) (shares_one (end_of buffer) x ys) e in
    more (unshared_apart buffer x y p.0) (one_apart buffer x ys p.1)

pub all_apart : (buffer : List ℕ) (xs : List Member) → sharing (end_of buffer) xs ≡ false → Pairwise (Apart buffer) xs
all_apart buffer [] e = no_pair
all_apart buffer (x ∷ xs) e =
    let p = neither (shares_one (end_of buffer) x xs) (sharing (end_of buffer) xs) e in
    pairs (one_apart buffer x xs p.0) (all_apart buffer xs p.1)

apart_one : (buffer : List ℕ) (x : Member) (ys : List Member) → Each (Apart buffer x) ys → shares_one (end_of buffer) x ys ≡ false
apart_one buffer x [] none = refl
apart_one buffer x (y ∷ ys) (more p s) = rw (apart_unshared buffer x y p, apart_one buffer x ys s)

pub apart_all : (buffer : List ℕ) (xs : List Member) → Pairwise (Apart buffer) xs → sharing (end_of buffer) xs ≡ false
apart_all buffer [] no_pair = refl
apart_all buffer (x ∷ xs) (pairs p s) = rw (apart_one buffer x xs p, apart_all buffer xs s)

-- modules that pass, each by itself
pub passes_each : (order len : ℕ) (buffer : List ℕ) (xs : List Member) → Each (Passes order len buffer) xs
    → judge_members len order buffer xs ≡ passed
passes_each order len buffer [] none = refl
passes_each order len buffer (x ∷ xs) (more p s) = rw (p, passes_each order len buffer xs s)

module _ (order : ℕ) (m buffer : List ℕ) (x : Member) where
  member_good : judge_member (length m) order buffer x ≡ passed → GoodMember order m buffer x
  member_good e =
      let p = member_parts (length m) order buffer x e in
      record { inside = p.0; loadable = load_good order m (file_of buffer x) x.address.0 p.1 }

  good_member : GoodMember order m buffer x → judge_member (length m) order buffer x ≡ passed
  unfolding judge_member
  good_member g =
      rw (le-ltb (length buffer) (x.place + x.size) g.inside) (good_load order m (file_of buffer x) x.address.0 g.loadable)

module _ (order : ℕ) (m buffer numbers : List ℕ) where
  set_good : Passing (length m) order buffer numbers → LoadableSet order m buffer numbers
  set_good p =
      let n = members_length numbers in
      record {
        machine = machine_good (length m) order p.machine;
        each = λ k h. member_good order m buffer (member_at numbers k)
            (each_at (Passes order (length m) buffer) numbers (each_passes (length m) order buffer (members_of numbers) p.alone) k h);
        whole = p.whole;
        some = omega (arith, n, p.some);
        few = omega (arith, n, p.few, p.whole);
        apart = pairwise_at (Apart buffer) numbers (all_apart buffer (members_of numbers) p.apart);
      }

  good_set : LoadableSet order m buffer numbers → Passing (length m) order buffer numbers
  good_set g =
      let n = members_length numbers in
      record {
        machine = good_machine (length m) order g.machine;
        alone =
            passes_each order (length m) buffer (members_of numbers)
            (each_of (Passes order (length m) buffer) numbers (λ k h. good_member order m buffer (member_at numbers k) (g.each k h)));
        whole = g.whole;
        some = omega (arith, n, g.some);
        few = omega (arith, n, g.few);
        apart = apart_all buffer (members_of numbers) (pairwise_of (Apart buffer) numbers g.apart);
      }

pub accepted_exactly : AcceptedExactly
unfolding load_set_of
accepted_exactly order m buffer numbers =
    record {
      if = λ g. rw (passing_set (length m) order buffer numbers (good_set order m buffer numbers g));
      only = λ e. set_good order m buffer numbers (set_passing (length m) order buffer numbers (accepted_passed order m buffer numbers e));
    }
