-- Modules that share a byte: by their counts and by their lengths alike.
use mathlib.Core.Path.{◌≡◌, refl}
use mathlib.Core.Bool.{true, false}
use mathlib.Core.List.{List, [], ◌∷◌}
use Prim.Native.Nat.{ℕ, ◌+◌, ◌*◌, ◌≤◌, ◌<◌, max, min}
use native.Mathlib.Omega.{arith}
use borrow.Author.Tests.{leb-true, le-ltb, le-leb, lt-leb}
use lib.Dec.{leb}
use lib.ListN.{length, drop}
use Rattle.set_judging.specs.Members.{members_of, member_at}
use Rattle.cell.specs.Refusals.{passed}
use Rattle.cell.proofs.BooleanLaws.{both_true}
use Rattle.set_judging.specs.declared.Member.{Member}
use Rattle.set_judging.specs.Sharing.{end_of, end_by_size, shares_one, sharing, ascending_from}
use Rattle.set_judging.specs.Conditions.{Fits}
use Rattle.set_judging.specs.Grounds.{judge_member, judge_members}
use Rattle.set_judging.proofs.MemberLaws.{Each, none, more, members_from}
use Rattle.set_judging.proofs.PassLaws.{member_fits, each_passes}

-- ends that are told alike
module _ (e f : Member → ℕ) where
  one_alike : (x : Member) (ys : List Member) → e x ≡ f x → Each (λ (y : Member). e y ≡ f y) ys → shares_one e x ys ≡ shares_one f x ys
  one_alike x [] q s = refl
  one_alike x (y ∷ ys) q (more p s) = rw (q, p, one_alike x ys q s)

  sharing_alike : (xs : List Member) → Each (λ (x : Member). e x ≡ f x) xs → sharing e xs ≡ sharing f xs
  sharing_alike [] s = refl
  sharing_alike (x ∷ xs) (more p s) = rw (one_alike x xs p s, sharing_alike xs s)

-- a file that is as long as its header says ends with its last cell
end_by_size_lem : (len : ℕ) (buffer : List ℕ) (x : Member) → Fits len buffer x → end_of buffer x ≡ end_by_size x
end_by_size_lem len buffer x f = let w = f.whole in omega (arith, w)

ends_each : (len order : ℕ) (buffer : List ℕ) (xs : List Member) → Each (λ (x : Member). judge_member len order buffer x ≡ passed) xs
    → Each (λ (x : Member). end_of buffer x ≡ end_by_size x) xs
ends_each len order buffer [] none = none
ends_each len order buffer (x ∷ xs) (more p s) =
    more (end_by_size_lem len buffer x (member_fits len order buffer x p)) (ends_each len order buffer xs s)

pub sharing_by_size : (len order : ℕ) (buffer : List ℕ) (xs : List Member) → judge_members len order buffer xs ≡ passed
    → sharing (end_of buffer) xs ≡ sharing end_by_size xs
sharing_by_size len order buffer xs e =
    sharing_alike (end_of buffer) end_by_size xs (ends_each len order buffer xs (each_passes len order buffer xs e))

-- modules of which each begins where the one before it ends, or later
module _ (end : Member → ℕ) (long : (x : Member) → x.address.0 ≤ end x) where
  later_apart : (x : Member) (e : ℕ) (ys : List Member) → end x ≤ e → ascending_from end e ys ≡ true → shares_one end x ys ≡ false
  later_apart x e [] h a = refl
  later_apart x e (y ∷ ys) h a =
      let p = both_true (leb e y.address.0) (ascending_from end (end y) ys) a in
      let f = leb-true e y.address.0 p.0 in
      let l = long y in
      rw (
        le-ltb (max x.address.0 y.address.0) (min (end x) (end y)) (omega (arith, h, f)),
        later_apart x (end y) ys (omega (arith, h, f, l)) p.1,
      )

  ascending_apart : (e : ℕ) (xs : List Member) → ascending_from end e xs ≡ true → sharing end xs ≡ false
  ascending_apart e [] a = refl
  ascending_apart e (x ∷ xs) a =
      let p = both_true (leb e x.address.0) (ascending_from end (end x) xs) a in
      rw (later_apart x (end x) xs (omega arith) p.1, ascending_apart (end x) xs p.1)

pub ascending_unshared : (e : ℕ) (xs : List Member) → ascending_from end_by_size e xs ≡ true → sharing end_by_size xs ≡ false
ascending_unshared = ascending_apart end_by_size (λ x. omega arith)

-- from module k on: where it begins at the bound or later, those after it from its end; else they do not ascend
pub ascending_on : (end : Member → ℕ) (e : ℕ) (numbers : List ℕ) (k : ℕ) (x : Member) → x ≡ member_at numbers k
    → 3 * k + 3 ≤ length numbers → e ≤ x.address.0
    → ascending_from end e (drop k (members_of numbers)) ≡ ascending_from end (end x) (drop (k + 1) (members_of numbers))
ascending_on end e numbers k x q h l =
    let f : drop k (members_of numbers) ≡ x ∷ drop (k + 1) (members_of numbers) = rw q (members_from numbers k h) in
    rw (f, le-leb e x.address.0 l)

pub ascending_not : (end : Member → ℕ) (e : ℕ) (numbers : List ℕ) (k : ℕ) (x : Member) → x ≡ member_at numbers k
    → 3 * k + 3 ≤ length numbers → x.address.0 < e → ascending_from end e (drop k (members_of numbers)) ≡ false
ascending_not end e numbers k x q h l =
    let f : drop k (members_of numbers) ≡ x ∷ drop (k + 1) (members_of numbers) = rw q (members_from numbers k h) in
    rw (f, lt-leb e x.address.0 l)
