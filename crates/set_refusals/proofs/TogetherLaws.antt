-- The modules of a set together: told by how many numbers there are, and by the lengths of the files.
use Rattle.std.proofs.Common.{◌≡◌, ℕ, ◌/◌, ◌%◌, Bool, not, ◌||◌, eqb, ltb, List, [], ◌∷◌, length, refl, ap, arith}
use Rattle.std.proofs.lemmas.Bool.Decides.{nat_tests}
use Rattle.std.specs.Prelude.{Ok, Err}
use Rattle.cell.specs.Refusals.{Judged, passed, judge, after, judge_machine}
use Rattle.set_judging.specs.Members.{members_of}
use Rattle.set_judging.specs.Sharing.{end_of, end_by_size, Headed}
use Rattle.set_judging.specs.Grounds.{judge_members, module_set, judge_set}
use Rattle.set_judging.proofs.MemberLaws.{members_length}
use Rattle.set_judging.proofs.PassLaws.{all_fit, all_headed}
use Rattle.set_judging.proofs.SharingLaws.{sharing_by_size}

-- one to sixteen modules, by their three numbers each
few : (n k : ℕ) (b : Bool) → k ≡ n / 3
    → (not (eqb (n % 3) 0) || (eqb k 0 || (ltb 16 k || b))) ≡ (not (eqb (n % 3) 0) || (eqb n 0 || (ltb 48 n || b)))
few n k b e = grind (arith, nat_tests)

pub members_few : (numbers : List ℕ) (b : Bool)
    → (not (eqb (length numbers % 3) 0) || (eqb (length (members_of numbers)) 0 || (ltb 16 (length (members_of numbers)) || b)))
    ≡ (not (eqb (length numbers % 3) 0) || (eqb (length numbers) 0 || (ltb 48 (length numbers) || b)))
members_few numbers b = few (length numbers) (length (members_of numbers)) b (members_length numbers)

module _ (len order : ℕ) (buffer numbers : List ℕ) where
  pub passed_headed : judge_members len order buffer (members_of numbers) ≡ passed → Headed numbers
  passed_headed e = all_headed len buffer numbers (all_fit len order buffer numbers e)

  by_size : (j : Judged) → judge_members len order buffer (members_of numbers) ≡ j
      → after j (judge (module_set (end_of buffer) numbers ∷ [])) ≡ after j (judge (module_set end_by_size numbers ∷ []))
  by_size (Ok _) e = rw (sharing_by_size len order buffer (members_of numbers) e)
  by_size (Err r) e = refl

  -- each ends where its file's length says, once it has passed by itself
  pub judged_by_size : judge_set len order buffer numbers
      ≡ after (judge_machine len order)
      (after (judge_members len order buffer (members_of numbers)) (judge (module_set end_by_size numbers ∷ [])))
  unfolding judge_set
  judged_by_size = ap (after (judge_machine len order)) (by_size (judge_members len order buffer (members_of numbers)) refl)
