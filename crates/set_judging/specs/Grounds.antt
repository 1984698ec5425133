-- What refuses a set of modules. Document 02, (d), and the order of refusals. Every sum is exact.
use Rattle.std.specs.Prelude.{not, ◌||◌, List, [], ◌∷◌, ℕ, ◌+◌, ◌%◌, ltb, eqb, length}
use Rattle.cell.specs.Refusals.{Judged, passed, Ground, judge, after, judge_machine}
use Rattle.cell.specs.declared.Refusal.TheVariants.{Header, ModuleSet}
use Rattle.module_judging.specs.Grounds.{judge_load}
use Rattle.set_judging.specs.declared.Member.{Member}
use Rattle.set_judging.specs.Members.{members_of, file_of}
use Rattle.set_judging.specs.Sharing.{end_of, sharing}

-- -2: a module that reaches outside the buffer
abbrev pub beyond : List ℕ → Member → Ground
beyond buffer x = record { applies = ltb (length buffer) (x.place + x.size); refusal = Header }

-- a module by itself: inside the buffer, and then as load_object judges its file and its address, in a memory of len bytes
unfoldable pub judge_member : ℕ → ℕ → List ℕ → Member → Judged
judge_member len order buffer x =
    after (judge (beyond buffer x ∷ [])) (judge_load len order (file_of buffer x) x.address.0)

-- one module after another, in the order given
abbrev pub judge_members : ℕ → ℕ → List ℕ → List Member → Judged
judge_members len order buffer [] = passed
judge_members len order buffer (x ∷ xs) = after (judge_member len order buffer x) (judge_members len order buffer xs)

-- -4113: numbers left over behind the last three, a set of none or of seventeen and up, or a byte that two of it take, told where each ends
abbrev pub module_set : (Member → ℕ) → List ℕ → Ground
module_set end numbers =
    let xs = members_of numbers in
    record {
      applies =
          not (eqb (length numbers % 3) 0) || (eqb (length xs) 0 || (ltb 16 (length xs) || sharing end xs));
      refusal = ModuleSet;
    }

-- a set for a memory of len bytes: -4101, -4102, each module by itself, -4113
unfoldable pub judge_set : ℕ → ℕ → List ℕ → List ℕ → Judged
judge_set len order buffer numbers =
    after (judge_machine len order)
    (after (judge_members len order buffer (members_of numbers)) (judge (module_set (end_of buffer) numbers ∷ [])))
