-- Judgements in order, and what passing says: of two judgements, of a ground, and of the memory and the byte order that a call is lent.
use Rattle.std.proofs.Common.{◌≡◌, ℕ, ◌%◌, Bool, true, false, not, ◌||◌, eqb, ltb, [], ◌∷◌, refl, arith, ltb-false, eqb-true}
use borrow.Author.Tests.{not-false}
use Rattle.cell.specs.Choice.{if}
use Rattle.cell.specs.Refusals.{refusal_number, Judged, passed, judge, after, memory_length, byte_order, judge_machine, GoodMachine}
use Rattle.cell.specs.declared.Refusal.{Refusal}
use Rattle.cell.specs.declared.Refusal.TheVariants as refusal
use Rattle.std.specs.Prelude.{Ok, Err}
use Rattle.cell.proofs.BooleanLaws.{neither}

-- both judgements pass; of a list judged in order, the first and the rest
pub both_pass : (i j : Judged) → after i j ≡ passed → (i ≡ passed) × (j ≡ passed)
both_pass (Ok _) j e = (refl, e)
both_pass (Err r) j e = absurd (let z : ◌≡◌ {A = ℕ} 0 1 = cc in omega arith)

-- a judgement that nothing follows, and three in order
pub after_passed : (j : Judged) → after j passed ≡ j
after_passed (Ok _) = refl
after_passed (Err r) = refl

pub after_after : (i j k : Judged) → after (after i j) k ≡ after i (after j k)
after_after (Ok _) j k = refl
after_after (Err r) j k = refl

-- a ground that does not refuse does not apply
pub one_clear : (t : Bool) (r : Refusal) (j : Judged) → if t (Err r) j ≡ passed → (t ≡ false) × (j ≡ passed)
one_clear true r j e = absurd (let z : ◌≡◌ {A = ℕ} 0 1 = cc in omega arith)
one_clear false r j e = (refl, e)

-- no refusal has the number 0
pub refusal_some : (r : Refusal) → refusal_number r ≡ 0 → ⊥
refusal_some refusal.MemoryLength e = omega arith
refusal_some refusal.ByteOrder e = omega arith
refusal_some refusal.StackAreas e = omega arith
refusal_some refusal.Table e = omega arith
refusal_some refusal.Header e = omega arith
refusal_some refusal.FileLength e = omega arith
refusal_some refusal.Unaligned e = omega arith
refusal_some refusal.Outside e = omega arith
refusal_some refusal.ShortOutput e = omega arith
refusal_some refusal.ItemCount e = omega arith
refusal_some refusal.OperandCount e = omega arith
refusal_some refusal.Kind e = omega arith
refusal_some refusal.PlainOperand e = omega arith
refusal_some refusal.Target e = omega arith
refusal_some refusal.Base e = omega arith
refusal_some refusal.NoListing e = omega arith
refusal_some refusal.ModuleSet e = omega arith

pub machine_good : (len order : ℕ) → judge_machine len order ≡ passed → GoodMachine len order
unfolding judge_machine
machine_good len order e =
    let p = one_clear (memory_length len).applies refusal.MemoryLength (judge (byte_order order ∷ [])) e in
    let q = one_clear (ltb 1 order) refusal.ByteOrder passed p.1 in
    let s = neither (ltb len 1024) (ltb 16777216 len || not (eqb (len % 4) 0)) p.0 in
    let t = neither (ltb 16777216 len) (not (eqb (len % 4) 0)) s.1 in
    record {
      lent = record {
        whole = eqb-true (len % 4) 0 (not-false (eqb (len % 4) 0) t.1);
        least = ltb-false len 1024 s.0;
        most = ltb-false 16777216 len t.0;
      };
      known = ltb-false 1 order q.0;
    }
