-- Listings. Document 01, Listings: a base, kinds and operands. The base is held apart: neither entries nor layout depend on it.
use Rattle.std.specs.Prelude.{◌≡◌, Bool, true, false, ◌&&◌, ◌||◌, List, [], ◌∷◌, ℕ, zero, suc, eqb, length, get_or, Err}
use Rattle.cell.specs.Refusals.{judge, after, Judged, passed}
use Rattle.cell.specs.declared.Refusal.TheVariants as refusal
use Rattle.pack_layout.specs.declared.Class.{Class}
use Rattle.pack_layout.specs.Grounds.{item_count, unequal, plain_operand, no_target}
use Rattle.pack_layout.specs.Kinds.{class_of, among, is_branch, plain, literal, branch, no_kind}

-- kind and operand are functions of the item's number; what they give from count on plays no part
pub record Listing : Type 0 where
  pub count : ℕ
  pub kind : ℕ → ℕ
  pub operand : ℕ → ℕ

-- the listing in two arrays
abbrev pub listed : List ℕ → List ℕ → Listing
listed kinds operands = record { count = length kinds; kind = λ i. get_or kinds i 0; operand = λ i. get_or operands i 0 }

-- some number below n passes the test
unfoldable pub any : (ℕ → Bool) → ℕ → Bool
any p zero = false
any p (suc i) = p i || any p i

-- an item of class k with operand x names item i as its target
abbrev pub targets : Class → ℕ → ℕ → Bool
targets k x i = is_branch k && eqb x i

-- 46h, 47h, 48h: EXECUTE, @EXECUTE, CALL
abbrev pub calls : ℕ → Bool
calls k = among k (0x46 ∷ 0x47 ∷ 0x48 ∷ [])

-- item 0, and the item after a call
abbrev pub after_call : (ℕ → ℕ) → ℕ → Bool
after_call kind zero = true
after_call kind (suc i) = calls (kind i)

-- document 01, Listings: the entries are the first item, the targets of branches, and what follows a call
unfoldable pub entry : Listing → ℕ → Bool
entry l i = after_call l.kind i || any (λ j. targets (class_of (l.kind j)) (l.operand j) i) l.count

-- document 01, Turned back for the input: one item of n, by its class; a byte that is no kind is -4107
abbrev pub judged : Class → ℕ → ℕ → Judged
judged plain n x = judge (plain_operand x ∷ [])
judged literal n x = passed
judged branch n x = judge (no_target n x ∷ [])
judged no_kind n x = Err refusal.Kind

-- k items from item i on, lowest first
unfoldable pub judged_from : Listing → ℕ → ℕ → Judged
judged_from l zero i = passed
judged_from l (suc k) i = after (judged (class_of (l.kind i)) l.count (l.operand i)) (judged_from l k (suc i))

unfoldable pub judged_listing : Listing → Judged
judged_listing l = after (judge (item_count l.count ∷ [])) (judged_from l l.count 0)

-- a listing in two arrays: unequal arrays are refused with the count
unfoldable pub judged_arrays : List ℕ → List ℕ → Judged
judged_arrays kinds operands =
    after (judge (unequal (length kinds) (length operands) ∷ [])) (judged_listing (listed kinds operands))

-- arrays of one length that are not refused
pub record Checked (kinds operands : List ℕ) : Type 0 where
  pub equal : length operands ≡ length kinds
  pub input : judged_listing (listed kinds operands) ≡ passed
