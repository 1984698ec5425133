-- What was read into working arrays is the listing of the image, and the answer says whether it packs to it.
-- Assumes nothing.
use mathlib.Core.Path.{◌≡◌, refl, sym, ap, ap₂, ◌∙◌}
use mathlib.Core.Bool.{Bool, true, false, not}
use mathlib.Core.List.{List, [], ◌∷◌, ◌++◌}
use Prim.Native.Nat.{ℕ, zero, suc, ◌+◌, ◌-◌, ◌/◌, ◌^◌, ◌≤◌, ◌<◌}
use native.Mathlib.Decide.{dec_lt}
use native.Mathlib.Omega.{arith}
use borrow.Author.Tests.{leb-false, ltb-false, not-false}
use lib.Dec.{leb, ltb}
use lib.ListN.{length, get_or, take, replicate, length-replicate, get_or-replicate}
use lib.Seq.{length-take-le, get_or-take, take_at}
use Rattle.std.specs.Prelude.{Err, Ok}
use Rattle.cell.specs.Choice.{if}
use Rattle.cell.specs.Refusals.{judge, unaligned, passed}
use Rattle.cell.specs.declared.Refusal.{Refusal}
use Rattle.cell.specs.declared.Refusal.TheVariants as refusal
use Rattle.cell.proofs.BooleanLaws.{neither}
use Rattle.cell.proofs.JudgementLaws.{both_pass, one_clear}
use Rattle.pack_layout.specs.declared.Class.{Class}
use Rattle.pack_layout.specs.declared.Class.TheVariants.{Plain as plain, Literal as literal, Branch as branch, NoKind as no_kind}
use Rattle.pack_layout.specs.Kinds.{class_of}
use Rattle.pack_layout.specs.Listing.{listed}
use Rattle.pack_layout.specs.Reading.{each, cells_of, reader, items_from, items_read, first_at, kind_read_at, operand_of, operand_read_at, kinds_read, operands_read, listing_read}
use Rattle.pack_layout.specs.Unpacking.{packs_to, taken}
use Rattle.pack_layout.proofs.Listing.{some_item}
use Rattle.pack_layout.proofs.Reading.{each_length, each_is}
use Rattle.pack_layout.proofs.Unpacking.{packs_is}
use Rattle.pack_prepare.proofs.Checking.{cells_most}
use Rattle.pack_refusals.specs.Judgement.{judge_order}
use Rattle.unpack_judging.specs.Judgement.{bytes_out_of_place, judge_place}
use Rattle.unpack_comparing.proofs.Comparing.{packs_size}
use Rattle.unpack_reading.specs.Arrays.{item_in, operand_in, Filled}
use Rattle.unpack_reading.proofs.Finding.{item_is}
use Rattle.unpacker.specs.Judgement.{judge_read}
use Rattle.unpacker.specs.Unpack.{read_if, Recovered}

-- every item read begins inside the image
items_inside : (img : List ℕ) (k i j : ℕ) → i ≤ j → j < items_from img k i → (reader img j).at < length img
unfolding items_from
items_inside img zero i j a b = absurd (omega arith)
items_inside img (suc k) i j a b =
    go (leb (length img) (reader img i).at) refl b (dec_lt i j) (λ l c. items_inside img k (suc i) j l c)
  where
    go : (t : Bool) → leb (length img) (reader img i).at ≡ t → j < if t i (items_from img k (suc i)) → Dec (i < j)
        → (i < j → j < items_from img k (suc i) → (reader img j).at < length img) → (reader img j).at < length img
    go true e b d f = absurd (omega arith)
    go false e b (yes l) f = f l b
    go false e b (no l) f = let q : i ≡ j = omega arith in rw (← q) (leb-false (length img) (reader img i).at e)

-- a part from the first place on
pub part : (n : ℕ) → n - 0 ≡ n
part n = omega arith

-- the first m places of an array that holds one number throughout
pub fresh_length : (k m x : ℕ) → m ≤ k → length (take (m - 0) (replicate k x)) ≡ m
fresh_length k m x h = rw (part m) (length-take-le m (replicate k x) (rw (length-replicate k x) h))

pub fresh_at : (k m x : ℕ) → m ≤ k → (c : ℕ) → c < length (take (m - 0) (replicate k x)) → get_or (take (m - 0) (replicate k x)) c 0 ≡ x
fresh_at k m x h c b =
    let l : c < m = omega (arith, fresh_length k m x h) in
    rw (part m) (get_or-take m (replicate k x) c 0 l ∙ get_or-replicate k c x 0 (omega arith))

pub found_in : (base n : ℕ) (kinds held firsts operands : List ℕ) → n ≤ length held
    → ((j : ℕ) → j < length (take (n - 0) held)
    → get_or operands j 0 ≡ operand_in (class_of (get_or (take (n - 0) kinds) j 0)) base firsts (get_or (take (n - 0) held) j 0))
    → (j : ℕ) → j < n → get_or operands j 0 ≡ operand_in (class_of (get_or kinds j 0)) base firsts (get_or held j 0)
found_in base n kinds held firsts operands b f j h =
    f j (rw (part n, length-take-le n held b) h)
    ∙ ap₂ (λ (k x : ℕ). operand_in (class_of k) base firsts x)
    (ap (λ (m : ℕ). get_or (take m kinds) j 0) (part n) ∙ get_or-take n kinds j 0 h)
    (ap (λ (m : ℕ). get_or (take m held) j 0) (part n) ∙ get_or-take n held j 0 h)

pub kinds_length : (img : List ℕ) → length (kinds_read img) ≡ items_read img
unfolding kinds_read
kinds_length img = each_length (kind_read_at img) (items_read img) 0

pub operands_length : (img : List ℕ) (base : ℕ) → length (operands_read img base) ≡ items_read img
unfolding operands_read
operands_length img base = each_length (operand_read_at img base) (items_read img) 0

module _ (order base : ℕ) (s : List ℕ) where
  abbrev img : List ℕ
  img = cells_of order s

  -- an image that is taken has at most 4,096 items and 32,768 bytes
  taken_items : taken order base s ≡ true → items_read img ≤ 4096
  taken_items e =
      let p = packs_is order base (listing_read img base) s e in
      omega (arith, (some_item (listing_read img base) p.input).1, kinds_length img)

  taken_bytes : taken order base s ≡ true → length s ≤ 32768
  taken_bytes e =
      let p = packs_is order base (listing_read img base) s e in
      let q = cells_most (kinds_read img) (operands_read img base) (record { equal = operands_length img base ∙ sym (kinds_length img); input = p.input }) in
      omega (arith, packs_size order base (listing_read img base) s p, q)

  -- what is not refused is taken
  pub passed_taken : judge_read order base s ≡ passed → taken order base s ≡ true
  unfolding judge_read
  passed_taken e =
      let p = both_pass (judge_place order base (length s)) _ e in
      not-false (taken order base s) (one_clear (not (taken order base s)) refusal.NoListing passed p.1).0

  pub passed_items : judge_read order base s ≡ passed → items_read img ≤ 4096
  passed_items e = taken_items (passed_taken e)

  not_taken : (b : Bool) → taken order base s ≡ b → (taken order base s ≡ true → ⊥) → b ≡ false
  not_taken true e h = absurd (h e)
  not_taken false e h = refl

  -- order or place refused
  pub turned_back : (r : Refusal) (n : ℕ) (kinds operands : List ℕ) → judge_place order base (length s) ≡ Err r
      → (Err r ≡ read_if (judge_read order base s) n) × Recovered order base s kinds operands
  unfolding judge_read
  turned_back r n kinds operands e =
      let q : judge_read order base s ≡ Err r = rw e in (
        rw q,
        record {
          kinds_front = λ p. absurd (let z : ◌≡◌ {A = ℕ} 0 1 = cc in omega arith);
          operands_front = λ p. absurd (let z : ◌≡◌ {A = ℕ} 0 1 = cc in omega arith);
        },
      )

  module _ (place : judge_place order base (length s) ≡ passed) where
    -- refused, and no promise on the arrays
    pub none : taken order base s ≡ false → (n : ℕ) (kinds operands : List ℕ)
        → (Err refusal.NoListing ≡ read_if (judge_read order base s) n) × Recovered order base s kinds operands
    unfolding judge_read
    none e n kinds operands =
        let q : judge_read order base s ≡ Err refusal.NoListing = rw (place, e) in (
          rw q,
          record {
            kinds_front = λ p. absurd (let z : ◌≡◌ {A = ℕ} 0 1 = cc in omega arith);
            operands_front = λ p. absurd (let z : ◌≡◌ {A = ℕ} 0 1 = cc in omega arith);
          },
        )

    pub too_many : (n : ℕ) (kinds operands : List ℕ) → n ≡ items_read img → 4096 < n
        → (Err refusal.NoListing ≡ read_if (judge_read order base s) (items_read img)) × Recovered order base s kinds operands
    too_many n kinds operands e h =
        none (not_taken (taken order base s) refl (λ t. omega (arith, taken_items t))) (items_read img) kinds operands

    pub too_long : (kinds operands : List ℕ) → 32768 < length s
        → (Err refusal.NoListing ≡ read_if (judge_read order base s) (items_read img)) × Recovered order base s kinds operands
    too_long kinds operands h =
        none (not_taken (taken order base s) refl (λ t. omega (arith, taken_bytes t))) (items_read img) kinds operands

    below : base + length s ≤ 16777216
    unfolding judge_place
    below =
        let p = both_pass (judge_order order) (judge (unaligned base ∷ bytes_out_of_place base (length s) ∷ [])) place in
        let q = one_clear (unaligned base).applies refusal.Unaligned _ p.1 in
        let t = one_clear (bytes_out_of_place base (length s)).applies refusal.Base passed q.1 in
        ltb-false 16777216 (base + length s) (neither (ltb base 0x10) (ltb 16777216 (base + length s)) t.0).1

    -- arrays as the reading filled them: the first n kinds, and the operands once the targets are found
    module _ (n : ℕ) (kinds held firsts operands : List ℕ) (count : n ≡ items_read img) (filled : Filled img base kinds held firsts n)
        (kinds-room : n ≤ length kinds) (size : length operands ≡ n) (firsts-size : length firsts ≡ length img) (cells : length img ≡ length s / 4)
        (words : (j : ℕ) → get_or held j 0 < 2 ^ 32)
        (found : (j : ℕ) → j < n → get_or operands j 0 ≡ operand_in (class_of (get_or kinds j 0)) base firsts (get_or held j 0)) where
      kinds_are : take n kinds ≡ kinds_read img
      unfolding kinds_read
      kinds_are =
          each_is (kind_read_at img) n (take n kinds) (length-take-le n kinds kinds-room) (λ j h. get_or-take n kinds j 0 h ∙ filled.kind j h)
          ∙ ap (λ (k : ℕ). each (kind_read_at img) k 0) count

      -- the array gives the item that is read
      item_there : (a : ℕ) → a < 2 ^ 32 → item_in base firsts a ≡ first_at img base (items_read img) a
      unfolding items_read
      item_there a h =
          item_is img base n firsts a filled.first
          (λ j b. omega (arith, items_inside img 4097 0 j (omega arith) (omega (arith, count)), firsts-size))
          (omega (arith, below, firsts-size, cells)) h
          ∙ ap (λ (k : ℕ). first_at img base k a) count

      operand_of_lem : (c : Class) (x : ℕ) → x < 2 ^ 32 → operand_in c base firsts x ≡ operand_of img base c x
      operand_of_lem plain x h = refl
      operand_of_lem literal x h = refl
      operand_of_lem branch x h = item_there x h
      operand_of_lem no_kind x h = refl

      operands_are : operands ≡ operands_read img base
      unfolding operands_read
      operands_are =
          each_is (operand_read_at img base) n operands size
          (λ j h. found j h ∙ operand_of_lem (class_of (get_or kinds j 0)) (get_or held j 0) (words j)
          ∙ ap₂ (λ (k x : ℕ). operand_of img base (class_of k) x) (filled.kind j h) (filled.value j h))
          ∙ ap (λ (k : ℕ). each (operand_read_at img base) k 0) count

      judged_so : (b : Bool) → b ≡ packs_to order base (listed (take n kinds) operands) s → taken order base s ≡ b
      judged_so b e = ap₂ (λ (k x : List ℕ). packs_to order base (listed k x) s) (sym kinds_are) (sym operands_are) ∙ sym e

      pub differs : false ≡ packs_to order base (listed (take n kinds) operands) s → (kinds2 operands2 : List ℕ)
          → (Err refusal.NoListing ≡ read_if (judge_read order base s) (items_read img)) × Recovered order base s kinds2 operands2
      differs e kinds2 operands2 = none (judged_so false e) (items_read img) kinds2 operands2

      pub agrees : true ≡ packs_to order base (listed (take n kinds) operands) s → (rest : List ℕ)
          → (Ok n ≡ read_if (judge_read order base s) (items_read img)) × Recovered order base s kinds (operands ++ rest)
      unfolding judge_read
      agrees e rest =
          let q : judge_read order base s ≡ passed = rw (place, judged_so true e) in (
            rw (q, count),
            record {
              kinds_front = λ p. ap (λ (k : ℕ). take k kinds) (sym count) ∙ kinds_are;
              operands_front = λ p. take_at operands rest (items_read img) (size ∙ count) ∙ operands_are;
            },
          )
