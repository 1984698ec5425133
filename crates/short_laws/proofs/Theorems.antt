-- The theorems.
-- Assumes nothing.
use mathlib.Core.Path.{◌≡◌, refl, sym, ap, ◌∙◌}
use mathlib.Core.Bool.{false}
use mathlib.Core.List.{List, [], ◌∷◌}
use Prim.Native.Nat.{ℕ, ◌+◌, ◌*◌, ◌≤◌, ◌<◌}
use native.Mathlib.Omega.{arith}
use borrow.Author.Tests.{le-ltb}
use lib.ListN.{length, get_or, drop}
use lib.Seq.{take_at}
use Rattle.std.specs.Prelude.{Err, Ok}
use Rattle.cell.specs.Memory.{Bytewise}
use Rattle.cell.specs.Refusals.{judge, Judged, passed}
use Rattle.cell.proofs.JudgementLaws.{both_pass, refusal_some}
use Rattle.cell.proofs.MemoryLaws.{cell_below}
use Rattle.pack_layout.specs.declared.Class.{Class}
use Rattle.pack_layout.specs.declared.Class.TheVariants as class
use Rattle.pack_layout.specs.File.{file_count, file_base, file_kinds, file_operands, filed, judged_length, judged_file}
use Rattle.pack_layout.specs.Grounds.{unequal}
use Rattle.pack_layout.specs.Kinds.{class_of}
use Rattle.pack_layout.specs.Listing.{Listing, listed, judged_from, judged_arrays, judged_listing}
use Rattle.pack_layout.proofs.Listing.{plain_operand_lem, is_kind_lem}
use Rattle.pack_refusals.specs.Judgement.{judge_all}
use Rattle.packer.specs.Pack.{PackResult, pack_if}
use Rattle.pack_files.specs.Files.{judge_pack_file, pack_file_of}
use Rattle.short_judging.specs.Operands.{has_operand, operands_before}
use Rattle.short_judging.specs.ShortFile.{short_count, short_base, short_kinds, short_kind, short_operands, short_listing}
use Rattle.short_judging.specs.Judging.{judged_short}
use Rattle.short_judging.proofs.Parts.{file_count_lem, file_operand, file_operands_lem, short_operands_lem, short_cells, short_count_lem as short-kinds-length}
use Rattle.short_judging.proofs.Passing.{GoodFile, file_good, good_file, GoodShort, short_good, good_short}
use Rattle.short_files.specs.Files.{long_file, short_file}
use Rattle.short_files.specs.Converted.{convert_if, judge_room, shortened, lengthened, judge_shorten, judge_lengthen, shorten_of, lengthen_of}
use Rattle.short_files.proofs.Lengths.{long_length, short_length}
use Rattle.short_packing.specs.Packing.{judge_pack_short, pack_short_of}
use Rattle.short_laws.specs.Claims.{file_of, wrote, ThereAndBack, BackAndThere, Twins, by_shorten, by_lengthen, Alike, OneListing, OneImage}
use Rattle.short_laws.proofs.Reading.{Arrays, long_count, long_base, long_kinds, long_operands, short_count_lem, short_operand_count, short_base_lem, short_kinds_lem, short_operands_back}
use Rattle.short_laws.proofs.Writing.{long_again, short_again}

-- a conversion that answered 0
wrote_file : (j : Judged) (file out : List ℕ) → (convert_if j file out).number ≡ 0 → (j ≡ passed) × (file_of (convert_if j file out) ≡ file)
wrote_file (Err r) file out e = absurd (refusal_some r e)
wrote_file (Ok _) file out e = (refl, take_at file (drop (length file) out) (length file) refl)

-- a conversion that has to answer 0
converts : (input : Judged) (file same room : List ℕ) → input ≡ passed → file ≡ same → length same ≤ length room
    → convert_if (judge_room input file (length room)) file room ≡ wrote same room
converts input file same room e q h = rw (e, q, le-ltb (length room) (length same) h) refl

-- arrays that are the same are one listing
alike_listing : (file short : List ℕ) → Alike file short → short_listing short ≡ filed file
alike_listing file short a = ap (λ (k : List ℕ). listed k (short_operands short)) a.kinds ∙ ap (listed (file_kinds file)) a.operands

-- a listing file that is taken, and its short file
module _ (s : List ℕ) (low : Bytewise s) (ok : judged_file s ≡ passed) where
  abbrev good : GoodFile s
  good = file_good s ok

  count_is : length (file_kinds s) ≡ file_count s
  count_is = file_count_lem s (omega (arith, good.whole))

  arrays : Arrays (file_kinds s) (file_operands s) (file_base s)
  arrays =
      record {
        equal = file_operands_lem s ∙ sym count_is;
        most = omega (arith, count_is, good.most);
        cells = λ i h. rw (file_operand s i (omega (arith, count_is))) (cell_below 0 s (8 + file_count s + 4 * i) low);
        base_cell = cell_below 0 s 4 low;
      }

  listing_ok : judged_listing (filed s) ≡ passed
  unfolding judged_file judged_arrays
  listing_ok =
      (both_pass (judge (unequal (length (file_kinds s)) (length (file_operands s)) ∷ [])) (judged_listing (filed s))
      (both_pass (judged_length s) (judged_arrays (file_kinds s) (file_operands s)) ok).1
      ).1

  plain_zero : (i : ℕ) → i < length (file_kinds s) → has_operand (class_of (get_or (file_kinds s) i 0)) ≡ false → get_or (file_operands s) i 0 ≡ 0
  plain_zero i h e = go (class_of (get_or (file_kinds s) i 0)) refl e
    where
      go : (c : Class) → class_of (get_or (file_kinds s) i 0) ≡ c → has_operand c ≡ false → get_or (file_operands s) i 0 ≡ 0
      go class.Plain q r = plain_operand_lem (filed s) listing_ok i h q
      go class.Literal q r = cc
      go class.Branch q r = cc
      go class.NoKind q r = absurd (is_kind_lem (filed s) listing_ok i h q)

  pub shortened_alike : Alike s (shortened s)
  shortened_alike =
      record {
        kinds = short_kinds_lem (file_kinds s) (file_operands s) (file_base s) arrays;
        operands = short_operands_back (file_kinds s) (file_operands s) (file_base s) arrays plain_zero;
        base = short_base_lem (file_kinds s) (file_operands s) (file_base s) arrays;
      }

  shortened_listing : short_listing (shortened s) ≡ filed s
  shortened_listing = alike_listing s (shortened s) shortened_alike

  pub shortened_ok : judged_short (shortened s) ≡ passed
  shortened_ok =
      let n = short_count_lem (file_kinds s) (file_operands s) (file_base s) arrays in
      let m = short_operand_count (file_kinds s) (file_operands s) (file_base s) arrays in
      let k : (i : ℕ) → operands_before (short_kind (shortened s)) i ≡ operands_before (filed s).kind i = λ i. ap (λ (x : Listing). operands_before x.kind i) shortened_listing in
      good_short (shortened s)
      (record {
        whole = short_length (filed s) (file_base s) ∙ omega (arith, n, m);
        operands = m ∙ sym (k (short_count (shortened s)) ∙ ap (operands_before (filed s).kind) n);
        some = λ z. good.some (sym (n ∙ count_is) ∙ z);
        most = omega (arith, n, count_is, good.most);
        items = ap (λ (x : Listing). judged_from x (short_count (shortened s)) 0) shortened_listing ∙ ap (λ (i : ℕ). judged_from (filed s) i 0) (n ∙ count_is) ∙ good.items;
      })

  pub shortened_back : lengthened (shortened s) ≡ s
  shortened_back =
      ap (λ (x : Listing). long_file x (short_base (shortened s))) shortened_listing ∙ ap (long_file (filed s)) shortened_alike.base ∙ long_again s low good

-- a short file that is taken, and its listing file
module _ (s : List ℕ) (low : Bytewise s) (ok : judged_short s ≡ passed) where
  abbrev fine : GoodShort s
  fine = short_good s ok

  short_count_is : length (short_kinds s) ≡ short_count s
  short_count_is = short-kinds-length s (omega (arith, fine.whole))

  short_arrays_lem : Arrays (short_kinds s) (short_operands s) (short_base s)
  short_arrays_lem =
      record {
        equal = short_operands_lem s;
        most = omega (arith, short_count_is, fine.most);
        cells = λ i h. short_cells s low i (omega (arith, short_operands_lem s));
        base_cell = cell_below 0 s 8 low;
      }

  pub lengthened_alike : Alike (lengthened s) s
  lengthened_alike =
      record {
        kinds = sym (long_kinds (short_kinds s) (short_operands s) (short_base s) short_arrays_lem);
        operands = sym (long_operands (short_kinds s) (short_operands s) (short_base s) short_arrays_lem);
        base = sym (long_base (short_kinds s) (short_operands s) (short_base s) short_arrays_lem);
      }

  lengthened_listing : filed (lengthened s) ≡ short_listing s
  lengthened_listing = sym (alike_listing (lengthened s) s lengthened_alike)

  pub lengthened_ok : judged_file (lengthened s) ≡ passed
  lengthened_ok =
      let n = long_count (short_kinds s) (short_operands s) (short_base s) short_arrays_lem in
      good_file (lengthened s)
      (record {
        whole = long_length (short_listing s) (short_base s) ∙ omega (arith, n);
        some = λ z. fine.some (sym (n ∙ short_count_is) ∙ z);
        most = omega (arith, n, short_count_is, fine.most);
        items = ap (λ (x : Listing). judged_from x (file_count (lengthened s)) 0) lengthened_listing ∙ ap (λ (i : ℕ). judged_from (short_listing s) i 0) (n ∙ short_count_is) ∙ fine.items;
      })

  pub lengthened_back : shortened (lengthened s) ≡ s
  lengthened_back =
      ap (λ (x : Listing). short_file x (file_base (lengthened s))) lengthened_listing ∙ ap (short_file (short_listing s)) (sym lengthened_alike.base) ∙ short_again s low fine

-- what was taken, and what was written
module _ (s out : List ℕ) where
  shorten_took : (shorten_of s out).number ≡ 0 → (judged_file s ≡ passed) × (file_of (shorten_of s out) ≡ shortened s)
  unfolding shorten_of judge_shorten
  shorten_took e =
      let p = wrote_file (judge_shorten s (length out)) (shortened s) out e in
      ((both_pass (judged_file s) _ p.0).0, p.1)

  lengthen_took : (lengthen_of s out).number ≡ 0 → (judged_short s ≡ passed) × (file_of (lengthen_of s out) ≡ lengthened s)
  unfolding lengthen_of judge_lengthen
  lengthen_took e =
      let p = wrote_file (judge_lengthen s (length out)) (lengthened s) out e in
      ((both_pass (judged_short s) _ p.0).0, p.1)

pub there_and_back : ThereAndBack
unfolding lengthen_of judge_lengthen
there_and_back file out room low e h =
    let p = shorten_took file out e in
    rw p.1 (converts (judged_short (shortened file)) (lengthened (shortened file)) file room (shortened_ok file low p.0) (shortened_back file low p.0) h)

pub back_and_there : BackAndThere
unfolding shorten_of judge_shorten
back_and_there file out room low e h =
    let p = lengthen_took file out e in
    rw p.1 (converts (judged_file (lengthened file)) (shortened (lengthened file)) file room (lengthened_ok file low p.0) (lengthened_back file low p.0) h)

-- twins are both taken, and alike
both_taken : (file short : List ℕ) → Twins file short → (judged_file file ≡ passed) × (judged_short short ≡ passed) × Alike file short
both_taken _ _ (by_shorten file out low e) =
    let p = shorten_took file out e in
    rw p.1 (p.0, shortened_ok file low p.0, shortened_alike file low p.0)
both_taken _ _ (by_lengthen short out low e) =
    let p = lengthen_took short out e in
    rw p.1 (lengthened_ok short low p.0, p.0, lengthened_alike short low p.0)

pub one_listing : OneListing
one_listing file short t = (both_taken file short t).2

-- a packing depends on the judgement of its input, the base and the listing
module _ (order : ℕ) (out : List ℕ) where
  abbrev packing : Judged → ℕ → Listing → PackResult
  packing j base l = pack_if (judge_all order j base l (length out)) order base l out

  one_packing : (file short : List ℕ) → judged_file file ≡ passed → judged_short short ≡ passed → Alike file short
      → packing (judged_short short) (short_base short) (short_listing short) ≡ packing (judged_file file) (file_base file) (filed file)
  one_packing file short p q a =
      ap (λ (j : Judged). packing j (short_base short) (short_listing short)) (q ∙ sym p)
      ∙ ap (λ (b : ℕ). packing (judged_file file) b (short_listing short)) a.base
      ∙ ap (packing (judged_file file) (file_base file)) (alike_listing file short a)

pub one_image : OneImage
unfolding pack_short_of pack_file_of judge_pack_short judge_pack_file
one_image file short t order out = let p = both_taken file short t in one_packing order out file short p.0 p.1 p.2
