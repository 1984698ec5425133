-- A call with a place in `out`, and one without.
-- Assumes nothing.
use mathlib.Core.Path.{◌≡◌, refl, ap, ◌∙◌}
use mathlib.Core.List.{List}
use Prim.Native.Nat.{ℕ, ◌≤◌, ◌<◌}
use borrow.Author.Tests.{lt-ltb, le-ltb}
use lib.ListN.{length}
use Rattle.std.specs.Prelude.{Err, Ok}
use Rattle.cell.specs.Refusals.{Judged}
use Rattle.lent_arrays.specs.Lending.{with_room, no_place}
use Rattle.calls.specs.Listings.{pack_noted, pack_if as pack_call_if}
use Rattle.calls.specs.Modules.{Noted, noted, Moved, moved}
use Rattle.pack_layout.specs.Listing.{Listing}
use Rattle.packer.specs.Pack.{PackResult, packed_to, pack_if, Packed}
use Rattle.short_judging.specs.ShortFile.{short_base, short_listing}
use Rattle.short_files.specs.Converted.{ConvertResult, converted_to, convert_if, judge_shorten, judge_lengthen, shorten_of, lengthen_of, Converted}
use Rattle.short_packing.specs.Packing.{judge_pack_short, pack_short_of}
use Rattle.short_calls.specs.Shorts.{convert_noted, told, convert_if as call_if, shorten_call, lengthen_call, pack_short_call}

without : (j : Judged) (result : ConvertResult) (output out : List ℕ) → length out < 1
    → moved output out (no_place j) ≡ call_if (with_room j (length out) 1) result output out
without (Err r) result output out h = refl
without (Ok _) result output out h = rw (lt-ltb (length out) 1 h)

with_place : (j : Judged) (file output out : List ℕ) → 1 ≤ length out
    → told (convert_if j file output) out ≡ call_if (with_room j (length out) 1) (convert_if j file output) output out
with_place (Err r) file output out h = refl
with_place (Ok _) file output out h = rw (le-ltb (length out) 1 h)

-- what is told of an answer is what is told of its result
noting : (result : ConvertResult) (output out next : List ℕ) (a : Converted) (n : ℕ) → converted_to output a ≡ result
    → noted next n ≡ convert_noted out a → moved output next n ≡ told result out
noting result output out next a n e q =
    ap (λ (k : Noted). record { bytes = output; noted = k }) q ∙ ap (λ (r : ConvertResult). told r out) e

-- the same for a packing
pack_without : (j : Judged) (result : PackResult) (output out : List ℕ) → length out < 1
    → moved output out (no_place j) ≡ pack_call_if (with_room j (length out) 1) result output out
pack_without (Err r) result output out h = refl
pack_without (Ok _) result output out h = rw (lt-ltb (length out) 1 h)

abbrev pack_told : PackResult → List ℕ → Moved
pack_told result out = record { bytes = result.output; noted = pack_noted out result.answer }

pack_with : (j : Judged) (order base : ℕ) (l : Listing) (output out : List ℕ) → 1 ≤ length out
    → pack_told (pack_if j order base l output) out ≡ pack_call_if (with_room j (length out) 1) (pack_if j order base l output) output out
pack_with (Err r) order base l output out h = refl
pack_with (Ok _) order base l output out h = rw (le-ltb (length out) 1 h)

pack_noting : (result : PackResult) (output out next : List ℕ) (a : Packed) (n : ℕ) → packed_to output a ≡ result
    → noted next n ≡ pack_noted out a → moved output next n ≡ pack_told result out
pack_noting result output out next a n e q =
    ap (λ (k : Noted). record { bytes = output; noted = k }) q ∙ ap (λ (r : PackResult). pack_told r out) e

module _ (file output out : List ℕ) where
  pub shorten_no_place : (j : Judged) → j ≡ judge_shorten file (length output) → (n : ℕ) → n ≡ no_place j → length out < 1
      → moved output out n ≡ shorten_call file output out
  unfolding shorten_call
  shorten_no_place j e n q h = rw (q, e) (without (judge_shorten file (length output)) (shorten_of file output) output out h)

  pub lengthen_no_place : (j : Judged) → j ≡ judge_lengthen file (length output) → (n : ℕ) → n ≡ no_place j → length out < 1
      → moved output out n ≡ lengthen_call file output out
  unfolding lengthen_call
  lengthen_no_place j e n q h = rw (q, e) (without (judge_lengthen file (length output)) (lengthen_of file output) output out h)

  pub shorten_told : (after next : List ℕ) (a : Converted) (n : ℕ) → 1 ≤ length out → converted_to after a ≡ shorten_of file output
      → noted next n ≡ convert_noted out a → moved after next n ≡ shorten_call file output out
  unfolding shorten_call shorten_of
  shorten_told after next a n h e q =
      noting (shorten_of file output) after out next a n e q ∙ with_place (judge_shorten file (length output)) _ output out h

  pub lengthen_told : (after next : List ℕ) (a : Converted) (n : ℕ) → 1 ≤ length out → converted_to after a ≡ lengthen_of file output
      → noted next n ≡ convert_noted out a → moved after next n ≡ lengthen_call file output out
  unfolding lengthen_call lengthen_of
  lengthen_told after next a n h e q =
      noting (lengthen_of file output) after out next a n e q ∙ with_place (judge_lengthen file (length output)) _ output out h

  pub pack_no_place : (order : ℕ) (j : Judged) → j ≡ judge_pack_short order file (length output) → (n : ℕ) → n ≡ no_place j → length out < 1
      → moved output out n ≡ pack_short_call order file output out
  unfolding pack_short_call
  pack_no_place order j e n q h = rw (q, e) (pack_without (judge_pack_short order file (length output)) (pack_short_of order file output) output out h)

  pub pack_told_lem : (order : ℕ) (after next : List ℕ) (a : Packed) (n : ℕ) → 1 ≤ length out → packed_to after a ≡ pack_short_of order file output
      → noted next n ≡ pack_noted out a → moved after next n ≡ pack_short_call order file output out
  unfolding pack_short_call pack_short_of
  pack_told_lem order after next a n h e q =
      pack_noting (pack_short_of order file output) after out next a n e q
      ∙ pack_with (judge_pack_short order file (length output)) order (short_base file) (short_listing file) output out h
