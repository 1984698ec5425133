-- What is proved of listing files of both kinds. Document 02, (l): a file that is taken comes back byte for byte, both ways, and both files carry the
-- same listing to the packer. The proofs stand in proofs/Theorems.antt.
use Rattle.std.specs.Prelude.{◌≡◌, List, ◌++◌, ℕ, ◌≤◌, length, take, drop, Err, Ok}
use Rattle.cell.specs.Memory.{Bytewise}
use Rattle.cell.specs.declared.Refusal.TheVariants.{PlainOperand}
use Rattle.pack_layout.specs.File.{file_base, file_kinds, file_operands}
use Rattle.pack_files.specs.Files.{pack_file_of}
use Rattle.short_judging.specs.ShortFile.{short_base, short_kinds, short_operands}
use Rattle.short_judging.specs.Judging.{judged_short}
use Rattle.short_files.specs.Converted.{ConvertResult, converted_to, shorten_of, lengthen_of}
use Rattle.short_packing.specs.Packing.{pack_short_of}

-- the file that a shortening or a lengthening wrote
abbrev pub file_of : ConvertResult → List ℕ
file_of r = take r.count r.output

-- the result that has a file in the output's first bytes
abbrev pub wrote : List ℕ → List ℕ → ConvertResult
wrote file out = converted_to (file ++ drop (length file) out) (Ok (length file))

-- shorten, then lengthen with room for the file: its bytes, and no others
abbrev pub ThereAndBack : Type 0
ThereAndBack =
    (file out room : List ℕ) → Bytewise file → (shorten_of file out).number ≡ 0 → length file ≤ length room
    → lengthen_of (file_of (shorten_of file out)) room ≡ wrote file room

-- lengthen, then shorten
abbrev pub BackAndThere : Type 0
BackAndThere =
    (file out room : List ℕ) → Bytewise file → (lengthen_of file out).number ≡ 0 → length file ≤ length room
    → shorten_of (file_of (lengthen_of file out)) room ≡ wrote file room

-- a listing file and a short one, of which one was made from the other
pub data Twins : List ℕ → List ℕ → Type 0 where
  by_shorten : (file out : List ℕ) → Bytewise file → (shorten_of file out).number ≡ 0 → Twins file (file_of (shorten_of file out))
  by_lengthen : (short out : List ℕ) → Bytewise short → (lengthen_of short out).number ≡ 0 → Twins (file_of (lengthen_of short out)) short

-- both carry one listing and one base
pub record Alike (file short : List ℕ) : Type 0 where
  pub kinds : short_kinds short ≡ file_kinds file
  pub operands : short_operands short ≡ file_operands file
  pub base : short_base short ≡ file_base file

abbrev pub OneListing : Type 0
OneListing = (file short : List ℕ) → Twins file short → Alike file short

-- and pack to one image with one answer, in any byte order and into any output, refused ones included
abbrev pub OneImage : Type 0
OneImage =
    (file short : List ℕ) → Twins file short → (order : ℕ) (out : List ℕ) → pack_short_of order short out ≡ pack_file_of order file out

-- a short file has no operand that a plain item could not have
abbrev pub NoPlainOperand : Type 0
NoPlainOperand = (s : List ℕ) → judged_short s ≡ Err PlainOperand → ⊥
