-- The forms of a batch, and the memory that each of them finds. Document 02, (k).
use Rattle.std.specs.Prelude.{List, [], ◌∷◌, ◌++◌, ℕ, zero, suc, ◌+◌, length, take, drop}

-- so many forms, each of so many bytes, end to end from the beginning of a buffer on
abbrev pub forms_of : ℕ → ℕ → List ℕ → List (List ℕ)
forms_of zero size buffer = []
forms_of (suc n) size buffer = take size buffer ∷ forms_of n size (drop size buffer)

-- the start memory, with a form's bytes in the place of its own from an address on
abbrev pub formed : List ℕ → ℕ → List ℕ → List ℕ
formed start a form = take a start ++ form ++ drop (a + length form) start
