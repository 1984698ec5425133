-- The modules of a set. Document 02, (d): each has an address in memory, and a place and a length in one buffer for all of them.
use Rattle.std.specs.Prelude.{List, [], ◌∷◌, ℕ, ◌+◌, ◌*◌, get_or, take, drop}
use Rattle.cell.specs.Place.{address}
use Rattle.module_judging.specs.Format.{count_of}
use Rattle.set_judging.specs.declared.Member.{Member}

-- a module by its three numbers: the byte address that it goes to, the buffer's byte that it begins with, and how many bytes it has
abbrev pub member : ℕ → ℕ → ℕ → Member
member a place size = record { address = address a; place = place; size = size }

-- the modules of a list of numbers, three for each; what is left over at its end is none
abbrev pub members_of : List ℕ → List Member
members_of (a ∷ place ∷ size ∷ rest) = member a place size ∷ members_of rest
members_of (a ∷ place ∷ []) = []
members_of (a ∷ []) = []
members_of [] = []

-- the same, module k alone
abbrev pub member_at : List ℕ → ℕ → Member
member_at numbers k = member (get_or numbers (3 * k) 0) (get_or numbers (3 * k + 1) 0) (get_or numbers (3 * k + 2) 0)

-- the file of a module, and the count of cells in its header
abbrev pub file_of : List ℕ → Member → List ℕ
file_of buffer x = take x.size (drop x.place buffer)

abbrev pub cells_of : List ℕ → Member → ℕ
cells_of buffer x = count_of (file_of buffer x)
