-- Modules that share a byte of memory. Document 02, (d).
use Rattle.std.specs.Prelude.{Bool, true, false, ◌||◌, ◌&&◌, List, [], ◌∷◌, ℕ, ◌+◌, ◌-◌, ◌*◌, ◌≤◌, min, max, leb, ltb, length}
use Rattle.set_judging.specs.declared.Member.{Member}
use Rattle.set_judging.specs.Members.{member_at, cells_of}

-- the byte address behind the last cell of a module
abbrev pub end_of : List ℕ → Member → ℕ
end_of buffer x = x.address.0 + 4 * cells_of buffer x

-- the same by the length of its file alone, where it is as its header says: twelve bytes of it are no cells
abbrev pub end_by_size : Member → ℕ
end_by_size x = x.address.0 + (x.size - 12)

-- every module has the twelve bytes
unfoldable pub Headed : List ℕ → Type 0
Headed numbers = (k : ℕ) → 3 * k + 3 ≤ length numbers → 12 ≤ (member_at numbers k).size

-- what follows is told where a module ends
module _ (end : Member → ℕ) where
  -- both hold a byte: the later beginning comes before the earlier end. A module without cells ends where it begins, and so holds none
  abbrev pub share : Member → Member → Bool
  share x y = ltb (max x.address.0 y.address.0) (min (end x) (end y))

  -- one shares with some module of a list
  abbrev pub shares_one : Member → List Member → Bool
  shares_one x [] = false
  shares_one x (y ∷ ys) = share x y || shares_one x ys

  -- two of a list share
  abbrev pub sharing : List Member → Bool
  sharing [] = false
  sharing (x ∷ xs) = shares_one x xs || sharing xs

  -- each begins where the one before it ends, or later; the first at e or later
  abbrev pub ascending_from : ℕ → List Member → Bool
  ascending_from e [] = true
  ascending_from e (x ∷ xs) = leb e x.address.0 && ascending_from (end x) xs
