-- Rounds of marking n items, over any rule: new m i says whether a round that begins with the marks m adds a mark to item i.
-- Document 01, Listings: no mark is taken back, and the last round is the first that adds none.
use Rattle.std.specs.Prelude.{Bool, false, ◌||◌, ℕ, zero, suc}
use Rattle.cell.specs.Choice.{if}
use Rattle.pack_layout.specs.Listing.{any}

module _ (n : ℕ) (new : (ℕ → Bool) → ℕ → Bool) where
  -- the marks after r rounds
  unfoldable pub rounds : ℕ → ℕ → Bool
  rounds zero i = false
  rounds (suc r) i = rounds r i || new (rounds r) i

  -- round r + 1 adds a mark
  abbrev pub adds : ℕ → Bool
  adds r = any (new (rounds r)) n

  -- the first round from r on that adds none, with k rounds to look at
  unfoldable pub settle : ℕ → ℕ → ℕ
  settle zero r = r
  settle (suc k) r = if (adds r) (settle k (suc r)) r

  -- n rounds are enough, since each but the last marks an item
  unfoldable pub settled : ℕ → Bool
  settled i = rounds (settle n 0) i
