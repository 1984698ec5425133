-- What a module that has passed by itself is known to have. Document 02, (d).
use Rattle.std.specs.Prelude.{◌≡◌, List, ℕ, ◌+◌, ◌*◌, ◌≤◌, length}
use Rattle.set_judging.specs.declared.Member.{Member}
use Rattle.set_judging.specs.Members.{member_at, cells_of}

-- it lies inside the buffer, is as long as its header says, and has room in a memory of len bytes
pub record Fits (len : ℕ) (buffer : List ℕ) (x : Member) : Type 0 where
  pub inside : x.place + x.size ≤ length buffer
  pub whole : x.size ≡ 12 + 4 * cells_of buffer x
  pub room : x.address.0 + 4 * cells_of buffer x ≤ len

-- every module does
unfoldable pub AllFit : ℕ → List ℕ → List ℕ → Type 0
AllFit len buffer numbers = (k : ℕ) → 3 * k + 3 ≤ length numbers → Fits len buffer (member_at numbers k)
