-- A flag as a number: 1 for yes, 0 for no.
use Rattle.std.specs.Prelude.{Bool, true, false, ℕ}

abbrev pub bit : Bool → ℕ
bit true = 1
bit false = 0
