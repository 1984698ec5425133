-- The figures of runs while they are counted.
use Rattle.std.specs.Prelude.{ℕ, ◌*◌, ◌-◌, ◌^◌, ◌≤◌}
use Rattle.batch_reports.specs.declared.Tally.{Tally}

-- no figure is beyond what so many forms can have
pub record Within (t : Tally) : Type 0 where
  pub zeros : t.zeros ≤ t.forms
  pub stacks : t.stacks ≤ t.forms
  pub handlers : t.handlers ≤ t.forms
  pub others : t.others ≤ t.forms
  pub spent : t.spent ≤ t.forms
  pub cycles : t.cycles ≤ t.forms * (2 ^ 32 - 1)

-- one run, by where it is counted and its cycles
abbrev pub one_of : ℕ → ℕ → ℕ → ℕ → ℕ → ℕ → Tally
one_of zeros stacks handlers others spent cycles =
    record {
      forms = 1;
      zeros = zeros;
      stacks = stacks;
      handlers = handlers;
      others = others;
      spent = spent;
      cycles = cycles;
      largest = cycles;
    }
