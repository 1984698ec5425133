use Rattle.std.proofs.Common.{◌≡◌, ℕ, ◌<◌, ◌≤◌, false, length}
use Rattle.pack_layout.specs.Placed.{placed_at, with_mark}
use Rattle.pack_rounds.proofs.settle.clear_marks.Given as goal

abbrev pub invariant-loop-item : goal.invariant-loop-item
invariant-loop-item l = record {
  done : (j : ℕ) → j < l.item-index → placed_at l.placed j ≡ with_mark false (placed_at l.initial.placed j);
  rest : (j : ℕ) → l.item-index ≤ j → placed_at l.placed j ≡ placed_at l.initial.placed j;
}
