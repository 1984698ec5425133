-- One step of the rounds.
-- Assumes nothing.
use Rattle.std.proofs.Common.{◌≡◌, ℕ, suc, ◌-◌, ◌<◌, Bool, true, false, List, length, sym, ap, ◌∙◌, arith}
use Rattle.pack_layout.specs.declared.PlacedItem.{PlacedItem}
use Rattle.pack_layout.specs.Placed.{placed_at, Entered, marked_in, with_mark}
use Rattle.pack_layout.specs.Listing.{Listing, listed, entry, any}
use Rattle.pack_layout.specs.Layout.{Laid}
use Rattle.pack_layout.specs.Rounds.{rounds, adds, settled}
use Rattle.pack_layout.specs.Packing.{plan, layout, new, marks, Marked}
use Rattle.pack_layout.proofs.Rounds.{count, count_most, grows, AtRound, first_round, next_round, last_round}
use Rattle.pack_layout.proofs.Packing.{only}
use Rattle.pack_rounds.proofs.Marking.{place_kept, no_mark, one_round, same_marks}

-- what the loop keeps: the marks are those after some rounds, each of which added one
pub record RoundStep (kinds operands : List ℕ) (placed : List PlacedItem) : Type 0 where
  pub round : ℕ
  pub here : marked_in placed ≡ rounds (length kinds) (new (listed kinds operands)) round
  pub at_round : AtRound (length kinds) (new (listed kinds operands)) round
  pub size : length placed ≡ length kinds
  pub entered : Entered placed (entry (listed kinds operands)) (length kinds)

-- a change of marks leaves the entries
entry_kept : (s t : List PlacedItem) (p : ℕ → Bool) (n : ℕ)
    → ((j : ℕ) → j < n → with_mark true (placed_at t j) ≡ with_mark true (placed_at s j)) → Entered s p n → Entered t p n
entry_kept s t p n f e j h = ap (λ (x : PlacedItem). x.entry) (f j h) ∙ e j h

module _ (kinds operands : List ℕ) where
  abbrev l : Listing
  l = listed kinds operands

  pub round_start : (s t : List PlacedItem) → length s ≡ length kinds → length t ≡ length s
      → ((j : ℕ) → j < length s → placed_at t j ≡ with_mark false (placed_at s j)) → Entered s (entry l) (length kinds)
      → RoundStep kinds operands t
  round_start s t e z f entered =
      record {
        round = 0;
        here = no_mark kinds operands s t z f;
        at_round = first_round (length kinds) (new l) (only l);
        size = z ∙ e;
        entered = entry_kept s t (entry l) (length kinds) (λ j h. ap (with_mark true) (f j (omega arith))) entered;
      }

  -- a round: s as the loop has it, t laid out, and u marked
  module _ (s t u : List PlacedItem) (added : Bool) (step : RoundStep kinds operands s) (laid_size : length t ≡ length s)
      (entered : Entered t (entry l) (length kinds)) (same : marked_in t ≡ marked_in s) (size : length u ≡ length t)
      (some : added ≡ any (new l (marked_in t)) (length kinds)) (marked : Marked l t u (length kinds)) where
    adds_is : added ≡ adds (length kinds) (new l) step.round
    adds_is = some ∙ ap (λ (m : ℕ → Bool). any (new l m) (length kinds)) (same ∙ step.here)

    after_is : marked_in u ≡ rounds (length kinds) (new l) (suc step.round)
    after_is = one_round kinds operands step.round t u (same ∙ step.here) (size ∙ laid_size ∙ step.size) marked

    pub round_step : added ≡ true → RoundStep kinds operands u
    round_step q =
        record {
          round = suc step.round;
          here = after_is;
          at_round = next_round (length kinds) (new l) (only l) step.round step.at_round (sym adds_is ∙ q);
          size = size ∙ laid_size ∙ step.size;
          entered = entry_kept t u (entry l) (length kinds) (λ j h. ap (with_mark true) (marked j h)) entered;
        }

    pub round_less : added ≡ true → length kinds - count (marked_in u) (length kinds) < length kinds - count (marked_in s) (length kinds)
    round_less q =
        rw (after_is, step.here)
        (omega (
          arith,
          grows (length kinds) (new l) (only l) step.round (sym adds_is ∙ q),
          count_most (rounds (length kinds) (new l) (suc step.round)) (length kinds),
        ))

    -- a round that adds none: the marks before it and after it are the last
    module _ (q : added ≡ false) where
      pub marks_before : marked_in s ≡ marks l
      unfolding marks settled
      marks_before =
          step.here
          ∙ ap (λ (r : ℕ). rounds (length kinds) (new l) r)
          (sym (last_round (length kinds) (new l) (only l) step.round step.at_round (sym adds_is ∙ q)))

      pub marks_after : marked_in u ≡ marks l
      marks_after =
          same_marks kinds operands t u (size ∙ laid_size ∙ step.size) (laid_size ∙ step.size) marked (sym some ∙ q) ∙ same ∙ marks_before

      pub laid_after : Laid (plan l (marked_in s)) t (length kinds) → Laid (layout l) u (length kinds)
      laid_after laid = place_kept (layout l) t u (length kinds) (λ j h. ap (with_mark true) (marked j h)) (rw marks_before at laid)
