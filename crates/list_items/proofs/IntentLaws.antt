-- An item carried out as it was meant to be is the list machine's item.
use Rattle.std.specs.Prelude.{Ok, Err}
use Rattle.cell.specs.Place.{Checked, good}
use mathlib.Core.Path.{◌≡◌, refl, sym, ap, ◌∙◌}
use mathlib.Core.Bool.{Bool, true, false, not}
use mathlib.Core.List.{List, []}
use Prim.Native.Nat.{ℕ, suc, ◌+◌, ◌*◌, ◌%◌, ◌≤◌}
use native.Mathlib.Numerals.{add-one}
use lib.Dec.{ltb}
use lib.ListN.{length}
use Rattle.cell.specs.Choice.{if}
use Rattle.machine.specs.Effects.{Store, Control, go_on, jump, throwing, Action, Effect, control_of, effect_of, asked}
use Rattle.exceptions.specs.Exceptions.{exception_of}
use Rattle.machine.specs.Commits.{places_of, stored_of, commit_of, touches}
use Rattle.throws.specs.Throws.{throwing_of}
use Rattle.machine.specs.declared.Machine.{Machine}
use Rattle.machine.specs.declared.Request.{Request}
use Rattle.machine.specs.declared.Then.{Then}
use Rattle.machine.specs.declared.Then.TheVariants.{GoOn, Jump, Halt, Throw}
use Rattle.pack_layout.specs.Listing.{Listing}
use Rattle.pack_layout.specs.Layout.{form_at}
use Rattle.pack_layout.specs.Packing.{layout, image_cells, entry_at, Entry}
use Rattle.list_machine.specs.declared.Outside.TheVariants.{WritesImage, NoEntry, PastEnd}
use Rattle.list_machine.specs.ListMachine.{Position, Carried, on, outside, is_immediate, acted_to, moved_to, registers_at, handled, ran_on, followed, acted, carried_by}
use Rattle.list_effects.proofs.Alone.{Alone, bare}
use Rattle.list_shapes.specs.Shapes.{shape_stores, shape_effect, Asked}
use Rattle.list_shapes.specs.declared.Shape.{Shape}
use Rattle.list_judging.specs.Ways.{to_entry, next_way, intent_then, if_good, judged, intent_by, along, stepped_to, performed}
use Rattle.list_judging.specs.declared.Way.TheVariants as way
use Rattle.list_judging.specs.declared.Intent.{Intent}
use Rattle.list_judging.specs.declared.Intent.TheVariants.{Act}
use Rattle.list_items.proofs.ThrowingLaws.{transferred_is, throw_is, given_is}

next_of : (b : Bool) (i : ℕ) (ran : Bool) (q : Position)
    → along (if b (way.To (record { 0 = i }) ran) (way.Outside PastEnd)) q ≡ if b (on (moved_to i ran q)) (outside PastEnd)
next_of true i ran q = refl
next_of false i ran q = refl

-- the items go one after the other
ran_on_is : (machine : Machine) (base : ℕ) (l : Listing) (q : Position)
    → along (next_way l.count q.item (is_immediate (form_at (layout l) q.item))) q ≡ ran_on machine base l q
ran_on_is machine base l q =
    rw (add-one q.item) (next_of (ltb (suc q.item) l.count) (suc q.item) (not (is_immediate (form_at (layout l) q.item))) q)

module _ (machine : Machine) (base : ℕ) (l : Listing) (find : ℕ → Entry) (finds : (a : ℕ) → find a ≡ entry_at base l a)
    (p : Position) (whole : length p.memory % 4 ≡ 0) (least : 16 ≤ length p.memory) where
  abbrev meant : Asked → Intent
  meant a =
      intent_by machine p.memory find base (base + 4 * image_cells l) l.count p.item (is_immediate (form_at (layout l) p.item)) p.sp
      (judged machine p.memory a)

  -- a choice that was made of what is meant
  chosen : (s : Request Shape) (b : Bool) (i : Intent) (k : Carried) → performed machine p (registers_at machine base l p) i ≡ k
      → performed machine p (registers_at machine base l p) (if b (Act s (way.Outside WritesImage)) i) ≡ if b (outside WritesImage) k
  chosen s true i k h = refl
  chosen s false i k h = h

  module _ (sp rp : ℕ) (ss : List Store) where
    abbrev after : Control → Action
    after c = record { sp = sp; rp = rp; stores = ss; control = c }

    -- the position after a commit
    went : (t : Then) → places_of machine (length p.memory) ss ≡ good
        → stepped_to p (commit_of machine p.memory (registers_at machine base l p) (effect_of sp rp ss t)) ≡ acted_to machine p (after (control_of t))
    unfolding commit_of
    went GoOn e = rw e
    went (Jump a) e = rw e
    went (Halt x) e = rw e
    went Throw e = rw e

    stays : (c : Control) → (ss ≡ []) × (sp ≡ p.sp) × (rp ≡ p.rp) → acted_to machine p (after c) ≡ p
    unfolding stored_of
    stays c h = rw (h.0, h.1, h.2)

    -- a request with this effect, its places judged good
    then_is : (s : Request Shape) (t : Then) → shape_effect machine p.memory s ≡ effect_of sp rp ss t → places_of machine (length p.memory) ss ≡ good
        → Alone p.sp p.rp (effect_of sp rp ss t)
        → performed machine p (registers_at machine base l p)
        (intent_then machine p.memory find l.count p.item (is_immediate (form_at (layout l) p.item)) p.sp s t)
        ≡ followed machine base l (control_of t) (acted_to machine p (after (control_of t)))
    then_is s GoOn q e o =
        ap (λ (x : Effect). along (next_way l.count p.item (is_immediate (form_at (layout l) p.item))) (stepped_to p (commit_of machine p.memory (registers_at machine base l p) x))) q
        ∙ ap (along (next_way l.count p.item (is_immediate (form_at (layout l) p.item)))) (went GoOn e)
        ∙ ran_on_is machine base l (acted_to machine p (after go_on))
    then_is s (Jump a) q e o =
        ap (λ (x : Effect). along (to_entry NoEntry (find a.0)) (stepped_to p (commit_of machine p.memory (registers_at machine base l p) x))) q
        ∙ ap (along (to_entry NoEntry (find a.0))) (went (Jump a) e)
        ∙ transferred_is machine base l find finds NoEntry a.0 (acted_to machine p (after (jump a.0)))
    then_is s (Halt x) q e o =
        ap (λ (y : Effect). along (way.Halt x) (stepped_to p (commit_of machine p.memory (registers_at machine base l p) y))) q
        ∙ ap (along (way.Halt x)) (went (Halt x) e)
    then_is s Throw q e o =
        given_is machine base l find finds p whole least
        ∙ ap (λ (q : Position). handled machine base l q (throwing_of machine q.memory (registers_at machine base l q))) (sym (stays throwing (bare o)))

  shape_is : (s : Request Shape) (c : Checked) → places_of machine (length p.memory) (shape_stores machine.order p.memory s.stores) ≡ c
      → Alone p.sp p.rp (shape_effect machine p.memory s)
      → performed machine p (registers_at machine base l p)
      (intent_by machine p.memory find base (base + 4 * image_cells l) l.count p.item (is_immediate (form_at (layout l) p.item)) p.sp (if_good c s))
      ≡ acted machine base l p (after s.sp s.rp (shape_stores machine.order p.memory s.stores) (control_of s.then)) c
  shape_is s (Err f) e o = throw_is machine base l find finds p whole least (exception_of machine f)
  shape_is s (Ok _) e o =
      chosen s (touches base (base + 4 * image_cells l) (shape_stores machine.order p.memory s.stores)) _ _
      (then_is s.sp s.rp (shape_stores machine.order p.memory s.stores) s s.then refl e o)

  pub intent_is : (a : Asked) → Alone p.sp p.rp (asked (shape_stores machine.order p.memory) a)
      → performed machine p (registers_at machine base l p) (meant a) ≡ carried_by machine base l p (asked (shape_stores machine.order p.memory) a)
  intent_is (Ok s) o = shape_is s (places_of machine (length p.memory) (shape_stores machine.order p.memory s.stores)) refl o
  intent_is (Err f) o = throw_is machine base l find finds p whole least (exception_of machine f)
