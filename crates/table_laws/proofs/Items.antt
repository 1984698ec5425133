-- Items of the list machine keep the table, and so do its calls.
use Rattle.std.specs.Prelude.{Ok, Err, Some, None}
use Rattle.cell.specs.Refusals.{Judged, passed}
use Rattle.cell.specs.Place.{Checked}
use mathlib.Core.Path.{◌≡◌, refl}
use mathlib.Core.Bool.{Bool, true, false, not}
use mathlib.Core.List.{List}
use Prim.{Unit, tt}
use Prim.Native.Nat.{ℕ, zero, suc, ◌+◌}
use lib.Dec.{ltb}
use lib.ListN.{length}
use Rattle.cell.specs.Choice.{if}
use Rattle.cell.specs.Memory.{Alike}
use Rattle.cell.specs.Number.{difference}
use Rattle.cell.proofs.JudgementLaws.{both_pass}
use Rattle.cell.proofs.MemoryLaws.{alike_refl, alike_trans}
use Rattle.machine.specs.Places.{one_cell, place_of}
use Rattle.exceptions.specs.Exceptions.{exception_of}
use Rattle.machine.specs.Effects.{Control, go_on, jump, halt, throwing, Action, Effect, act, raise}
use Rattle.machine.specs.Commits.{places_of}
use Rattle.throws.specs.Throws.{CycleState, throw_of, throwing_of}
use Rattle.machine.specs.declared.Machine.{Machine}
use Rattle.machine.specs.declared.Access.TheVariants.{Push}
use Rattle.machine.specs.declared.Exception.{Exception}
use Rattle.machine.specs.declared.Ended.{Ended}
use Rattle.machine.specs.declared.Ended.TheVariants.{Went, Threw, Stopped}
use Rattle.bounds.specs.Bounds.{judge_bounded, machine_of}
use Rattle.instruction.specs.Dispatch.{decode_of, OperandClass, next, plain, taking, operand_class}
use Rattle.pack_layout.specs.Listing.{Listing, listed, judged_arrays}
use Rattle.pack_layout.specs.Layout.{form_at}
use Rattle.pack_layout.specs.Packing.{layout, image_cells, ep_value, behind, entry_at, Entry}
use Rattle.list_machine.specs.declared.Outside.{Outside}
use Rattle.list_machine.specs.declared.Outside.TheVariants.{WritesImage, NoEntry, NoHandler, PastEnd}
use Rattle.list_machine.specs.ListMachine.{Position, Carried, on, stopped, outside, is_immediate, push_of, thrown_to, acted_to, moved_to, entered_at, operand_at, effect_as, effect_at, writes_image, registers_at, handler_at, handled_by, handled, thrown, followed, acted, carried_by, carry_out}
use Rattle.list_machine.specs.Runs.{Course, goes_on, stopped_by, stood_outside, Run, further_by, further_in, further, run_of, resuming}
use Rattle.list_proposing.specs.Stands.{position_of}
use Rattle.list_refusals.specs.Judging.{judge_begin, judge_image, judge_follow}
use Rattle.list_following.specs.Follow.{follow_if, resume_in, stand_at}
use Rattle.area_laws.specs.Staying.{stores_of}
use Rattle.area_laws.proofs.Untouched.{Spare, actions_leave, throw_leaves, throwing_leaves}
use Rattle.table_laws.specs.Keeping.{Keeps, ItemsKeep, ListKeeps, ResumeKeeps, FollowKeeps}
use Rattle.table_laws.proofs.Stores.{Writing, raises, plain_writes, taking_writes}
use Rattle.table_laws.proofs.Tables.{Starts, effect_misses, push_misses, keeps}

-- what an item comes to has the bytes of m from lo up to hi
abbrev Leaves : ℕ → ℕ → List ℕ → Carried → Type 0
Leaves lo hi m (on q) = Alike lo hi m q.memory
Leaves lo hi m (stopped x q) = Alike lo hi m q.memory
Leaves lo hi m (outside why) = Unit

module _ (lo hi : ℕ) (m : List ℕ) where
  if_leaves : (b : Bool) (why : Outside) (c : Carried) → Leaves lo hi m c → Leaves lo hi m (if b (outside why) c)
  if_leaves true why c h = tt
  if_leaves false why c h = h

  entered_leaves : (why : Outside) (e : Entry) (q : Position) → Alike lo hi m q.memory → Leaves lo hi m (entered_at why e q)
  entered_leaves why (Some i) q h = h
  entered_leaves why None q h = tt

  ran_leaves : (b : Bool) (i : ℕ) (ran : Bool) (q : Position) → Alike lo hi m q.memory → Leaves lo hi m (if b (on (moved_to i ran q)) (outside PastEnd))
  ran_leaves true i ran q h = h
  ran_leaves false i ran q h = tt

module _ (machine : Machine) (k : Starts machine.table) (base : ℕ) (l : Listing) where
  abbrev lo : ℕ
  lo = machine.table.first.0

  abbrev hi : ℕ
  hi = lo + machine.table.bytes

  handled_leaves : (m : List ℕ) (p : Position) (t : CycleState) (e : Ended) → Alike lo hi m t.memory → Leaves lo hi m (handled_by machine base l p t e)
  handled_leaves m p t (Stopped x) h = h
  handled_leaves m p t Went h = entered_leaves lo hi m NoHandler (entry_at base l (handler_at machine base l t)) (thrown_to p t) h
  handled_leaves m p t (Threw f) h = entered_leaves lo hi m NoHandler (entry_at base l (handler_at machine base l t)) (thrown_to p t) h

  thrown_leaves : (p : Position) (e : Exception) → Leaves lo hi p.memory (thrown machine base l p e)
  thrown_leaves p e =
      let t : CycleState = throw_of machine p.memory (registers_at machine base l p) e in
      if_leaves lo hi p.memory
      (writes_image machine base l (push_of (difference p.sp 4) e (place_of machine one_cell Push (length p.memory) (difference p.sp 4))))
      WritesImage
      (handled machine base l p t)
      (handled_leaves p.memory p t t.result.ended
      (throw_leaves machine lo hi k.above (push_misses machine k) p.memory (registers_at machine base l p) e))

  followed_leaves : (m : List ℕ) (c : Control) (p : Position) → Alike lo hi m p.memory → Leaves lo hi m (followed machine base l c p)
  followed_leaves m go_on p h =
      ran_leaves lo hi m (ltb (suc p.item) l.count) (suc p.item) (not (is_immediate (form_at (layout l) p.item))) p h
  followed_leaves m (jump a) p h = entered_leaves lo hi m NoEntry (entry_at base l a) p h
  followed_leaves m (halt x) p h = h
  followed_leaves m throwing p h =
      let t : CycleState = throwing_of machine p.memory (registers_at machine base l p) in
      handled_leaves m p t t.result.ended
      (alike_trans lo hi m p.memory t.memory h
      (throwing_leaves machine lo hi k.above (push_misses machine k) p.memory (registers_at machine base l p)))

  acted_leaves : (p : Position) (x : Action) (c : Checked) → places_of machine (length p.memory) x.stores ≡ c
      → Spare machine lo hi (length p.memory) x.stores → Leaves lo hi p.memory (acted machine base l p x c)
  acted_leaves p x (Err f) e h = thrown_leaves p (exception_of machine f)
  acted_leaves p x (Ok _) e h =
      if_leaves lo hi p.memory (writes_image machine base l x.stores) WritesImage (followed machine base l x.control (acted_to machine p x))
      (followed_leaves p.memory x.control (acted_to machine p x)
      (actions_leave machine lo hi k.above (push_misses machine k) p.memory x e h))

  carried_leaves : (p : Position) (e : Effect) → Spare machine lo hi (length p.memory) (stores_of e) → Leaves lo hi p.memory (carried_by machine base l p e)
  carried_leaves p (raise f) h = thrown_leaves p (exception_of machine f)
  carried_leaves p (act x) h = acted_leaves p x (places_of machine (length p.memory) x.stores) refl h

  -- an item asks for writes alone
  item_writes : (c : OperandClass) (p : Position) → Writing (effect_as machine base l c p)
  item_writes next p = raises
  item_writes plain p = plain_writes machine p.memory (ep_value base l p.item) p.sp p.rp (decode_of (l.kind p.item))
  item_writes (taking form t) p =
      taking_writes machine p.memory 0 p.sp p.rp (Ok (operand_at machine base l p.item t)) (behind base l p.item) t

  carry_leaves : (p : Position) → Leaves lo hi p.memory (carry_out machine base l p)
  unfolding carry_out
  carry_leaves p =
      carried_leaves p (effect_at machine base l p)
      (effect_misses machine k (length p.memory) (effect_at machine base l p) (item_writes (operand_class (decode_of (l.kind p.item))) p))

  further_leaves : (s : Run) (c : Carried) → Leaves lo hi s.position.memory c
      → Alike lo hi s.position.memory (further_by machine base l s c).position.memory
  further_leaves s (on p) h = h
  further_leaves s (stopped x p) h = h
  further_leaves s (outside why) h = alike_refl lo hi s.position.memory

  turn_leaves : (s : Run) (c : Course) → Alike lo hi s.position.memory (further_in machine base l s c).position.memory
  turn_leaves s goes_on = further_leaves s (carry_out machine base l s.position) (carry_leaves s.position)
  turn_leaves s (stopped_by x) = alike_refl lo hi s.position.memory
  turn_leaves s (stood_outside why) = alike_refl lo hi s.position.memory

  pub items_miss : (n : ℕ) (s : Run) → Alike lo hi s.position.memory (run_of machine base l n s).position.memory
  unfolding run_of further
  items_miss zero s = alike_refl lo hi s.position.memory
  items_miss (suc n) s =
      let t = run_of machine base l n s in
      alike_trans lo hi s.position.memory t.position.memory _ (items_miss n s) (turn_leaves t t.course)

pub items_keep : ItemsKeep
items_keep order areas table base l n s e =
    let m = s.position.memory in
    let machine = machine_of order areas table (length m) in
    keeps (length m) order areas table m (run_of machine base l n s).position.memory e (λ k. items_miss machine k base l n s)

pub list_keeps : ListKeeps
unfolding resume_in judge_follow judge_begin
list_keeps room order areas table kinds operands base m start items = go (judge_follow (length m) order areas table kinds operands base room) refl
  where
    go : (j : Judged) → judge_follow (length m) order areas table kinds operands base room ≡ j
        → Keeps table m (follow_if j (machine_of order areas table (length m)) base (listed kinds operands) m start items).memory
    go (Err n) e = λ a lo hi. refl
    go (Ok _) e =
        let begin = judge_begin (length m) order areas table kinds operands in
        let b : begin ≡ passed = (both_pass begin (judge_image base (image_cells (listed kinds operands)) room) e).0 in
        let p = (both_pass (judge_bounded (length m) order areas table) (judged_arrays kinds operands) b).0 in
        items_keep order areas table base (listed kinds operands) items (resuming (listed kinds operands) (position_of m start)) p

pub resume_keeps : ResumeKeeps
resume_keeps order areas table kinds operands base m start items = list_keeps passed order areas table kinds operands base m start items

pub follow_keeps : FollowKeeps
follow_keeps order areas table kinds operands base m sp rp items =
    resume_keeps order areas table kinds operands base m (stand_at 0 false sp rp) items
