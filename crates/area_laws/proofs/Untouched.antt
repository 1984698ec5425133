-- A range of bytes that no good place of a write meets is as it was: after a commit, a throw, a NEXT, a cycle and any number of them. The range lies above 0h to Fh,
-- where a throw leaves its address and its EP.
use Rattle.std.specs.Prelude.{Ok, Err}
use Rattle.cell.specs.Place.{Checked, good, Fetched}
use mathlib.Core.Path.{◌≡◌, refl}
use mathlib.Core.Bool.{Bool, true, false, ◌&&◌}
use mathlib.Core.List.{List, [], ◌∷◌}
use mathlib.Core.Logic.{inl}
use Prim.Native.Nat.{ℕ, zero, suc, ◌+◌, ◌%◌, ◌<◌, ◌≤◌}
use native.Mathlib.Omega.{arith}
use lib.Dec.{ltb, eqb}
use lib.ListN.{length}
use Rattle.cell.specs.Choice.{if}
use Rattle.cell.specs.Memory.{Alike, store_cell, cell_at}
use Rattle.cell.specs.Number.{difference}
use Rattle.cell.proofs.MemoryLaws.{cell_frame, alike_refl, alike_trans}
use Rattle.machine.specs.Places.{one_cell, place_of, fetch_of}
use Rattle.machine.specs.Effects.{Store, cell_store, Action, Effect, act, raise}
use Rattle.machine.specs.Commits.{Stepped, places_of, stored_of, carried_out, commit_of, touches}
use Rattle.exceptions.specs.Exceptions.{exception_of, exception_code}
use Rattle.exceptions.specs.Fixed.{bad_stack, bad_cell, handler_cell}
use Rattle.throws.specs.Throws.{CycleState, cycle_state, handed, handler_of, noted, pushed, throw_of, throwing_of, nexted, next_of, finished, finish_of}
use Rattle.machine.specs.declared.Machine.{Machine}
use Rattle.machine.specs.declared.Registers.{Registers}
use Rattle.machine.specs.declared.Access.TheVariants.{Stream, Push}
use Rattle.machine.specs.declared.Exception.{Exception}
use Rattle.machine.specs.declared.Outcome.{Outcome}
use Rattle.machine.specs.declared.Outcome.TheVariants as outcome
use Rattle.machine.specs.declared.Ended.{Ended}
use Rattle.machine.specs.declared.Ended.TheVariants.{Went, Threw, Stopped}
use Rattle.instruction.specs.Plain.{plain_at}
use Rattle.instruction.specs.Taking.{taking_at}
use Rattle.instruction.specs.Dispatch.{OperandClass, next, plain, taking, operand_class, executed, execute_of, decode_of}
use Rattle.instruction.specs.declared.Instruction.{Instruction}
use Rattle.cycles.specs.Cycles.{shifted, cycle_of, advanced, advance, cycles_of}
use Rattle.length_laws.proofs.LengthLaws.{noted_length}
use Rattle.demand3.proofs.Frame.{stores_frame}
use Rattle.demand3.proofs.Throwing.{noted_frame}
use Rattle.area_laws.specs.Staying.{stores_of, stores_by, stores_in}

-- stores that write no byte from lo up to hi, if all their places are good
abbrev pub Spare : Machine → ℕ → ℕ → ℕ → List Store → Type 0
Spare machine lo hi long ss = places_of machine long ss ≡ good → touches lo hi ss ≡ false

-- the same of a throw's push
abbrev pub SparesPush : Machine → ℕ → ℕ → Type 0
SparesPush machine lo hi = (long at : ℕ) → place_of machine one_cell Push long at ≡ good → (ltb at hi && ltb lo (at + 4)) ≡ false

-- and of the instruction in front of which a cycle's state stands
abbrev pub SparesIn : Machine → ℕ → ℕ → CycleState → Type 0
SparesIn machine lo hi s = Spare machine lo hi (length s.memory) (stores_in machine s.memory s.result.registers)

module _ (machine : Machine) (lo hi : ℕ) (above : 0x10 ≤ lo) (spares : SparesPush machine lo hi) where
  pub actions_leave : (m : List ℕ) (x : Action) → places_of machine (length m) x.stores ≡ good → Spare machine lo hi (length m) x.stores
      → Alike lo hi m (stored_of machine m x.stores)
  actions_leave m x p h = stores_frame machine lo hi m x.stores (h p)

  carried_leaves : (m : List ℕ) (r : Registers) (x : Action) (c : Checked) → places_of machine (length m) x.stores ≡ c
      → Spare machine lo hi (length m) x.stores → Alike lo hi m (carried_out machine m r x c).memory
  carried_leaves m r x (Err f) p h = alike_refl lo hi m
  carried_leaves m r x (Ok _) p h = actions_leave m x p h

  commit_leaves : (m : List ℕ) (r : Registers) (e : Effect) → Spare machine lo hi (length m) (stores_of e)
      → Alike lo hi m (commit_of machine m r e).memory
  unfolding commit_of
  commit_leaves m r (raise f) h = alike_refl lo hi m
  commit_leaves m r (act x) h = carried_leaves m r x (places_of machine (length m) x.stores) refl h

  executed_leaves : (m : List ℕ) (r : Registers) (i : Instruction) (c : OperandClass)
      → Spare machine lo hi (length m) (stores_by machine m r i c) → Alike lo hi m (executed machine m r i c).memory
  executed_leaves m r i next h = alike_refl lo hi m
  executed_leaves m r i plain h = commit_leaves m r (plain_at machine i m r) h
  executed_leaves m r i (taking form t) h = commit_leaves m r (taking_at machine form t m r) h

  -- 'BAD lies below 10h
  handed_leaves : (m : List ℕ) (r : Registers) (e : Ended) (h : ℕ) (x : Fetched) → (handed m r e h x).memory ≡ m
  handed_leaves m r e h (Ok x) = refl
  handed_leaves m r e h (Err f) = refl

  handler_leaves : (m : List ℕ) (r : Registers) (e : Ended) → Alike lo hi m (handler_of machine m r e).memory
  unfolding handler_of
  handler_leaves m r e =
      let m2 = store_cell machine.order m bad_cell r.ep in
      let h = cell_at machine.order m2 handler_cell in
      rw (handed_leaves m2 r e h (fetch_of machine Stream m2 h))
      (cell_frame lo hi machine.order m bad_cell r.ep (inl (omega (arith, above))))

  push_leaves : (m : List ℕ) (at x : ℕ) → place_of machine one_cell Push (length m) at ≡ good → Alike lo hi m (store_cell machine.order m at x)
  unfolding touches stored_of
  push_leaves m at x p = stores_frame machine lo hi m (cell_store Push at x ∷ []) (rw (spares (length m) at p))

  -- so does -ADDRESS
  pushed_leaves : (m : List ℕ) (r : Registers) (e : Exception) (sp : ℕ) (c : Checked) → place_of machine one_cell Push (length m) sp ≡ c
      → Alike lo hi m (pushed machine m r e sp c).memory
  pushed_leaves m r e sp (Err f) p = alike_refl lo hi m
  pushed_leaves m r e sp (Ok _) p =
      let m2 = noted machine m e in
      let m3 = store_cell machine.order m2 sp (exception_code e) in
      alike_trans lo hi m m2 _ (noted_frame machine lo hi m e above)
      (alike_trans lo hi m2 m3 _ (push_leaves m2 sp (exception_code e) (rw (noted_length machine m e) p)) (handler_leaves m3 _ (Threw e)))

  pub throw_leaves : (m : List ℕ) (r : Registers) (e : Exception) → Alike lo hi m (throw_of machine m r e).memory
  unfolding throw_of
  throw_leaves m r e = pushed_leaves m r e (difference r.sp 4) (place_of machine one_cell Push (length m) (difference r.sp 4)) refl

  pub throwing_leaves : (m : List ℕ) (r : Registers) → Alike lo hi m (throwing_of machine m r).memory
  unfolding throwing_of
  throwing_leaves m r = go (eqb (r.sp % 4) 0)
    where
      go : (b : Bool) → Alike lo hi m (if b (handler_of machine m r Went) (cycle_state m r (Stopped bad_stack))).memory
      go true = handler_leaves m r Went
      go false = alike_refl lo hi m

  nexted_leaves : (m : List ℕ) (r : Registers) (x : Fetched) → Alike lo hi m (nexted machine m r x).memory
  nexted_leaves m r (Ok x) = alike_refl lo hi m
  nexted_leaves m r (Err f) = throw_leaves m r (exception_of machine f)

  pub next_leaves : (m : List ℕ) (r : Registers) → Alike lo hi m (next_of machine m r).memory
  unfolding next_of
  next_leaves m r = nexted_leaves m r (fetch_of machine Stream m r.ep)

  finished_leaves : (m : List ℕ) (r : Registers) (o : Outcome) → Alike lo hi m (finished machine m r o).memory
  finished_leaves m r outcome.Went = alike_refl lo hi m
  finished_leaves m r outcome.Next = next_leaves m r
  finished_leaves m r (outcome.Raise f) = throw_leaves m r (exception_of machine f)
  finished_leaves m r (outcome.Halt x) = alike_refl lo hi m
  finished_leaves m r outcome.Throw = throwing_leaves m r

  finish_leaves : (s : Stepped) → Alike lo hi s.memory (finish_of machine s).memory
  unfolding finish_of
  finish_leaves s = finished_leaves s.memory s.step.registers s.step.outcome

  pub cycle_leaves : (m : List ℕ) (r : Registers) → Spare machine lo hi (length m) (stores_in machine m r)
      → Alike lo hi m (cycle_of machine m r).memory
  unfolding cycle_of execute_of
  cycle_leaves m r h =
      let i = decode_of (r.a % 256) in
      alike_trans lo hi m (executed machine m (shifted r) i (operand_class i)).memory _
      (executed_leaves m (shifted r) i (operand_class i) h) (finish_leaves (executed machine m (shifted r) i (operand_class i)))

  advanced_leaves : (s : CycleState) (e : Ended) → SparesIn machine lo hi s → Alike lo hi s.memory (advanced machine s e).memory
  advanced_leaves s Went h = cycle_leaves s.memory s.result.registers h
  advanced_leaves s (Threw f) h = cycle_leaves s.memory s.result.registers h
  advanced_leaves s (Stopped x) h = alike_refl lo hi s.memory

  pub cycles_leave : (n : ℕ) (s : CycleState) → ((k : ℕ) → k < n → SparesIn machine lo hi (cycles_of machine k s))
      → Alike lo hi s.memory (cycles_of machine n s).memory
  unfolding cycles_of advance
  cycles_leave zero s h = alike_refl lo hi s.memory
  cycles_leave (suc n) s h =
      alike_trans lo hi s.memory (advance machine s).memory _ (advanced_leaves s s.result.ended (h 0 (omega arith)))
      (cycles_leave n (advance machine s) (λ k l. h (suc k) (omega (arith, l))))
