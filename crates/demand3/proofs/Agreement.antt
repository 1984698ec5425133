-- One item: a cycle of the processor at the item does what the list machine does with it.
use Rattle.std.specs.Prelude.{Ok}
use mathlib.Core.Path.{◌≡◌, refl, sym, ap, ◌∙◌}
use mathlib.Core.Bool.{Bool, true, false, false≢true, true≢false}
use mathlib.Core.List.{List}
use mathlib.Core.Logic.{◌⊎◌, inl, inr}
use Prim.Native.Nat.{ℕ, zero, suc, ◌+◌, ◌*◌, ◌%◌, ◌^◌, ◌<◌}
use native.Mathlib.Omega.{arith}
use Rattle.cell.specs.Number.{sum}
use Rattle.cell.specs.Shift.{asr8}
use Rattle.machine.specs.Places.{fetch_of}
use Rattle.machine.specs.Commits.{stepped, commit_of}
use Rattle.throws.specs.Throws.{cycle_state, finish_of}
use Rattle.machine.specs.declared.Machine.{Machine}
use Rattle.machine.specs.declared.Registers.{Registers}
use Rattle.machine.specs.declared.Outcome.{Outcome}
use Rattle.machine.specs.declared.Outcome.TheVariants.{Went, Next, Raise, Halt, Throw}
use Rattle.machine.specs.declared.Access.TheVariants.{Stream}
use Rattle.machine.specs.declared.Ended.TheVariants as ended
use Rattle.instruction.specs.Plain.{plain_at}
use Rattle.instruction.specs.Taking.{Taking, branch, question_branch, call, loop, plus_loop, literal, taking_of, taking_at, branch_operand, literal_operand, operand_of, after_of}
use Rattle.instruction.specs.declared.OperandForm as stream
use Rattle.instruction.specs.declared.OperandForm.TheVariants as stream-form
use Rattle.instruction.specs.Dispatch.{decode_of, plain, taking, operand_class, taken, execute_of}
use Rattle.cycles.specs.Cycles.{cycle_of}
use Rattle.pack_layout.specs.Kinds as kinds
use Rattle.pack_layout.specs.declared.Class as kind
use Rattle.pack_layout.specs.declared.Class.TheVariants.{Plain, Literal, Branch, NoKind}
use Rattle.pack_layout.specs.declared.ItemForm.{ItemForm}
use Rattle.pack_layout.specs.declared.ItemForm.TheVariants.{Alone, Immediate, InCell}
use Rattle.pack_layout.specs.Listing.{Listing}
use Rattle.pack_layout.specs.Layout.{extra, opens, mid, left, form_at}
use Rattle.pack_layout.specs.Image.{byte_of}
use Rattle.pack_layout.specs.Packing as packing
use Rattle.pack_layout.specs.Packing.{marks, layout, value, address_of, ep_value, behind, register, Legal}
use Rattle.pack_layout.proofs.Listing.{is_kind_lem}
use Rattle.pack_layout.proofs.Packing.{placed, ep_inside, size_is}
use Rattle.pack_layout.proofs.Meet.{opcode, advance, run_into, immediate_value, immediate_next, operand_cell, operand_inside, literal_value, branch_lands, branch_cell}
use Rattle.list_machine.specs.ListMachine.{operand_at, carry_out}
use Rattle.demand3.specs.Demand3.{Holds}
use Rattle.list_machine.proofs.Opcodes.{leads, Taken, literal_taken, branch_taken, plain_decodes}
use Rattle.demand3.proofs.Image.{at_item, image_fetch, next_enters}
use Rattle.demand3.proofs.Meets.{Meets, standing, registers_for}
use Rattle.demand3.proofs.Carrying.{Way, is_went, stands_at, carried_meets}

-- the form of an item by its class
plain_form : (c : kind.Class) (m : Bool) (x f : ℕ) → c ≡ Plain → packing.form_of c m x f ≡ Alone
plain_form c m x f q = rw q

taking_form : (m : Bool) (f : ℕ) → (packing.taking m f ≡ Immediate) ⊎ (packing.taking m f ≡ InCell)
taking_form m zero = inr refl
taking_form true (suc f) = inr refl
taking_form false (suc f) = inl refl

literal_form : (c : kind.Class) (m : Bool) (x f : ℕ) → c ≡ Literal → (packing.form_of c m x f ≡ Immediate) ⊎ (packing.form_of c m x f ≡ InCell)
literal_form c m x f q = rw q (taking_form _ f)

branch_form : (c : kind.Class) (m : Bool) (x f : ℕ) → c ≡ Branch → (packing.form_of c m x f ≡ Immediate) ⊎ (packing.form_of c m x f ≡ InCell)
branch_form c m x f q = rw q (taking_form m f)

-- operands by whether an instruction leads somewhere
module _ (machine : Machine) (form : stream.OperandForm) (m : List ℕ) (ep a : ℕ) where
  branch_operand_lem : (t : Taking) → leads t ≡ true → operand_of machine form t m ep a ≡ branch_operand machine form m ep a
  branch_operand_lem branch q = refl
  branch_operand_lem question_branch q = refl
  branch_operand_lem call q = refl
  branch_operand_lem loop q = refl
  branch_operand_lem plus_loop q = refl
  branch_operand_lem literal q = absurd (false≢true q)

  literal_operand_lem : (t : Taking) → leads t ≡ false → operand_of machine form t m ep a ≡ literal_operand machine form m ep a
  literal_operand_lem branch q = absurd (true≢false q)
  literal_operand_lem question_branch q = absurd (true≢false q)
  literal_operand_lem call q = absurd (true≢false q)
  literal_operand_lem loop q = absurd (true≢false q)
  literal_operand_lem plus_loop q = absurd (true≢false q)
  literal_operand_lem literal q = refl

module _ (machine : Machine) (base : ℕ) (l : Listing) where
  branch_at : (i : ℕ) (t : Taking) → leads t ≡ true → operand_at machine base l i t ≡ address_of base l (l.operand i)
  branch_at i branch q = refl
  branch_at i question_branch q = refl
  branch_at i call q = refl
  branch_at i loop q = refl
  branch_at i plus_loop q = refl
  branch_at i literal q = absurd (false≢true q)

  literal_at : (i : ℕ) (t : Taking) → leads t ≡ false → operand_at machine base l i t ≡ l.operand i
  literal_at i branch q = absurd (true≢false q)
  literal_at i question_branch q = absurd (true≢false q)
  literal_at i call q = absurd (true≢false q)
  literal_at i loop q = absurd (true≢false q)
  literal_at i plus_loop q = absurd (true≢false q)
  literal_at i literal q = refl

-- steps that did not go on stay as they are
kept_taken : (form : stream.OperandForm) (m : List ℕ) (r : Registers) (o : Outcome) → is_went o ≡ false
    → taken form (stepped m (record { registers = r; outcome = o })) ≡ stepped m (record { registers = r; outcome = o })
kept_taken form m r Went q = absurd (true≢false q)
kept_taken form m r Next q = refl
kept_taken form m r (Raise f) q = refl
kept_taken form m r (Halt x) q = refl
kept_taken form m r Throw q = refl

module _ (machine : Machine) (base : ℕ) (l : Listing) (ok : Legal base l) (i : ℕ) (inside : i < l.count) where
  -- A at the item, shifted
  abbrev rest : ℕ
  rest = asr8 (register base l i)

  abbrev here : ℕ → ℕ → Registers
  here sp rp = record { ep = ep_value base l i; a = rest; sp = sp; rp = rp }

  -- an item that is not immediate is run on from: in the same cell, or before the next one
  runs_on : (m : List ℕ) (sp rp ep : ℕ) → suc i < l.count → (form_at (layout l) i ≡ Immediate → ⊥) → ep ≡ behind base l i
      → ◌≡◌ {A = Registers} (record { ep = ep; a = rest; sp = sp; rp = rp })
      (registers_for base l (record { item = suc i; ran = true; memory = m; sp = sp; rp = rp }))
  runs_on m sp rp ep h g e = go (opens (layout l) (suc i)) refl
    where
      go : (o : Bool) → opens (layout l) (suc i) ≡ o
          → ◌≡◌ {A = Registers} (record { ep = ep; a = rest; sp = sp; rp = rp })
          (standing o base l (record { item = suc i; ran = true; memory = m; sp = sp; rp = rp }))
      go true q = let s = run_into base l ok i h q g in rw (e, s.ep, s.a)
      go false q = let s = advance base l ok i h q in rw (e, s.ep, s.a)

  plain_way : form_at (layout l) i ≡ Alone → Way machine base l i rest (λ s. s)
  unfolding finish_of
  plain_way q =
      record {
        kept = λ m r o e. refl;
        went = λ m sp rp holds h.
            rw (q)
            (ap (λ (r : Registers). cycle_state m r ended.Went)
            (runs_on m sp rp (ep_value base l i) h (λ (e : form_at (layout l) i ≡ Immediate). let z : ◌≡◌ {A = ℕ} 0 1 = cc in omega arith) (omega (arith, ap extra q))));
      }

  -- the address behind the operand cell
  past_operand : form_at (layout l) i ≡ InCell → sum (ep_value base l i) 4 ≡ behind base l i
  unfolding sum
  past_operand q = omega (arith, (placed base l ok).inside, ep_inside base l ok i inside, ap extra q)

  cell_way : form_at (layout l) i ≡ InCell → Way machine base l i rest (taken stream-form.InCell)
  unfolding finish_of
  cell_way q =
      record {
        kept = kept_taken stream-form.InCell;
        went = λ m sp rp holds h.
            rw (q)
            (ap (λ (r : Registers). cycle_state m r ended.Went)
            (runs_on m sp rp (sum (ep_value base l i) 4) h (λ (e : form_at (layout l) i ≡ Immediate). let z : ◌≡◌ {A = ℕ} 0 1 = cc in omega arith) (past_operand q)));
      }

  immediate_way : form_at (layout l) i ≡ Immediate → Way machine base l i rest (taken stream-form.Immediate)
  unfolding finish_of
  immediate_way q =
      record {
        kept = kept_taken stream-form.Immediate;
        went = λ m sp rp holds h.
            let n = immediate_next base l ok i q in
            rw (q, n.1) (next_enters machine base l ok m holds (suc i) sp rp rest h n.0);
      }

  -- the operand cell is in the image
  operand_fetch : (m : List ℕ) → Holds machine base l m → form_at (layout l) i ≡ InCell → fetch_of machine Stream m (ep_value base l i) ≡ Ok (value base l i)
  operand_fetch m holds q =
      image_fetch machine base l ok m holds (mid (layout l) i).next (omega (arith, size_is base l ok, operand_inside base l ok i inside q))
      ∙ ap Ok (operand_cell base l ok i inside q)

  -- what the processor finds is what the listing says
  literal_cell : (m : List ℕ) → Holds machine base l m → (t : Taking) → leads t ≡ false → kinds.class_of (l.kind i) ≡ Literal → form_at (layout l) i ≡ InCell
      → operand_of machine stream-form.InCell t m (ep_value base l i) rest ≡ Ok (operand_at machine base l i t)
  literal_cell m holds t d c q =
      literal_operand_lem machine stream-form.InCell m (ep_value base l i) rest t d
      ∙ operand_fetch m holds q
      ∙ ap Ok (literal_value base l ok i c ∙ sym (literal_at machine base l i t d))

  literal_rest : (m : List ℕ) (t : Taking) → leads t ≡ false → kinds.class_of (l.kind i) ≡ Literal → form_at (layout l) i ≡ Immediate
      → operand_of machine stream-form.Immediate t m (ep_value base l i) rest ≡ Ok (operand_at machine base l i t)
  literal_rest m t d c q =
      literal_operand_lem machine stream-form.Immediate m (ep_value base l i) rest t d
      ∙ ap Ok (immediate_value base l ok i inside q ∙ literal_value base l ok i c ∙ sym (literal_at machine base l i t d))

  branch_to : (m : List ℕ) → Holds machine base l m → (t : Taking) → leads t ≡ true → kinds.class_of (l.kind i) ≡ Branch → form_at (layout l) i ≡ InCell
      → operand_of machine stream-form.InCell t m (ep_value base l i) rest ≡ Ok (operand_at machine base l i t)
  branch_to m holds t d c q =
      branch_operand_lem machine stream-form.InCell m (ep_value base l i) rest t d
      ∙ operand_fetch m holds q
      ∙ ap Ok (branch_cell base l ok i c q ∙ sym (branch_at machine base l i t d))

  branch_by : (m : List ℕ) (t : Taking) → leads t ≡ true → kinds.class_of (l.kind i) ≡ Branch → form_at (layout l) i ≡ Immediate
      → operand_of machine stream-form.Immediate t m (ep_value base l i) rest ≡ Ok (operand_at machine base l i t)
  branch_by m t d c q =
      branch_operand_lem machine stream-form.Immediate m (ep_value base l i) rest t d
      ∙ ap Ok
      (ap (λ (v : ℕ). (ep_value base l i + 4 * v) % 2 ^ 32) (immediate_value base l ok i inside q)
      ∙ branch_lands base l ok i inside c q
      ∙ sym (branch_at machine base l i t d))

  -- the cycle at the item, by the byte that stands for it
  cycle_is : (m : List ℕ) (sp rp k : ℕ) → byte_of (form_at (layout l) i) (l.kind i) ≡ k
      → cycle_of machine m (at_item base l i sp rp) ≡ finish_of machine (execute_of machine m (here sp rp) (decode_of k))
  unfolding cycle_of
  cycle_is m sp rp k e = rw (opcode base l ok i inside ∙ e)

  executes_plain : (m : List ℕ) (r : Registers) (k : ℕ) → operand_class (decode_of k) ≡ plain
      → execute_of machine m r (decode_of k) ≡ commit_of machine m r (plain_at machine (decode_of k) m r)
  unfolding execute_of
  executes_plain m r k e = rw e

  executes_taking : (m : List ℕ) (r : Registers) (k : ℕ) (form : stream.OperandForm) (t : Taking) → operand_class (decode_of k) ≡ taking form t
      → execute_of machine m r (decode_of k) ≡ taken form (commit_of machine m r (taking_at machine form t m r))
  unfolding execute_of
  executes_taking m r k form t e = rw e

  -- where the operand is what the listing says, so is the effect
  effect_is : (m : List ℕ) (sp rp : ℕ) (form : stream.OperandForm) (t : Taking)
      → operand_of machine form t m (ep_value base l i) rest ≡ Ok (operand_at machine base l i t)
      → after_of form (ep_value base l i) ≡ behind base l i
      → taking_at machine form t m (here sp rp) ≡ taking_of machine t m sp rp (Ok (operand_at machine base l i t)) (behind base l i)
  effect_is m sp rp form t p q = rw (p, q)

  module _ (ran : Bool) (m : List ℕ) (sp rp : ℕ) (holds : Holds machine base l m) where
    plain_meets : form_at (layout l) i ≡ Alone → operand_class (decode_of (l.kind i)) ≡ plain
        → Meets machine base l (carry_out machine base l (stands_at i ran m sp rp)) (cycle_of machine m (at_item base l i sp rp))
    unfolding carry_out
    plain_meets q d =
        rw (cycle_is m sp rp (l.kind i) (ap (λ (g : ItemForm). byte_of g (l.kind i)) q), executes_plain m (here sp rp) (l.kind i) d, d)
        (carried_meets machine base l ok i rest inside (λ s. s) (plain_way q) ran m sp rp (plain_at machine (decode_of (l.kind i)) m (here sp rp)) holds)

    cell_meets : form_at (layout l) i ≡ InCell → (t : Taking) → operand_class (decode_of (l.kind i)) ≡ taking stream-form.InCell t
        → operand_of machine stream-form.InCell t m (ep_value base l i) rest ≡ Ok (operand_at machine base l i t)
        → Meets machine base l (carry_out machine base l (stands_at i ran m sp rp)) (cycle_of machine m (at_item base l i sp rp))
    unfolding carry_out
    cell_meets q t d o =
        rw (
          cycle_is m sp rp (l.kind i) (ap (λ (g : ItemForm). byte_of g (l.kind i)) q),
          executes_taking m (here sp rp) (l.kind i) stream-form.InCell t d,
          d,
          effect_is m sp rp stream-form.InCell t o (past_operand q),
        )
        (carried_meets machine base l ok i rest inside (taken stream-form.InCell) (cell_way q) ran m sp rp
        (taking_of machine t m sp rp (Ok (operand_at machine base l i t)) (behind base l i)) holds)

    immediate_meets : form_at (layout l) i ≡ Immediate → (t : Taking) → operand_class (decode_of (l.kind i)) ≡ taking stream-form.InCell t
        → operand_class (decode_of (l.kind i + 1)) ≡ taking stream-form.Immediate t
        → operand_of machine stream-form.Immediate t m (ep_value base l i) rest ≡ Ok (operand_at machine base l i t)
        → Meets machine base l (carry_out machine base l (stands_at i ran m sp rp)) (cycle_of machine m (at_item base l i sp rp))
    unfolding carry_out
    immediate_meets q t d e o =
        rw (
          cycle_is m sp rp (l.kind i + 1) (ap (λ (g : ItemForm). byte_of g (l.kind i)) q),
          executes_taking m (here sp rp) (l.kind i + 1) stream-form.Immediate t e,
          d,
          effect_is m sp rp stream-form.Immediate t o (omega (arith, ap extra q)),
        )
        (carried_meets machine base l ok i rest inside (taken stream-form.Immediate) (immediate_way q) ran m sp rp
        (taking_of machine t m sp rp (Ok (operand_at machine base l i t)) (behind base l i)) holds)

    literal_meets : kinds.class_of (l.kind i) ≡ Literal
        → Meets machine base l (carry_out machine base l (stands_at i ran m sp rp)) (cycle_of machine m (at_item base l i sp rp))
    literal_meets c = go (literal_taken (l.kind i) c) (literal_form (kinds.class_of (l.kind i)) (marks l i) (l.operand i) (left (layout l) i) c)
      where
        go : (t : Taken (l.kind i)) × (leads t.what ≡ false) → (form_at (layout l) i ≡ Immediate) ⊎ (form_at (layout l) i ≡ InCell)
            → Meets machine base l (carry_out machine base l (stands_at i ran m sp rp)) (cycle_of machine m (at_item base l i sp rp))
        go t (inl q) = immediate_meets q t.0.what t.0.in_cell t.0.immediate (literal_rest m t.0.what t.1 c q)
        go t (inr q) = cell_meets q t.0.what t.0.in_cell (literal_cell m holds t.0.what t.1 c q)

    branch_meets : kinds.class_of (l.kind i) ≡ Branch
        → Meets machine base l (carry_out machine base l (stands_at i ran m sp rp)) (cycle_of machine m (at_item base l i sp rp))
    branch_meets c = go (branch_taken (l.kind i) c) (branch_form (kinds.class_of (l.kind i)) (marks l i) (l.operand i) (left (layout l) i) c)
      where
        go : (t : Taken (l.kind i)) × (leads t.what ≡ true) → (form_at (layout l) i ≡ Immediate) ⊎ (form_at (layout l) i ≡ InCell)
            → Meets machine base l (carry_out machine base l (stands_at i ran m sp rp)) (cycle_of machine m (at_item base l i sp rp))
        go t (inl q) = immediate_meets q t.0.what t.0.in_cell t.0.immediate (branch_by m t.0.what t.1 c q)
        go t (inr q) = cell_meets q t.0.what t.0.in_cell (branch_to m holds t.0.what t.1 c q)

    pub item_meets : Meets machine base l (carry_out machine base l (stands_at i ran m sp rp)) (cycle_of machine m (at_item base l i sp rp))
    item_meets = go (kinds.class_of (l.kind i)) refl
      where
        go : (c : kind.Class) → kinds.class_of (l.kind i) ≡ c
            → Meets machine base l (carry_out machine base l (stands_at i ran m sp rp)) (cycle_of machine m (at_item base l i sp rp))
        go Plain c = plain_meets (plain_form (kinds.class_of (l.kind i)) (marks l i) (l.operand i) (left (layout l) i) c) (plain_decodes (l.kind i) c)
        go Literal c = literal_meets c
        go Branch c = branch_meets c
        go NoKind c = absurd (is_kind_lem l ok.input i inside c)
