-- The image of a legal listing is read back to that listing: at each item the reader stands where the layout put it.
-- Assumes nothing.
use mathlib.Core.Path.{◌≡◌, refl, sym, ap, ap₂, ◌∙◌}
use mathlib.Core.Bool.{Bool, true, false, not, ◌&&◌, true≢false}
use mathlib.Core.List.{List}
use Prim.Native.Nat.{ℕ, zero, suc, ◌+◌, ◌*◌, ◌%◌, ◌≤◌, ◌<◌}
use native.Mathlib.Decide.{dec_lt}
use native.Mathlib.Omega.{arith}
use borrow.Author.Tests.{eqb-true, ne_eqb, eq-eqb, le-leb, lt-leb}
use lib.Dec.{leb, eqb}
use lib.ListN.{length, get_or}
use lib.Seq.{ext_get_or}
use Rattle.cell.specs.Choice.{if}
use Rattle.cell.specs.Shift.{asr8}
use Rattle.cell.proofs.BooleanLaws.{both_true}
use Rattle.pack_layout.specs.declared.Class.{Class}
use Rattle.pack_layout.specs.declared.ItemForm.{ItemForm}
use Rattle.pack_layout.specs.Kinds.{class_of, plain, literal, branch, no_kind}
use Rattle.pack_layout.specs.Bytes.{fits}
use Rattle.pack_layout.specs.Listing.{Listing, listed}
use Rattle.pack_layout.specs.Layout.{extra, cur, opens, mid, form_at, left, alone, immediate, in_cell}
use Rattle.pack_layout.specs.Packing.{taking, form_of, layout, marks, value, image, image_cells, address_of, register, Legal}
use Rattle.pack_layout.specs.Reading.{each, Reader, done, at_cell, reader, items_from, items_read, form_read, kind_read, form_read_at, kind_read_at, value_read, leads_to, first_at, held_of, operand_of, operand_read_at, kinds_read, operands_read}
use Rattle.pack_layout.proofs.Placing.{entry_opens, next_after, closes, same, one_entry}
use Rattle.pack_layout.proofs.Listing.{first_entry, is_kind_lem, plain_operand_lem, some_item}
use Rattle.pack_layout.proofs.Packing.{decoded, at_inside, size_is}
use Rattle.pack_layout.proofs.Meet.{opcode, enter, advance, run_into, above_open, immediate_value, operand_cell, literal_value, target, branch_lands, branch_cell}
use Rattle.pack_layout.proofs.Opcodes.{Opcode, opcode_read_lem, opcode_some}

pub each_length : (f : ℕ → ℕ) (k i : ℕ) → length (each f k i) ≡ k
unfolding each
each_length f zero i = refl
each_length f (suc k) i = ap suc (each_length f k (suc i))

pub each_at : (f : ℕ → ℕ) (k i j : ℕ) → j < k → get_or (each f k i) j 0 ≡ f (i + j)
unfolding each
each_at f zero i j h = absurd (omega arith)
each_at f (suc k) i zero h = ap f (let e : i ≡ i + 0 = omega arith in e)
each_at f (suc k) i (suc j) h = each_at f k (suc i) j (omega arith) ∙ ap f (let e : suc i + j ≡ i + suc j = omega arith in e)

-- a list of k numbers, each what f gives for its place
pub each_is : (f : ℕ → ℕ) (k : ℕ) (l : List ℕ) → length l ≡ k → ((j : ℕ) → j < k → get_or l j 0 ≡ f j) → l ≡ each f k 0
each_is f k l e h =
    ext_get_or 0 l (each f k 0) (e ∙ sym (each_length f k 0))
    (λ j b. h j (omega arith) ∙ sym (each_at f k 0 j (omega arith) ∙ ap f (let q : 0 + j ≡ j = omega arith in q)))

done_over : (g : ItemForm) (a : ℕ) → ((g ≡ immediate → ⊥) → a ≡ 0) → done g a ≡ true
done_over alone a h = eq-eqb a 0 (h (λ q. absurd (let z : ◌≡◌ {A = ℕ} 0 1 = cc in omega arith)))
done_over immediate a h = refl
done_over in_cell a h = eq-eqb a 0 (h (λ q. absurd (let z : ◌≡◌ {A = ℕ} 0 1 = cc in omega arith)))

done_not : (g : ItemForm) (a : ℕ) → (g ≡ immediate → ⊥) → (a ≡ 0 → ⊥) → done g a ≡ false
done_not alone a h n = ne_eqb a 0 n
done_not immediate a h n = absurd (h refl)
done_not in_cell a h n = ne_eqb a 0 n

-- where the items end
pub items_are : (img : List ℕ) (k i n : ℕ) → i ≤ n → n < i + k → ((j : ℕ) → j < n → (reader img j).at < length img)
    → length img ≤ (reader img n).at → items_from img k i ≡ n
unfolding items_from
items_are img zero i n a b h e = absurd (omega arith)
items_are img (suc k) i n a b h e = go (dec_lt i n) (λ l. items_are img k (suc i) n l (omega arith) h e)
  where
    go : Dec (i < n) → (i < n → items_from img k (suc i) ≡ n) → if (leb (length img) (reader img i).at) i (items_from img k (suc i)) ≡ n
    go (yes l) f = rw (lt-leb (length img) (reader img i).at (h i l)) (f l)
    go (no l) f =
        let q : i ≡ n = omega arith in
        rw (q, le-leb (length img) (reader img n).at e)

taking_some : (m : Bool) (f : ℕ) → taking m f ≡ alone → ⊥
taking_some m zero e = let z : ◌≡◌ {A = ℕ} 0 1 = cc in omega arith
taking_some true (suc f) e = let z : ◌≡◌ {A = ℕ} 0 1 = cc in omega arith
taking_some false (suc f) e = let z : ◌≡◌ {A = ℕ} 0 1 = cc in omega arith

form_some : (c : Class) (m : Bool) (x f : ℕ) → (c ≡ plain → ⊥) → (c ≡ no_kind → ⊥) → form_of c m x f ≡ alone → ⊥
form_some plain m x f a b e = a refl
form_some literal m x f a b e = taking_some (not (fits f x)) f e
form_some branch m x f a b e = taking_some m f e
form_some no_kind m x f a b e = b refl

and_true : (a b : Bool) → a ≡ true → b ≡ true → (a && b) ≡ true
and_true true b p q = q
and_true false b p q = p

module _ (base : ℕ) (l : Listing) (ok : Legal base l) where
  abbrev img : List ℕ
  img = image base l

  -- the reader at item i
  pub record Met (i : ℕ) : Type 0 where
    pub at : (reader img i).at ≡ (mid (layout l) i).at
    pub rest : (reader img i).rest ≡ register base l i
    pub next : (reader img i).next ≡ (mid (layout l) i).next
    pub first : (reader img i).first ≡ opens (layout l) i

  own : (i : ℕ) → i < l.count → Opcode (form_at (layout l) i) (l.kind i)
  own i h =
      opcode_read_lem (l.kind i) (class_of (l.kind i)) (marks l i) (l.operand i) (left (layout l) i) refl (is_kind_lem l ok.input i h)

  byte_met : (i : ℕ) → i < l.count → Met i → form_read_at img i ≡ form_at (layout l) i
  byte_met i h m = ap form_read (ap (λ (a : ℕ). a % 256) m.rest ∙ opcode base l ok i h) ∙ (own i h).form

  -- from one item to the next
  module _ (i : ℕ) (h : i < l.count) (m : Met i) where
    over : done (form_at (layout l) i) (asr8 (register base l i)) ≡ true
        → reader img (suc i) ≡ at_cell img (cur (layout l) (suc i)).next
    unfolding reader
    over q =
        rw (byte_met i h m, m.rest, q)
        (ap (at_cell img) (let e : (reader img i).next + extra (form_at (layout l) i) ≡ (cur (layout l) (suc i)).next = omega (arith, m.next, next_after (layout l) i) in e))

    on : opens (layout l) (suc i) ≡ false → suc i < l.count → Met (suc i)
    unfolding reader
    on q b =
        let s = same (layout l) i q in
        let a = advance base l ok i b q in
        let e : done (form_at (layout l) i) (asr8 (register base l i)) ≡ false =
        done_not (form_at (layout l) i) (asr8 (register base l i)) (λ z. true≢false (sym (closes (layout l) i z) ∙ q))
        (λ z. opcode_some (form_at (layout l) (suc i)) (l.kind (suc i)) (is_kind_lem l ok.input (suc i) b)
        (sym (opcode base l ok (suc i) b) ∙ ap (λ (y : ℕ). y % 256) (sym a.a ∙ z)))
        in
        record {
          at = rw (byte_met i h m, m.rest, e) (m.at ∙ sym s.at);
          rest = rw (byte_met i h m, m.rest, e) a.a;
          next = rw (byte_met i h m, m.rest, e) (omega (arith, m.next, s.next));
          first = rw (byte_met i h m, m.rest, e, q);
        }

    -- nothing is left behind an item that is not immediate and the last of its cell
    into : suc i < l.count → opens (layout l) (suc i) ≡ true → done (form_at (layout l) i) (asr8 (register base l i)) ≡ true
    into b q = done_over (form_at (layout l) i) (asr8 (register base l i)) (λ g. (run_into base l ok i b q g).a)

    last : suc i ≡ l.count → done (form_at (layout l) i) (asr8 (register base l i)) ≡ true
    last q =
        done_over (form_at (layout l) i) (asr8 (register base l i))
        (λ g. (decoded base l ok i h).last q ∙ above_open (form_at (layout l) i) (value base l i) 0 g)

  -- at the cell that item i opens
  opened_met : (i : ℕ) → opens (layout l) i ≡ true → reader img i ≡ at_cell img (cur (layout l) i).next → Met i
  opened_met i q e =
      let s = enter base l ok i q in
      let a : (mid (layout l) i).at ≡ (cur (layout l) i).next = rw q in
      record {
        at = rw e (sym a);
        rest = rw e (ap (λ (j : ℕ). get_or img j 0) (sym a) ∙ s.cell);
        next = rw e (omega (arith, a, s.ep));
        first = rw (e, q);
      }

  pub met : (i : ℕ) → i < l.count → Met i
  unfolding reader cur
  met zero h = opened_met 0 (entry_opens (layout l) 0 (first_entry l)) refl
  met (suc i) h = go (opens (layout l) (suc i)) refl (met i (omega arith))
    where
      go : (b : Bool) → opens (layout l) (suc i) ≡ b → Met i → Met (suc i)
      go true q m = opened_met (suc i) q (over i (omega arith) m (into i (omega arith) m h q))
      go false q m = on i (omega arith) m q h

  -- behind the last item the image is over
  end : (reader img l.count).at ≡ image_cells l
  end = go l.count refl (some_item l ok.input).0
    where
      go : (n : ℕ) → l.count ≡ n → 0 < n → (reader img n).at ≡ (cur (layout l) n).next
      go zero q h = absurd (omega arith)
      go (suc i) q h =
          let b : i < l.count = omega arith in
          ap (λ (r : Reader). r.at) (over i b (met i b) (last i b (met i b) (sym q)))

  pub items_back : items_read img ≡ l.count
  unfolding items_read
  items_back =
      items_are img 4097 0 l.count (omega arith) (omega (arith, (some_item l ok.input).1))
      (λ j h. omega (arith, (met j h).at, at_inside base l ok j h, size_is base l ok))
      (omega (arith, end, size_is base l ok))

  pub form_back : (i : ℕ) → i < l.count → form_read_at img i ≡ form_at (layout l) i
  form_back i h = byte_met i h (met i h)

  pub kind_back : (i : ℕ) → i < l.count → kind_read_at img i ≡ l.kind i
  kind_back i h =
      ap (λ (b : ℕ). kind_read (form_read b) b) (ap (λ (a : ℕ). a % 256) (met i h).rest ∙ opcode base l ok i h) ∙ (own i h).kind

  -- the item that opens a cell is found there
  first_finds : (k j : ℕ) → j < k → k ≤ l.count → opens (layout l) j ≡ true → first_at img base k (address_of base l j) ≡ j
  unfolding first_at
  first_finds zero j h b q = absurd (omega arith)
  first_finds (suc k) j h b q =
      go ((reader img k).first && eqb (base + 4 * (reader img k).at) (address_of base l j)) refl (dec_lt j k) (λ c. first_finds k j c (omega arith) q)
    where
      m : Met k
      m = met k (omega arith)

      only : ((reader img k).first ≡ true) × (eqb (base + 4 * (reader img k).at) (address_of base l j) ≡ true) → k ≡ j
      only e = one_entry (layout l) k j (sym m.first ∙ e.0) q (omega (arith, m.at, eqb-true (base + 4 * (reader img k).at) (address_of base l j) e.1))

      here : k ≡ j → ((reader img k).first && eqb (base + 4 * (reader img k).at) (address_of base l j)) ≡ true
      here e = and_true _ _ (m.first ∙ ap (opens (layout l)) e ∙ q) (eq-eqb _ _ (ap (λ (a : ℕ). base + 4 * a) m.at ∙ ap (address_of base l) e))

      go : (t : Bool) → ((reader img k).first && eqb (base + 4 * (reader img k).at) (address_of base l j)) ≡ t → Dec (j < k)
          → (j < k → first_at img base k (address_of base l j) ≡ j) → if t k (first_at img base k (address_of base l j)) ≡ j
      go true e d f = only (both_true _ _ e)
      go false e (yes c) f = f c
      go false e (no c) f = absurd (true≢false (sym (here (omega arith)) ∙ e))

  -- the value of an item that has one
  value_back : (i : ℕ) → i < l.count → (g : ItemForm) → form_at (layout l) i ≡ g → (g ≡ alone → ⊥)
      → value_read img g (reader img i) ≡ value base l i
  value_back i h alone q n = absurd (n refl)
  value_back i h immediate q n = ap asr8 (met i h).rest ∙ immediate_value base l ok i h q
  value_back i h in_cell q n = ap (λ (j : ℕ). get_or img j 0) (met i h).next ∙ operand_cell base l ok i h q

  -- the address that a branch leads to
  leads_back : (i : ℕ) → i < l.count → class_of (l.kind i) ≡ branch → (g : ItemForm) → form_at (layout l) i ≡ g → (g ≡ alone → ⊥)
      → leads_to base g (reader img i).next (value_read img g (reader img i)) ≡ address_of base l (l.operand i)
  leads_back i h c alone q n = absurd (n refl)
  leads_back i h c immediate q n =
      ap₂ (leads_to base immediate) (met i h).next (value_back i h immediate q n) ∙ branch_lands base l ok i h c q
  leads_back i h c in_cell q n = value_back i h in_cell q n ∙ branch_cell base l ok i c q

  -- an item that is not plain has a value
  written : (i : ℕ) → i < l.count → (class_of (l.kind i) ≡ plain → ⊥) → form_at (layout l) i ≡ alone → ⊥
  written i h n = form_some (class_of (l.kind i)) (marks l i) (l.operand i) (left (layout l) i) n (is_kind_lem l ok.input i h)

  operand_of_lem : (i : ℕ) → i < l.count → (c : Class) → class_of (l.kind i) ≡ c
      → operand_of img base c (held_of img base c (form_at (layout l) i) (reader img i)) ≡ l.operand i
  operand_of_lem i h plain q = sym (plain_operand_lem l ok.input i h q)
  operand_of_lem i h literal q =
      value_back i h (form_at (layout l) i) refl (written i h (λ z. let y : ◌≡◌ {A = ℕ} 0 1 = cc in omega arith)) ∙ literal_value base l ok i q
  operand_of_lem i h branch q =
      let t = target base l ok i h q in
      rw items_back
      (ap (first_at img base l.count)
      (leads_back i h q (form_at (layout l) i) refl (written i h (λ z. let y : ◌≡◌ {A = ℕ} 0 1 = cc in omega arith)))
      ∙ first_finds l.count (l.operand i) t.0 (omega arith) t.2)
  operand_of_lem i h no_kind q = absurd (is_kind_lem l ok.input i h q)

  pub operand_back : (i : ℕ) → i < l.count → operand_read_at img base i ≡ l.operand i
  operand_back i h =
      ap₂ (λ (c : Class) (g : ItemForm). operand_of img base c (held_of img base c g (reader img i))) (ap class_of (kind_back i h)) (form_back i h)
      ∙ operand_of_lem i h (class_of (l.kind i)) refl

-- the arrays of a legal listing are read back from its image
module _ (base : ℕ) (kinds operands : List ℕ) (ok : Legal base (listed kinds operands)) where
  pub kinds_back : kinds_read (image base (listed kinds operands)) ≡ kinds
  unfolding kinds_read
  kinds_back =
      rw (items_back base (listed kinds operands) ok)
      (sym (each_is _ (length kinds) kinds refl (λ j h. sym (kind_back base (listed kinds operands) ok j h))))

  pub operands_back : length operands ≡ length kinds → operands_read (image base (listed kinds operands)) base ≡ operands
  unfolding operands_read
  operands_back e =
      rw (items_back base (listed kinds operands) ok)
      (sym (each_is _ (length kinds) operands e (λ j h. sym (operand_back base (listed kinds operands) ok j h))))
