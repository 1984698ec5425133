-- One turn of the reading: what the arrays hold before each item.
-- Assumes nothing.
use mathlib.Core.Path.{◌≡◌, refl, sym, ◌∙◌}
use mathlib.Core.Bool.{Bool, true, false, ◌&&◌}
use mathlib.Core.Logic.{⊎_elim}
use mathlib.Core.List.{List}
use Prim.Native.Nat.{ℕ, zero, suc, ◌+◌, ◌*◌, ◌≤◌, ◌<◌}
use native.Mathlib.Nat.{le_of_suc-le-suc, eq-or-lt_of_le}
use native.Mathlib.Omega.{arith}
use native.Mathlib.Decide.{ℕ_discrete}
use borrow.Author.Tests.{eq-eqb, ne_eqb, lt-leb}
use lib.Dec.{eqb}
use lib.ListN.{length, get_or, set, length-set}
use lib.Seq.{get_or-set_same, get_or-set_other}
use Rattle.cell.specs.Choice.{if}
use Rattle.cell.specs.Shift.{asr8}
use Rattle.pack_layout.specs.declared.ItemForm.{ItemForm}
use Rattle.pack_layout.specs.Kinds.{class_of}
use Rattle.pack_layout.specs.Layout.{extra}
use Rattle.pack_layout.specs.Reading.{Reader, done, at_cell, behind_item, reader, items_from, items_read, first_at, form_read, kind_read, opcode_read, form_read_at, kind_read_at, held_of, held_at}
use Rattle.pack_layout.proofs.Placing.{extra_most}
use Rattle.pack_layout.proofs.Reading.{items_are}
use Rattle.unpack_reading.specs.Arrays.{Filled, first_noted}

-- an item takes at most two cells
behind_most : (img : List ℕ) (g : ItemForm) (r : Reader) → (behind_item img g r).next ≤ r.next + 2
behind_most img g r = go (done g (asr8 r.rest))
  where
    go : (b : Bool)
        → (if b (at_cell img (r.next + extra g)) (record { at = r.at; rest = asr8 r.rest; next = r.next + extra g; first = false })).next ≤ r.next + 2
    go true = omega (arith, extra_most g)
    go false = omega (arith, extra_most g)

pub next_most : (img : List ℕ) (i : ℕ) → (reader img i).next ≤ 2 * i + 1
unfolding reader
next_most img zero = omega arith
next_most img (suc i) = omega (arith, next_most img i, behind_most img (form_read_at img i) (reader img i))

-- the arrays and the reader before item i
pub record Reached (img : List ℕ) (base : ℕ) (kinds held firsts : List ℕ) (r : Reader) (i : ℕ) : Type 0 where
  pub item : r ≡ reader img i
  pub inside : i ≤ 4096
  pub kinds_length : length kinds ≡ 4096
  pub held_length : length held ≡ 4096
  pub firsts_length : length firsts ≡ length img
  pub filled : Filled img base kinds held firsts i
  pub before : (j : ℕ) → j < i → (reader img j).at < length img

pub noted_length : (r : Reader) (firsts : List ℕ) (i : ℕ) → length (first_noted r firsts i) ≡ length firsts
noted_length r firsts i = go r.first
  where
    go : (b : Bool) → length (if b (set firsts r.at i) firsts) ≡ length firsts
    go true = length-set firsts r.at i
    go false = refl

-- what f gives for the first i numbers, and for the next
extend : (f : ℕ → ℕ) (l : List ℕ) (i x : ℕ) → i < length l → x ≡ f i → ((j : ℕ) → j < i → get_or l j 0 ≡ f j)
    → (j : ℕ) → j < suc i → get_or (set l i x) j 0 ≡ f j
extend f l i x b e h j c =
    ⊎_elim (λ (q : j ≡ i). rw q (get_or-set_same l i x 0 b ∙ e))
    (λ (q : j < i). get_or-set_other l i j x 0 (λ (z : j ≡ i). omega arith) ∙ h j q)
    (eq-or-lt_of_le (le_of_suc-le-suc c))

-- the item that begins a cell, once item i is noted
noted : (img : List ℕ) (base : ℕ) (firsts : List ℕ) (i c : ℕ) → (reader img i).at < length firsts
    → get_or firsts c 0 ≡ first_at img base i (base + 4 * c)
    → get_or (first_noted (reader img i) firsts i) c 0 ≡ first_at img base (suc i) (base + 4 * c)
unfolding first_at
noted img base firsts i c b h = go (reader img i).first (ℕ_discrete c (reader img i).at)
  where
    go : (t : Bool) → Dec (c ≡ (reader img i).at) → get_or (if t (set firsts (reader img i).at i) firsts) c 0
        ≡ if (t && eqb (base + 4 * (reader img i).at) (base + 4 * c)) i (first_at img base i (base + 4 * c))
    go false d = h
    go true (yes q) =
        rw (q, eq-eqb (base + 4 * (reader img i).at) (base + 4 * (reader img i).at) refl) (get_or-set_same firsts (reader img i).at i 0 b)
    go true (no q) =
        rw (ne_eqb (base + 4 * (reader img i).at) (base + 4 * c) (λ (z : base + 4 * (reader img i).at ≡ base + 4 * c). q (omega arith)))
        (get_or-set_other firsts (reader img i).at c i 0 q ∙ h)

module _ (img : List ℕ) (base : ℕ) (kinds held firsts : List ℕ) (r : Reader) (i : ℕ) (s : Reached img base kinds held firsts r i) where
  pub room : i < 4096 → r.next < 8192
  room h = rw s.item (omega (arith, next_most img i))

  -- one turn
  pub read_on : i < 4096 → r.at < length img → (g : ItemForm) (k x : ℕ) → g ≡ form_read (opcode_read r) → k ≡ kind_read g (opcode_read r)
      → x ≡ held_of img base (class_of k) g r → (t : Reader) → t ≡ behind_item img g r → Reached img base (set kinds i k) (set held i x) (first_noted r firsts i) t (suc i)
  unfolding reader
  read_on h a g k x eg ek ex t et =
      record {
        item = et ∙ rw (form, s.item);
        inside = h;
        kinds_length = length-set kinds i k ∙ s.kinds_length;
        held_length = length-set held i x ∙ s.held_length;
        firsts_length = noted_length r firsts i ∙ s.firsts_length;
        filled =
            record {
              kind = extend (kind_read_at img) kinds i k (omega (arith, s.kinds_length)) kind s.filled.kind;
              value = extend (held_at img base) held i x (omega (arith, s.held_length)) (ex ∙ rw (kind, form, s.item)) s.filled.value;
              first = λ c b. rw s.item (noted img base firsts i c at (s.filled.first c (omega (arith, noted_length r firsts i, b))));
            };
        before = λ j b. ⊎_elim (λ (q : j ≡ i). rw (q, ← s.item) a) (λ (q : j < i). s.before j q) (eq-or-lt_of_le (le_of_suc-le-suc b));
      }
    where
      form : g ≡ form_read_at img i
      form = eg ∙ rw s.item

      kind : k ≡ kind_read_at img i
      kind = ek ∙ rw (form, s.item)

      at : (reader img i).at < length firsts
      at = rw (← s.item, s.firsts_length) a

-- before the first item
pub read_none : (img : List ℕ) (base : ℕ) (kinds held firsts : List ℕ) (r : Reader) → r ≡ at_cell img 0 → length kinds ≡ 4096 → length held ≡ 4096
    → length firsts ≡ length img → ((c : ℕ) → c < length firsts → get_or firsts c 0 ≡ 4096) → Reached img base kinds held firsts r 0
unfolding reader first_at
read_none img base kinds held firsts r e k x f h =
    record {
      item = e;
      inside = omega arith;
      kinds_length = k;
      held_length = x;
      firsts_length = f;
      filled = record { kind = λ j b. absurd (omega arith); value = λ j b. absurd (omega arith); first = h };
      before = λ j b. absurd (omega arith);
    }

-- the number of items, once the image is over
pub over : (img : List ℕ) (base : ℕ) (kinds held firsts : List ℕ) (r : Reader) (i : ℕ) → Reached img base kinds held firsts r i
    → length img ≤ r.at → i ≡ items_read img
unfolding items_read
over img base kinds held firsts r i s e =
    sym (items_are img 4097 0 i (omega arith) (omega (arith, s.inside)) s.before (rw s.item at e))

-- the image is not over at item i either
pub more : (img : List ℕ) (base : ℕ) (kinds held firsts : List ℕ) (r : Reader) (i : ℕ) → Reached img base kinds held firsts r i
    → r.at < length img → (j : ℕ) → j ≤ i → (reader img j).at < length img
more img base kinds held firsts r i s a j b =
    ⊎_elim (λ (q : j ≡ i). rw (q, ← s.item) a) (λ (q : j < i). s.before j q) (eq-or-lt_of_le b)

-- more than 4,096 items
going : (img : List ℕ) (k i : ℕ) → ((j : ℕ) → j < i + k → (reader img j).at < length img) → items_from img k i ≡ i + k
unfolding items_from
going img zero i h = omega arith
going img (suc k) i h =
    rw (lt-leb (length img) (reader img i).at (h i (omega arith)))
    (going img k (suc i) (λ j b. h j (omega arith)) ∙ (let e : suc i + k ≡ i + suc k = omega arith in e))

pub too_many : (img : List ℕ) → ((j : ℕ) → j < 4097 → (reader img j).at < length img) → 4097 ≡ items_read img
unfolding items_read
too_many img h = sym (going img 4097 0 h)
