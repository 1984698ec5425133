-- Decoding an image: at each item A's low byte is the item's opcode, a shift leaves what stands above it, and its operand cell is
-- where its EP value points.
-- Assumes nothing.
use mathlib.Core.Path.{◌≡◌, refl, sym, ap, ap₂, ◌∙◌}
use mathlib.Core.Bool.{Bool, true, false}
use mathlib.Core.List.{List, ◌∷◌}
use Prim.Native.Nat.{ℕ, zero, suc, ◌+◌, ◌-◌, ◌%◌, ◌^◌, ◌<◌}
use native.Mathlib.Nat.{zero-add, add-zero}
use native.Mathlib.Omega.{arith}
use lib.ListN.{length, get_or, drop}
use lib.Seq.{drop-drop, get_or-drop}
use Rattle.cell.specs.Shift.{asr8}
use Rattle.pack_layout.specs.declared.ItemForm.{ItemForm}
use Rattle.pack_layout.specs.Bytes.{fits, shifts}
use Rattle.pack_layout.specs.Layout.{Spot, begin, finish, Plan, cur, opens, mid, left, form_at, alone, immediate, in_cell}
use Rattle.pack_layout.specs.Image.{byte_of, above, opened, joined, word, cells, reg}
use Rattle.pack_layout.proofs.Bytes.{Fits, fits_case, fits_zero, fits_pack, asr_above, pack_low, pack_below}
use Rattle.pack_layout.proofs.Placing.{left_le, same}

-- the cells from an item's first on, less what the item opens and joins
skip : (o : Bool) (g : ItemForm) (f : ℕ) (c : Spot) (img l : List ℕ) (w v : ℕ)
    → drop c.next img ≡ opened o w (joined g v l) → drop (finish g f (begin o c)).next img ≡ l
skip true alone f c img l w v e = sym (drop-drop 1 c.next img) ∙ ap (drop 1) e
skip true immediate f c img l w v e = sym (drop-drop 1 c.next img) ∙ ap (drop 1) e
skip true in_cell f c img l w v e =
    sym (drop-drop 1 (c.next + 1) img) ∙ ap (drop 1) (sym (drop-drop 1 c.next img) ∙ ap (drop 1) e)
skip false alone f c img l w v e = e
skip false immediate f c img l w v e = e
skip false in_cell f c img l w v e = sym (drop-drop 1 c.next img) ∙ ap (drop 1) e

size_of : (o : Bool) (g : ItemForm) (f : ℕ) (c : Spot) (l : List ℕ) (w v : ℕ)
    → c.next + length (opened o w (joined g v l)) ≡ (finish g f (begin o c)).next + length l
size_of true alone f c l w v = omega arith
size_of true immediate f c l w v = omega arith
size_of true in_cell f c l w v = omega arith
size_of false alone f c l w v = refl
size_of false immediate f c l w v = refl
size_of false in_cell f c l w v = omega arith

-- an item's operand cell, behind the cell that it opens
operand_of_lem : (o : Bool) (c : Spot) (img l : List ℕ) (w v : ℕ)
    → drop c.next img ≡ opened o w (v ∷ l) → get_or img (begin o c).next 0 ≡ v
operand_of_lem true c img l w v e = sym (get_or-drop c.next img 1 0) ∙ ap (λ (s : List ℕ). get_or s 1 0) e
operand_of_lem false c img l w v e =
    ap (λ (m : ℕ). get_or img m 0) (sym (add-zero c.next)) ∙ sym (get_or-drop c.next img 0 0)
    ∙ ap (λ (s : List ℕ). get_or s 0 0) e

pub record Decoded (p : Plan) (kind val : ℕ → ℕ) (n : ℕ) (img : List ℕ) (i : ℕ) : Type 0 where
  pub byte : reg p img i % 256 ≡ byte_of (form_at p i) (kind i)
  pub more : suc i < n → asr8 (reg p img i) ≡ above (form_at p i) (opens p (suc i)) (val i) (reg p img (suc i))
  pub last : suc i ≡ n → asr8 (reg p img i) ≡ above (form_at p i) true (val i) 0
  pub operand : form_at p i ≡ in_cell → get_or img (mid p i).next 0 ≡ val i

above_nothing : (g : ItemForm) (o : Bool) (v : ℕ) → above g o v 0 ≡ above g true v 0
above_nothing alone true v = refl
above_nothing alone false v = refl
above_nothing immediate o v = refl
above_nothing in_cell true v = refl
above_nothing in_cell false v = refl

joined_below : (g : ItemForm) (l : List ℕ) (v : ℕ) → (g ≡ in_cell → v < 2 ^ 32)
    → ((j : ℕ) → get_or l j 0 < 2 ^ 32) → (j : ℕ) → get_or (joined g v l) j 0 < 2 ^ 32
joined_below alone l v b h j = h j
joined_below immediate l v b h j = h j
joined_below in_cell l v b h zero = b refl
joined_below in_cell l v b h (suc j) = h j

opened-below : (o : Bool) (l : List ℕ) (w : ℕ) → w < 2 ^ 32
    → ((j : ℕ) → get_or l j 0 < 2 ^ 32) → (j : ℕ) → get_or (opened o w l) j 0 < 2 ^ 32
opened-below true l w a h zero = a
opened-below true l w a h (suc j) = h j
opened-below false l w a h j = h j

module _ (p : Plan) (kind val : ℕ → ℕ) where
  tail : (i k n : ℕ) → i + k ≡ n → drop (cur p i).next (cells p kind val n 0) ≡ cells p kind val k i
  unfolding cur cells
  tail zero k n e = rw (← e, zero-add k)
  tail (suc i) k n e =
      skip (opens p i) (form_at p i) (left p i) (cur p i) (cells p kind val n 0)
      (cells p kind val k (suc i)) (word p kind val (suc k) i) (val i) (tail i (suc k) n (omega arith))

  size : (i k : ℕ) → (cur p i).next + length (cells p kind val k i) ≡ (cur p (i + k)).next
  unfolding cur cells
  size i zero = simp add-zero
  size i (suc k) =
      size_of (opens p i) (form_at p i) (left p i) (cur p i) (cells p kind val k (suc i)) (word p kind val (suc k) i) (val i)
      ∙ size (suc i) k ∙ ap (λ (m : ℕ). (cur p m).next) (let e : suc i + k ≡ i + suc k = omega arith in e)

  pub image_size : (n : ℕ) → length (cells p kind val n 0) ≡ (cur p n).next
  unfolding cur
  image_size n = sym (zero-add _) ∙ size 0 n ∙ ap (λ (m : ℕ). (cur p m).next) (zero-add n)

  -- every cell is below 2^32
  pub cells_below : (n : ℕ) → ((i : ℕ) → i < n → byte_of (form_at p i) (kind i) < 256)
      → ((i : ℕ) → i < n → form_at p i ≡ in_cell → val i < 2 ^ 32)
      → (k i : ℕ) → i + k ≡ n → (j : ℕ) → get_or (cells p kind val k i) j 0 < 2 ^ 32
  unfolding cells word
  cells_below n low small zero i e j = omega arith
  cells_below n low small (suc k) i e j =
      opened-below (opens p i) (joined (form_at p i) (val i) (cells p kind val k (suc i))) (word p kind val (suc k) i)
      (pack_below (byte_of (form_at p i) (kind i)) _ (low i (omega arith)))
      (joined_below (form_at p i) (cells p kind val k (suc i)) (val i) (small i (omega arith))
      (cells_below n low small k (suc i) (omega arith))) j

  module _ (n : ℕ) (low : (i : ℕ) → i < n → byte_of (form_at p i) (kind i) < 128)
      (small : (i : ℕ) → i < n → form_at p i ≡ immediate → fits (left p i) (val i) ≡ true) where
    abbrev img : List ℕ
    img = cells p kind val n 0

    fits_above : (k i : ℕ) → i + suc k ≡ n → Fits (suc (left p (suc i))) (word p kind val k (suc i))
        → Fits (left p i) (above (form_at p i) (opens p (suc i)) (val i) (word p kind val k (suc i)))
    fits_above k i e h = go (form_at p i) (opens p (suc i)) refl refl
      where
        go : (g : ItemForm) (o : Bool) → form_at p i ≡ g → opens p (suc i) ≡ o
            → Fits (left p i) (above g o (val i) (word p kind val k (suc i)))
        go immediate o a q = fits_case (left p i) (val i) (small i (omega arith) a)
        go alone true a q = fits_zero (left p i)
        go alone false a q = rw (← (same p i q).left) h
        go in_cell true a q = fits_zero (left p i)
        go in_cell false a q = rw (← (same p i q).left) h

    fits_word : (k i : ℕ) → i + k ≡ n → Fits (suc (left p i)) (word p kind val k i)
    unfolding word
    fits_word zero i e = fits_zero (suc (left p i))
    fits_word (suc k) i e =
        fits_pack (left p i) (byte_of (form_at p i) (kind i)) _ (left_le p i) (low i (omega arith))
        (fits_above k i e (fits_word k (suc i) (omega arith)))

    shifted : (k i : ℕ) → i + suc k ≡ n
        → asr8 (word p kind val (suc k) i) ≡ above (form_at p i) (opens p (suc i)) (val i) (word p kind val k (suc i))
    unfolding word
    shifted k i e =
        asr_above (left p i) (byte_of (form_at p i) (kind i)) _ (left_le p i) (omega (arith, low i (omega arith)))
        (fits_above k i e (fits_word k (suc i) (omega arith)))

    here : (i k : ℕ) → i + suc k ≡ n → opens p i ≡ true → reg p img i ≡ word p kind val (suc k) i
    unfolding cells
    here i k e q =
        rw q
        (ap (λ (m : ℕ). get_or img m 0) (sym (add-zero (cur p i).next)) ∙ sym (get_or-drop (cur p i).next img 0 0)
        ∙ ap (λ (s : List ℕ). get_or s 0 0) (tail i (suc k) n e) ∙ rw q)

    reg_word : (i k : ℕ) → i + suc k ≡ n → reg p img i ≡ word p kind val (suc k) i
    unfolding cur
    reg_word zero k e = here zero k e refl
    reg_word (suc i) k e = go (opens p (suc i)) refl (reg_word i (suc k) (omega arith))
      where
        go : (o : Bool) → opens p (suc i) ≡ o → reg p img i ≡ word p kind val (suc (suc k)) i
            → reg p img (suc i) ≡ word p kind val (suc k) (suc i)
        go true q h = here (suc i) k e q
        go false q h =
            let s = same p i q in
            ap₂ (λ (k a : ℕ). shifts k (get_or img a 0))
            (let t : 3 - left p (suc i) ≡ suc (3 - left p i) = omega (arith, s.left, left_le p i) in t) s.at
            ∙ ap asr8 h ∙ shifted (suc k) i (omega arith) ∙ s.above (val i) (word p kind val (suc k) (suc i))

    pub decode : (i k : ℕ) → i + suc k ≡ n → Decoded p kind val n img i
    unfolding word cells
    decode i k e =
        record {
          byte = rw (reg_word i k e) (pack_low (byte_of (form_at p i) (kind i)) _ (omega (arith, low i (omega arith))));
          more = λ h. ap asr8 (reg_word i k e) ∙ shifted k i e ∙ next k e h;
          last = λ h. ap asr8 (reg_word i k e) ∙ shifted k i e ∙ end k e h;
          operand = λ a. operand_of_lem (opens p i) (cur p i) img (cells p kind val k (suc i)) (word p kind val (suc k) i) (val i)
              (tail i (suc k) n e ∙ ap (λ (g : ItemForm). opened (opens p i) (word p kind val (suc k) i) (joined g (val i) (cells p kind val k (suc i)))) a);
        }
      where
        next : (k : ℕ) → i + suc k ≡ n → suc i < n
            → above (form_at p i) (opens p (suc i)) (val i) (word p kind val k (suc i))
            ≡ above (form_at p i) (opens p (suc i)) (val i) (reg p img (suc i))
        next zero e h = absurd (omega arith)
        next (suc k) e h = ap (above (form_at p i) (opens p (suc i)) (val i)) (sym (reg_word (suc i) k (omega arith)))

        end : (k : ℕ) → i + suc k ≡ n → suc i ≡ n
            → above (form_at p i) (opens p (suc i)) (val i) (word p kind val k (suc i)) ≡ above (form_at p i) true (val i) 0
        end zero e h = above_nothing (form_at p i) (opens p (suc i)) (val i)
        end (suc k) e h = absurd (omega arith)

    pub image_decodes : (i : ℕ) → i < n → Decoded p kind val n img i
    image_decodes i h = decode i (n - suc i) (omega arith)
