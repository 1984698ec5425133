-- Stores and fetches: a store keeps the length; what is stored is fetched there again; a store elsewhere leaves a range of bytes alone; two
-- memories that agree on a range have the same cells there; every cell is below 2^32.
use Rattle.std.proofs.Common.{◌≡◌, ℕ, zero, suc, ◌+◌, ◌^◌, ◌<◌, ◌≤◌, ◌≢◌, ◌⊎◌, List, [], ◌∷◌, length, get_or, set, refl, ◌∙◌, inl, inr, arith, length-set, get_or-set_other, get_or-set_same}
use Rattle.cell.specs.Memory.{byte0, byte1, byte2, byte3, joined, put, cell_at, store_cell, Alike, Bytewise}
use Rattle.cell.proofs.BytesLaws.{join_bytes}

pub store_length : (order : ℕ) (m : List ℕ) (a x : ℕ) → length (store_cell order m a x) ≡ length m
unfolding store_cell
store_length zero m a x = simp length-set
store_length (suc order) m a x = simp length-set

-- four bytes put in a row are read there
put_read : (m : List ℕ) (a p q r s : ℕ) → a + 4 ≤ length m
    → (get_or (put m a p q r s) a 0 ≡ p)
    × (get_or (put m a p q r s) (a + 1) 0 ≡ q)
    × (get_or (put m a p q r s) (a + 2) 0 ≡ r)
    × (get_or (put m a p q r s) (a + 3) 0 ≡ s)
put_read m a p q r s h =
    let l0 : a < length m = omega arith in
    let l1 : a + 1 < length (set m a p) = simp length-set (omega arith) in
    let l2 : a + 2 < length (set (set m a p) (a + 1) q) = simp length-set (omega arith) in
    let l3 : a + 3 < length (set (set (set m a p) (a + 1) q) (a + 2) r) = simp length-set (omega arith) in
    let n01 : a ≢ a + 1 = omega arith in
    let n02 : a ≢ a + 2 = omega arith in
    let n03 : a ≢ a + 3 = omega arith in
    let n12 : a + 1 ≢ a + 2 = omega arith in
    let n13 : a + 1 ≢ a + 3 = omega arith in
    let n23 : a + 2 ≢ a + 3 = omega arith in
    (simp (get_or-set_other, get_or-set_same), simp (get_or-set_other, get_or-set_same), simp (get_or-set_other, get_or-set_same), simp get_or-set_same)

-- a fetch after a store at the same place
pub cell_back : (order : ℕ) (m : List ℕ) (a x : ℕ) → a + 4 ≤ length m → x < 2 ^ 32 → cell_at order (store_cell order m a x) a ≡ x
unfolding cell_at store_cell
cell_back zero m a x h k =
    let t = put_read m a (byte0 x) (byte1 x) (byte2 x) (byte3 x) h in
    rw (t.0, t.1, t.2, t.3) (join_bytes x k)
cell_back (suc order) m a x h k =
    let t = put_read m a (byte3 x) (byte2 x) (byte1 x) (byte0 x) h in
    rw (t.0, t.1, t.2, t.3) (join_bytes x k)

-- a byte that is none of the four
put_other : (m : List ℕ) (a p q r s j : ℕ) → j ≢ a → j ≢ a + 1 → j ≢ a + 2 → j ≢ a + 3 → get_or (put m a p q r s) j 0 ≡ get_or m j 0
put_other m a p q r s j h0 h1 h2 h3 = simp get_or-set_other

-- the four bytes from a on lie outside a range
abbrev pub Apart : ℕ → ℕ → ℕ → ℕ → Type 0
Apart lo hi a n = (a + n ≤ lo) ⊎ (hi ≤ a)

put_frame : (lo hi : ℕ) (m : List ℕ) (a p q r s : ℕ) → Apart lo hi a 4 → Alike lo hi m (put m a p q r s)
unfolding Alike
put_frame lo hi m a p q r s (inl h) j u v = put_other m a p q r s j (omega arith) (omega arith) (omega arith) (omega arith)
put_frame lo hi m a p q r s (inr h) j u v = put_other m a p q r s j (omega arith) (omega arith) (omega arith) (omega arith)

-- a store outside a range leaves the range alone
pub cell_frame : (lo hi order : ℕ) (m : List ℕ) (a x : ℕ) → Apart lo hi a 4 → Alike lo hi m (store_cell order m a x)
unfolding store_cell
cell_frame lo hi zero m a x h = put_frame lo hi m a (byte0 x) (byte1 x) (byte2 x) (byte3 x) h
cell_frame lo hi (suc order) m a x h = put_frame lo hi m a (byte3 x) (byte2 x) (byte1 x) (byte0 x) h

pub byte_frame : (lo hi : ℕ) (m : List ℕ) (a x : ℕ) → Apart lo hi a 1 → Alike lo hi m (set m a x)
unfolding Alike
byte_frame lo hi m a x (inl h) j u v = get_or-set_other m a j x 0 (omega arith)
byte_frame lo hi m a x (inr h) j u v = get_or-set_other m a j x 0 (omega arith)

pub alike_refl : (lo hi : ℕ) (m : List ℕ) → Alike lo hi m m
unfolding Alike
alike_refl lo hi m j u v = refl

pub alike_trans : (lo hi : ℕ) (m m2 m3 : List ℕ) → Alike lo hi m m2 → Alike lo hi m2 m3 → Alike lo hi m m3
unfolding Alike
alike_trans lo hi m m2 m3 f g j u v = g j u v ∙ f j u v

-- memories that agree on a range have the same cells in it
pub cell_alike : (lo hi order : ℕ) (m m2 : List ℕ) (a : ℕ) → Alike lo hi m m2 → lo ≤ a → a + 4 ≤ hi
    → cell_at order m2 a ≡ cell_at order m a
unfolding Alike cell_at
cell_alike lo hi order m m2 a f p q =
    rw (f a (omega arith) (omega arith), f (a + 1) (omega arith) (omega arith), f (a + 2) (omega arith) (omega arith), f (a + 3) (omega arith) (omega arith))

joined_below : (order a b c d : ℕ) → a < 256 → b < 256 → c < 256 → d < 256 → joined order a b c d < 2 ^ 32
joined_below zero a b c d ha hb hc hd = omega arith
joined_below (suc order) a b c d ha hb hc hd = omega arith

-- every cell is below 2^32
pub cell_below : (order : ℕ) (m : List ℕ) (a : ℕ) → Bytewise m → cell_at order m a < 2 ^ 32
unfolding cell_at Bytewise
cell_below order m a low = joined_below order (get_or m a 0) (get_or m (a + 1) 0) (get_or m (a + 2) 0) (get_or m (a + 3) 0) (low a) (low (a + 1)) (low (a + 2)) (low (a + 3))

pub set_bytewise : (m : List ℕ) (a x : ℕ) → Bytewise m → x < 256 → Bytewise (set m a x)
unfolding Bytewise
set_bytewise [] a x low h i = low i
set_bytewise (y ∷ m) zero x low h zero = h
set_bytewise (y ∷ m) zero x low h (suc i) = low (suc i)
set_bytewise (y ∷ m) (suc a) x low h zero = low zero
set_bytewise (y ∷ m) (suc a) x low h (suc i) = set_bytewise m a x (λ k. low (suc k)) h i

put_bytewise : (m : List ℕ) (a p q r s : ℕ) → Bytewise m → p < 256 → q < 256 → r < 256 → s < 256 → Bytewise (put m a p q r s)
put_bytewise m a p q r s low hp hq hr hs =
    set_bytewise _ (a + 3) s (set_bytewise _ (a + 2) r (set_bytewise _ (a + 1) q (set_bytewise m a p low hp) hq) hr) hs

pub store_bytewise : (order : ℕ) (m : List ℕ) (a x : ℕ) → Bytewise m → Bytewise (store_cell order m a x)
unfolding store_cell
store_bytewise zero m a x low = put_bytewise m a (byte0 x) (byte1 x) (byte2 x) (byte3 x) low (omega arith) (omega arith) (omega arith) (omega arith)
store_bytewise (suc order) m a x low = put_bytewise m a (byte3 x) (byte2 x) (byte1 x) (byte0 x) low (omega arith) (omega arith) (omega arith) (omega arith)

pub alike_narrow : (lo hi hi2 : ℕ) (m m2 : List ℕ) → hi2 ≤ hi → Alike lo hi m m2 → Alike lo hi2 m m2
unfolding Alike
alike_narrow lo hi hi2 m m2 h f j u v = f j u (omega arith)
