-- What a save leaves and answers, from what its parts do.
use mathlib.Core.Path.{◌≡◌, refl, sym, ap, ◌∙◌}
use mathlib.Core.List.{List, ◌++◌}
use Prim.Native.Nat.{ℕ, zero, suc, ◌+◌, ◌*◌, ◌-◌, ◌≤◌}
use native.Mathlib.Omega.{arith}
use lib.ListN.{length, take, drop, length-append, length-drop}
use lib.Seq.{paste, take_at, take_all, drop-append-add, drop-drop}
use Rattle.cell.specs.Memory.{Bytewise}
use Rattle.module_judging.specs.Format.{header_of, module_of}
use Rattle.module_copying.specs.Copies.{copied}
use Rattle.module_copying.proofs.SameLaws.{copied_same, drop_bytewise}

-- a module's header has twelve bytes
pub header_length : (order l : ℕ) → length (header_of order l) ≡ 12
unfolding header_of
header_length zero l = refl
header_length (suc order) l = refl

-- the cells as they stand, pasted after a header
pub module-pasted : (order : ℕ) (m : List ℕ) (a l : ℕ) (out : List ℕ)
    → paste (header_of order l ++ drop 12 out) 12 (drop a m) (4 * l) ≡ module_of order m a l ++ drop (12 + 4 * l) out
unfolding module_of
module-pasted order m a l out =
    let e = header_length order l in
    let d : drop (12 + 4 * l) (header_of order l ++ drop 12 out) ≡ drop (12 + 4 * l) out =
    ap (λ (n : ℕ). drop (n + 4 * l) (header_of order l ++ drop 12 out)) (sym e)
    ∙ drop-append-add (header_of order l) (drop 12 out) (4 * l)
    ∙ drop-drop (4 * l) 12 out
    in
    rw (take_at (header_of order l) (drop 12 out) 12 e, d)

-- a header, and then the cells of memory's part from an address on, copied behind it
pub saved_is : (order : ℕ) (m : List ℕ) (a l : ℕ) (out : List ℕ) → Bytewise m → a + 4 * l ≤ length m → 12 + 4 * l ≤ length out
    → module_of order m a l ++ drop (12 + 4 * l) out
    ≡ copied order order (take (length m - a) (drop a m)) (header_of order l ++ drop 12 out) 12 l
saved_is order m a l out low h g =
    let t : take (length m - a) (drop a m) ≡ drop a m = take_all (length m - a) (drop a m) (simp length-drop (omega arith)) in
    let e : length (header_of order l ++ drop 12 out) ≡ length out =
    length-append (header_of order l) (drop 12 out) ∙ rw (header_length order l, length-drop 12 out) (omega arith)
    in
    rw t
    (sym
    (copied_same order (drop a m) (drop_bytewise a m low) (header_of order l ++ drop 12 out) 12 l (omega (arith, e)) (simp length-drop (omega arith))
    ∙ module-pasted order m a l out))
