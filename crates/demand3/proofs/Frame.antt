-- Stores that write no byte of a range leave the range alone.
use mathlib.Core.Path.{◌≡◌, refl}
use mathlib.Core.Bool.{Bool, true, false, ◌&&◌, true≢false}
use mathlib.Core.List.{List, [], ◌∷◌}
use mathlib.Core.Logic.{inl, inr}
use Prim.Native.Nat.{ℕ, ◌+◌}
use borrow.Author.Tests.{ltb-false}
use lib.Dec.{ltb}
use Rattle.cell.specs.Memory.{Alike}
use Rattle.cell.proofs.BooleanLaws.{neither}
use Rattle.cell.proofs.MemoryLaws.{Apart, cell_frame, byte_frame, alike_refl, alike_trans}
use Rattle.machine.specs.Places.{Width, one_byte, one_cell}
use Rattle.machine.specs.Effects.{Store}
use Rattle.machine.specs.Commits.{put_store, stored_of, width_of, touches}
use Rattle.machine.specs.declared.Machine.{Machine}

apart : (lo hi a n : ℕ) → (ltb a hi && ltb lo (a + n)) ≡ false → Apart lo hi a n
apart lo hi a n e = go (ltb a hi) refl (ltb lo (a + n)) refl e
  where
    go : (b : Bool) → ltb a hi ≡ b → (d : Bool) → ltb lo (a + n) ≡ d → (b && d) ≡ false → Apart lo hi a n
    go false p d q e = inr (ltb-false a hi p)
    go true p false q e = inl (ltb-false lo (a + n) q)
    go true p true q e = absurd (true≢false e)

put_frame : (machine : Machine) (lo hi : ℕ) (m : List ℕ) (w : Width) (a x : ℕ) → Apart lo hi a (width_of w) → Alike lo hi m (put_store machine m w a x)
put_frame machine lo hi m one_byte a x h = byte_frame lo hi m a x h
put_frame machine lo hi m one_cell a x h = cell_frame lo hi machine.order m a x h

pub stores_frame : (machine : Machine) (lo hi : ℕ) (m : List ℕ) (ss : List Store) → touches lo hi ss ≡ false → Alike lo hi m (stored_of machine m ss)
unfolding touches stored_of
stores_frame machine lo hi m [] e = alike_refl lo hi m
stores_frame machine lo hi m (s ∷ ss) e =
    let h = neither (ltb s.at hi && ltb lo (s.at + width_of s.width)) (touches lo hi ss) e in
    let m2 = put_store machine m s.width s.at s.value in
    alike_trans lo hi m m2 (stored_of machine m2 ss)
    (put_frame machine lo hi m s.width s.at s.value (apart lo hi s.at (width_of s.width) h.0))
    (stores_frame machine lo hi m2 ss h.1)
