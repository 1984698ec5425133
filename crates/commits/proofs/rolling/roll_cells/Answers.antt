-- `roll_cells` meets its contract. The invariant is `Rolling`.
use Rattle.machine.specs.Commits as commits
use Rattle.commits.proofs.RollLaws.{roll_begins, roll_again, roll_done}
use Prim.Native.Nat.{◌+◌, ◌-◌}
use native.Mathlib.Omega.{arith}
use mathlib.Core.Path.{◌≡◌}
use Rattle.commits.proofs.rolling.roll_cells.Goals as goal

pub returns-then-depth-eq0 : goal.returns-then-depth-eq0
unfolding commits.stored_of
returns-then-depth-eq0 c = rw c.if-depth-eq0.true

pub loop-k-init : goal.loop-k-init
loop-k-init c = roll_begins _ _ _ _ _

pub loop-k-preserved : goal.loop-k-preserved
loop-k-preserved c = let n : c.loop-k.k - 1 + 1 ≡ c.loop-k.k = omega (arith, c.loop-k-test.true) in
    roll_again c.args.machine c.args.memory.now c.args.top.0 c.args.depth.0 c.load-last.result c.loop-k.memory c.loop-k.k
    c.load-x.result _ c.loop-k-test.true
    (rw c.address_at-in-loop-k.ensures at c.load-x.ensures)
    (rw (c.address_at-in-loop-k-2.ensures, n) at c.store.ensures)
    c.loop-k.invariant

pub returns : goal.returns
returns c = roll_done c.args.machine c.args.memory.now c.args.top.0 c.args.depth.0 c.load-last.result c.loop-k.memory c.loop-k.k _
    c.if-depth-eq0.false (rw c.address_at.ensures at c.load-last.ensures) c.loop-k-test.false c.store-2.ensures c.loop-k.invariant
