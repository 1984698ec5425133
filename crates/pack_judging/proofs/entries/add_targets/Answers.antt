-- `pack_judging::entries::add_targets` meets its contract: the array holds the targets of the items passed.
use Rattle.pack_layout.specs.Listing.{listed, entry}
use native.Mathlib.Omega.{arith}
use mathlib.Core.Path.{◌≡◌, refl, sym, ◌∙◌}
use lib.ListN.{length}
use Rattle.pack_judging.proofs.Passes.{target_inside, targets_more, targets_same, entry_alone}
use Rattle.pack_judging.proofs.entries.add_targets.Goals.{then-is_branch, else-is_branch}
use Rattle.pack_judging.proofs.entries.add_targets.Goals as goal

pub loop-j-preserved : goal.loop-j-preserved
loop-j-preserved c = elim c.if-is_branch.branch [
  | then-is_branch w ↦
      let l = listed c.args.kinds.now c.args.operands.now in
      let q = sym c.is_branch.ensures ∙ w.if-is_branch.true in
      record {
        entered = rw w.placed-is (targets_more l c.loop-j.j c.loop-j.placed (length c.args.kinds.now) _ q (omega (arith, target_inside _ _ _ c.requires.checked c.loop-j-test.true q)) refl c.loop-j.invariant.entered);
        rest = rw w.placed-is (entry_alone _ c.loop-j.placed (l.operand c.loop-j.j) _ (omega (arith, target_inside _ _ _ c.requires.checked c.loop-j-test.true q)) refl c.loop-j.invariant.rest);
      }
  | else-is_branch w ↦
      record {
        entered = rw w.placed-is (targets_same (listed c.args.kinds.now c.args.operands.now) c.loop-j.j c.loop-j.placed (length c.args.kinds.now) (sym c.is_branch.ensures ∙ w.if-is_branch.false) c.loop-j.invariant.entered);
        rest = rw w.placed-is c.loop-j.invariant.rest;
      }
]

pub returns : goal.returns
unfolding entry
returns c = record {
  entered = rw (let e : c.loop-j.j ≡ length c.args.kinds.now = omega arith in e) at c.loop-j.invariant.entered;
  rest = c.loop-j.invariant.rest;
}
