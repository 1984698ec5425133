-- `shape_of` meets its contract: by the class of the kind.
use mathlib.Core.Path.{refl, sym, ap, ◌∙◌}
use Rattle.pack_layout.specs.Listing.{listed}
use Rattle.pack_layout.proofs.Listing.{is_kind_lem}
use Rattle.list_tables.specs.declared.ItemRow.{ItemRow}
use Rattle.list_proposing.proofs.ProposeLaws.{asks_plain, asks_literal, asks_branch}
use Rattle.list_proposing.proofs.proposing.shape_of.Goals as goal

pub returns-in-Plain : goal.returns-in-Plain
returns-in-Plain c = asks_plain c.args.kinds.now c.args.operands.now c.args.table.now c.args.image c.requires.settled c.args.machine c.args.memory.now c.args.s c.requires.item_in_bounds
    c.propose_from_01.result c.registers_at.result c.registers_at.ensures
    (sym c.class_of.ensures ∙ c.in-Plain.is) c.propose_from_01.ensures

pub returns-in-Literal : goal.returns-in-Literal
returns-in-Literal c = asks_literal c.args.kinds.now c.args.operands.now c.args.table.now c.args.image c.requires.settled c.args.machine c.args.memory.now c.args.s c.requires.item_in_bounds
    c.propose_taking.result c.registers_for-r.result c.address_at.result _ c.row_of.result.behind
    c.registers_for-r.ensures c.address_at.ensures (ap (λ (r : ItemRow). r.behind) c.row_of.ensures) c.propose_taking.ensures
    (sym c.class_of.ensures ∙ c.in-Literal.is) refl

pub returns-in-Branch : goal.returns-in-Branch
returns-in-Branch c = asks_branch c.args.kinds.now c.args.operands.now c.args.table.now c.args.image c.requires.settled c.args.machine c.args.memory.now c.args.s c.requires.item_in_bounds
    c.propose_taking-in-Branch.result c.registers_for-r-in-Branch.result c.address_at-in-Branch.result _ c.row_of.result.behind
    c.registers_for-r-in-Branch.ensures c.address_at-in-Branch.ensures (ap (λ (r : ItemRow). r.behind) c.row_of.ensures) c.propose_taking-in-Branch.ensures
    (sym c.class_of.ensures ∙ c.in-Branch.is)
    c.row_of-in-Branch.result.at c.distance_of-to.ensures
    (ap (λ (r : ItemRow). r.at) c.row_of-in-Branch.ensures)

pub returns-in-NoKind : goal.returns-in-NoKind
returns-in-NoKind c = absurd (is_kind_lem (listed
    c.args.kinds.now c.args.operands.now) c.requires.settled.checked.input c.args.s.item.0 c.requires.item_in_bounds (sym
    c.class_of.ensures ∙ c.in-NoKind.is))
