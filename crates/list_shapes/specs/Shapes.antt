-- The stores that a shape of the code stands for, and what is asked of them before they are made. Document 01, The processor: their places are
-- judged in the order in which they are written, and the first bad one is the fault.
use Rattle.std.specs.Prelude.{List, ℕ, eqb, length, Result}
use Rattle.cell.specs.Choice.{if}
use Rattle.cell.specs.Place.{Checked}
use Rattle.cell.specs.declared.Fault.{Fault}
use Rattle.machine.specs.Effects.{Store, Effect, requested, maybe_store, two_stores, two_returns, three_stores, byte_store, rolled_stores}
use Rattle.machine.specs.Commits.{places_of}
use Rattle.machine.specs.declared.Machine.{Machine}
use Rattle.machine.specs.declared.Request.{Request}
use Rattle.instruction.specs.Taking.{Taking, branch, question_branch, call, loop, plus_loop, literal}
use Rattle.list_shapes.specs.declared.Shape.{Shape}
use Rattle.list_shapes.specs.declared.Shape.TheVariants.{One, Two, TwoReturns, Three, Byte, Roll}

-- the stores, in order; ROLL's values are those of the memory m
abbrev pub shape_stores : ℕ → List ℕ → Shape → List Store
shape_stores order m (One s) = maybe_store s
shape_stores order m (Two s) = two_stores s
shape_stores order m (TwoReturns s) = two_returns s
shape_stores order m (Three s) = three_stores s
shape_stores order m (Byte s) = byte_store s
shape_stores order m (Roll s) = rolled_stores order m s

abbrev pub shape_effect : Machine → List ℕ → Request Shape → Effect
shape_effect machine m q = requested (shape_stores machine.order m) q

-- a request with its stores as a shape
abbrev pub shaped : {S : Type 0} → (S → Shape) → Request S → Request Shape
shaped shape q = record { sp = q.sp; rp = q.rp; stores = shape q.stores; then = q.then }

-- what the code of an instruction answers: a request, or the fault of its reading
abbrev pub Asked : Type 0
Asked = Result (Request Shape) Fault

-- the first bad place
abbrev pub shape_fault : Machine → List ℕ → Shape → Checked
shape_fault machine m s = places_of machine (length m) (shape_stores machine.order m s)

-- the instruction of a kind that takes an operand; 52h is the last of them
abbrev pub taking_kind : ℕ → Taking
taking_kind k =
    if (eqb k 0x42) branch
    (if (eqb k 0x44) question_branch (if (eqb k 0x48) call (if (eqb k 0x4C) loop (if (eqb k 0x4E) plus_loop literal))))
