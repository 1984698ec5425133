-- `run` with a budget of the counted cycles.
use Rattle.cell.specs.Refusals.{passed}
use mathlib.Core.Path.{◌≡◌, refl, ap, ◌∙◌}
use mathlib.Core.List.{List}
use Prim.Native.Nat.{ℕ}
use lib.ListN.{length}
use Rattle.throws.specs.Throws.{CycleState}
use Rattle.machine.specs.declared.Machine.{Machine}
use Rattle.machine.specs.declared.Registers.{Registers}
use Rattle.machine.specs.declared.Ended.{Ended}
use Rattle.machine.specs.declared.Ended.TheVariants.{Went, Threw, Stopped}
use Rattle.machine.specs.declared.Table.{Table}
use Rattle.areas.specs.Areas.{filed}
use Rattle.bounds.specs.Bounds.{judge_bounded, machine_of}
use Rattle.areas.specs.declared.Areas.{Areas}
use Rattle.areas.specs.declared.RegisterFile.{RegisterFile}
use Rattle.cycles.specs.Cycles.{cycles_of}
use Rattle.cycles.specs.Counts.{begun}
use Rattle.processor.specs.Answers.{ran_as, ran_to, run_answer}
use Rattle.list_machine.specs.Runs.{Run, run_of, beginning}
use Rattle.demand3.specs.Demand3.{Stop, stop_of, first_registers, Agree, ran_with, RunAgrees, RunFollows}
use Rattle.demand3.proofs.Simulation.{demand3}

ran_as_lem : (areas : Areas) (r : Registers) (n : ℕ) (e : Ended) → ran_as areas r n e ≡ ran_with (stop_of e) (filed areas r) n
ran_as_lem areas r n Went = refl
ran_as_lem areas r n (Threw f) = refl
ran_as_lem areas r n (Stopped x) = refl

budgeted : (order : ℕ) (areas : Areas) (table : Table) (base : ℕ) (m : List ℕ) (sp rp : ℕ) (r : Run) → judge_bounded (length m) order areas table ≡ passed
    → Agree (machine_of order areas table (length m)) (begun m (first_registers (machine_of order areas table (length m)) base m sp rp)) r
    → RunAgrees order areas table base m sp rp r
unfolding run_answer
budgeted order areas table base m sp rp r q a =
    record {
      registers = t.result.registers;
      answer =
          rw (q, a.exact)
          (ap (λ (x : List ℕ). ran_to given r.cycles x (ran_as areas t.result.registers r.cycles t.result.ended)) a.memory
          ∙ ap (ran_to given r.cycles r.position.memory)
          (ran_as_lem areas t.result.registers r.cycles t.result.ended
          ∙ ap (λ (x : Stop). ran_with x (filed areas t.result.registers) r.cycles) a.stop));
      sp_is = a.sp;
      rp_is = a.rp;
    }
  where
    machine : Machine
    machine = machine_of order areas table (length m)

    given : RegisterFile
    given = filed areas (first_registers machine base m sp rp)

    t : CycleState
    t = cycles_of machine r.cycles (begun m given.registers)

pub run_follows : RunFollows
run_follows order areas table base l m sp rp k q ok holds =
    let machine : Machine = machine_of order areas table (length m) in
    budgeted order areas table base m sp rp (run_of machine base l k (beginning l m sp rp)) q (demand3 machine base l m sp rp k ok holds)
