-- What `start`, `cycle` and `run` answer keeps the table.
use Rattle.std.specs.Prelude.{Ok, Err}
use Rattle.cell.specs.Refusals.{Judged}
use mathlib.Core.Path.{◌≡◌, refl}
use mathlib.Core.List.{List}
use mathlib.Core.Logic.{inl}
use Prim.Native.Nat.{ℕ, ◌+◌, ◌≤◌}
use native.Mathlib.Omega.{arith}
use lib.ListN.{length}
use Rattle.cell.specs.Memory.{Alike, store_cell}
use Rattle.cell.proofs.MemoryLaws.{cell_frame, alike_trans}
use Rattle.exceptions.specs.Fixed.{handler_cell, memory_cell, bad_cell, address_cell}
use Rattle.machine.specs.declared.Machine.{Machine}
use Rattle.bounds.specs.Bounds.{judge_bounded, machine_of, first_sp, first_rp}
use Rattle.cycles.specs.Cycles.{cycle_of}
use Rattle.cycles.specs.Counts.{begun, done_of}
use Rattle.processor_start.specs.Starting.{four_cells, start_of}
use Rattle.processor_start.specs.Answers.{start_if, start_answer}
use Rattle.processor.specs.Answers.{machine_in, judge_run, cycle_if, cycle_answer, run_if, run_answer}
use Rattle.area_laws.proofs.Untouched.{next_leaves, cycle_leaves}
use Rattle.table_laws.specs.Keeping.{Keeps, StartKeeps, CycleKeeps, RunKeeps}
use Rattle.table_laws.proofs.Tables.{Starts, push_misses, cycle_misses, keeps, cycles_keep}

-- the four cells that a start sets lie below 10h
four_leave : (machine : Machine) (lo hi : ℕ) (m : List ℕ) (handler : ℕ) → 0x10 ≤ lo → Alike lo hi m (four_cells machine m handler)
four_leave machine lo hi m handler above =
    let order = machine.order in
    let m1 = store_cell order m handler_cell handler in
    let m2 = store_cell order m1 memory_cell (length m) in
    let m3 = store_cell order m2 bad_cell 0xFFFFFFFF in
    alike_trans lo hi m m1 _ (cell_frame lo hi order m handler_cell handler (inl (omega (arith, above))))
    (alike_trans lo hi m1 m2 _ (cell_frame lo hi order m1 memory_cell (length m) (inl (omega (arith, above))))
    (alike_trans lo hi m2 m3 _ (cell_frame lo hi order m2 bad_cell 0xFFFFFFFF (inl (omega (arith, above))))
    (cell_frame lo hi order m3 address_cell 0xFFFFFFFF (inl (omega (arith, above))))))

module _ (machine : Machine) (k : Starts machine.table) where
  start_misses : (m : List ℕ) (ep handler sp rp : ℕ)
      → Alike machine.table.first.0 (machine.table.first.0 + machine.table.bytes) m (start_of machine m ep handler sp rp).memory
  unfolding start_of
  start_misses m ep handler sp rp =
      alike_trans _ _ m (four_cells machine m handler) _ (four_leave machine _ _ m handler k.above)
      (next_leaves machine _ _ k.above (push_misses machine k) (four_cells machine m handler) (record { ep = ep; a = 0; sp = sp; rp = rp }))

pub start_keeps : StartKeeps
unfolding start_answer
start_keeps order areas table m ep handler = go (judge_bounded (length m) order areas table) refl
  where
    go : (j : Judged) → judge_bounded (length m) order areas table ≡ j → Keeps table m (start_if j order areas table m ep handler).memory
    go (Err n) e = λ a lo hi. refl
    go (Ok _) e =
        let machine = machine_of order areas table (length m) in
        keeps (length m) order areas table m _ e
        (λ k. start_misses machine k m ep handler (first_sp (length m) areas) (first_rp (length m) areas))

pub cycle_keeps : CycleKeeps
unfolding cycle_answer
cycle_keeps order table m r = go (judge_bounded (length m) order r.areas table) refl
  where
    go : (j : Judged) → judge_bounded (length m) order r.areas table ≡ j → Keeps table m (cycle_if j order table m r).memory
    go (Err n) e = λ a lo hi. refl
    go (Ok _) e =
        let machine = machine_of order r.areas table (length m) in
        keeps (length m) order r.areas table m (cycle_of machine m r.registers).memory e
        (λ k.
        cycle_leaves machine _ _ k.above (push_misses machine k) m r.registers (cycle_misses machine k m r.registers))

pub run_keeps : RunKeeps
unfolding run_answer
run_keeps g = go (judge_run g) refl
  where
    go : (j : Judged) → judge_run g ≡ j → Keeps g.setting.table g.memory (run_if j g).memory
    go (Err n) e = λ a lo hi. refl
    go (Ok _) e =
        let s = begun g.memory g.registers.registers in
        cycles_keep g.setting.order g.registers.areas g.setting.table (done_of (machine_in g) g.budget s) s e
