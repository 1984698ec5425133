-- What `beetle_list_run` and `beetle_list_resume` leave and answer.
use Rattle.std.specs.Prelude.{Bool, false, List, ℕ, length, get_or}
use Rattle.machine.specs.declared.Table.{Table}
use Rattle.list_proposing.specs.declared.Stand.{Stand}
use Rattle.list_following.specs.Follow.{stand_at, resume_in}
use Rattle.lent_arrays.specs.Lending.{areas_in}
use Rattle.processor_calls.specs.Machines.{Called}
use Rattle.list_telling.specs.Telling.{list_told, judge_lent}

-- SP and RP are the first two of `pointers`, the areas follow
abbrev pub stand_given : ℕ → Bool → List ℕ → Stand
stand_given item ran pointers = stand_at item ran (get_or pointers 0 0) (get_or pointers 1 0)

unfoldable pub resume_call : ℕ → List ℕ → List ℕ → ℕ → List ℕ → Table → ℕ → Bool → List ℕ → ℕ → List ℕ → Called
resume_call order kinds operands base m table item ran pointers items out =
    let s = resume_in (judge_lent (length pointers) (length out)) order (areas_in 2 pointers) table kinds operands base m (stand_given item ran pointers) items in
    record { memory = s.memory; told = list_told pointers out s }

-- from item 0 on
abbrev pub list_call : ℕ → List ℕ → List ℕ → ℕ → List ℕ → Table → List ℕ → ℕ → List ℕ → Called
list_call order kinds operands base m table pointers items out = resume_call order kinds operands base m table 0 false pointers items out
