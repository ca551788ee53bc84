-- The test of admission, and the answer of `admit`.
use Rattle.std.specs.Prelude.{ℕ, Result, Ok, List, [], ◌∷◌, codes, decimal}
use Rattle.dvs_base.specs.Checks.{◌>>=◌}
use Rattle.dvs_base.specs.Outside.{Files}
use Rattle.trace_text.specs.TraceLines.{scheduler_word, line}
use Rattle.dvs_base.specs.Parts.{fraction_text}
use Rattle.task_model.specs.declared.task.Task.{Task}
use Rattle.freq_table.specs.Tables.{speed_at, lowest_entry}
use Rattle.sched_model.specs.Plan.{Plan, plan_of}
use Rattle.sched_model.specs.StaticDemand.{static_demand}
use Rattle.words.specs.Commands.{AdmitView}
use Rattle.statuses.specs.declared.status.Status.{Status}
use Rattle.command_files.specs.Meanings.{machine_at, tasks_at}
use Rattle.command_files.specs.Admissions.{admission}

-- the line of an admission: the static demand, and the lowest speed that meets it
abbrev pub admitted_text : Plan → List ℕ
admitted_text p =
    let d = static_demand p in
    let speed = speed_at p.machine (lowest_entry p.machine d) in
    line (codes "admitted" ∷ scheduler_word p.scheduler ∷ fraction_text d.num d.den ∷ decimal speed ∷ [])

-- the admitted plan of `admit`, after its tasks were read
abbrev pub admitted_of : AdmitView → List Task → Files → Result Plan Status
admitted_of a tasks files = do
  machine ← machine_at a.machine files
  admission (plan_of tasks machine a.scheduler)

-- the answer of `admit`, after its tasks were read
abbrev pub admit_after_tasks : AdmitView → List Task → Files → Result (List ℕ) Status
admit_after_tasks a tasks files = do
  p ← admitted_of a tasks files
  Ok (admitted_text p)

-- the answer of `admit`
abbrev pub admit_answer : AdmitView → Files → Result (List ℕ) Status
admit_answer a files = do
  tasks ← tasks_at a.tasks files
  admit_after_tasks a tasks files
