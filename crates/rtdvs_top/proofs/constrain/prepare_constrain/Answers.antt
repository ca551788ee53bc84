use Rattle.std.proofs.Common.{◌≡◌, ℕ, Bool, true, if◌then◌else◌, List, ◌∷◌, Option, Some, None, Result, refl, sym, subst, rules}
use Rattle.std.specs.Prelude.{slice_index}
use Rattle.dvs_base.specs.Outside.{Files, ShelfView}
use Rattle.dvs_base.specs.declared.kind.Scheduler.TheVariants.{Edf}
use Rattle.task_model.specs.declared.task.Task.{Task}
use Rattle.freq_table.specs.Tables.{Table}
use Rattle.sched_model.specs.Plan.{plan_of}
use Rattle.words.specs.Commands.{ConstrainView, constrain}
use Rattle.words.specs.Shown.{shown_constrain}
use Rattle.statuses.specs.declared.status.Status.{Status}
use Rattle.statuses.specs.declared.status.Status.TheVariants as status
use Rattle.statuses.specs.Steps.{EndsWith, Gives}
use Rattle.command_files.specs.Meanings.{tasks_at, machine_at}
use Rattle.rtdvs_top.specs.Asked.{asked_with}
use Rattle.rtdvs_top.specs.Constrain.{deadlines_at}
use Rattle.rtdvs_top.specs.Promises.{ProvesTests}
use Rattle.rtdvs_top.specs.Prepared.{RefusesBy}
use Rattle.command_files.proofs.GivenLoads.{both-steps, loads-two}
use Rattle.command_files.specs.Files.{named_file, if_named, passes, loads_while, MakesLoads}
use Rattle.command_files.specs.Loads.{loads_after}
use Rattle.statuses.specs.declared.status.FileKind.TheVariants as file
use Rattle.rtdvs_top.proofs.TasksFirst.{of-file-tested, refused-step}
use Rattle.rtdvs_top.proofs.constrain.prepare_constrain.Goals as goal

-- what a refusal proves, from what the files mean
deadlines-tested : (held : Option Files) (r : ConstrainView) (tasks : List Task) (machine : Table) (deadlines : List ℕ)
    (step : Result (List ℕ) Status) (s : Status) → Gives held (tasks_at r.tasks) tasks → Gives held (machine_at r.machine) machine
    → Gives held (deadlines_at tasks r.deadlines) deadlines → EndsWith step s
    → RefusesBy (plan_of tasks machine Edf) (slice_index deadlines) s → ProvesTests (asked_with held (constrain r)) s
deadlines-tested None r tasks machine deadlines step s read m d ends by = tt
deadlines-tested (Some files) r tasks machine deadlines step status.Done read m d ends by = absurd ends
deadlines-tested (Some files) r tasks machine deadlines step (status.NotAdmitted why) read m d ends by =
    (tasks, read, (machine, m, deadlines, d, by))
deadlines-tested (Some files) r tasks machine deadlines step (status.Limit jobs) read m d ends by =
    (tasks, read, (machine, m, deadlines, d, by))
deadlines-tested (Some files) r tasks machine deadlines step s read m d ends by = tt

tasks-passed : (files : Option Files) (r : ConstrainView) (tasks : List Task) → Gives files (tasks_at r.tasks) tasks
    → passes files (constrain r) (named_file file.Tasks r.tasks) ≡ true
tasks-passed None r tasks read = refl
tasks-passed (Some files) r tasks read = rw read refl

-- both loads after the tasks were made
all-made : (files : Option Files) (r : ConstrainView) (tasks : List Task) (m : Table) (old mid new : ShelfView)
    → Gives files (tasks_at r.tasks) tasks → Gives files (machine_at r.machine) m → MakesLoads 1 old mid
    → MakesLoads (loads_while (λ f. true) (if_named file.Deadlines (Some r.deadlines))) mid new
    → MakesLoads (loads_after files (constrain r)) old new
all-made files r tasks m old mid new read machine first later =
    let c = constrain r in
    let fs = named_file file.Machine r.machine ∷ if_named file.Deadlines (Some r.deadlines) in
    subst (λ (b : Bool). MakesLoads (if b then loads_while (passes files c) fs else 0) old new) (sym (tasks-passed files r tasks read))
    (loads-two files c r.machine m file.Deadlines (Some r.deadlines) old mid new machine first later)

pub returns-in_err-deadlines : goal.returns-in_err-deadlines
returns-in_err-deadlines g c files known read =
    let r = shown_constrain c.args.words.now in
    let (m, d) = both-steps c.in_ok-machine.ensures.step c.in_err-deadlines.ensures.step files known in
    refused-step _ c.from_residual-in_err-deadlines.ensures.1
    (record {
      ended = search (rules, m, d, read);
      tested = of-file-tested (asked_with files (constrain r)) _ c.in_err-deadlines.ensures.of_file;
      named = search (rules, m, d, read);
      shown = d.shown;
    })
    (search (rules, m, d, read)) (all-made files r c.args.tasks.now _ _ _ _ read m.read m.loads d.loads) (search (rules, m, d))

pub returns-in_err-lowest_line : goal.returns-in_err-lowest_line
returns-in_err-lowest_line g c files known read =
    let r = shown_constrain c.args.words.now in
    let tasks = c.args.tasks.now in
    let (m, d) = both-steps c.in_ok-machine.ensures.step c.in_ok-deadlines.ensures.step files known in
    let e = c.in_err-lowest_line.ensures in
    refused-step _ c.from_residual-in_err-lowest_line.ensures.1
    (record {
      ended = search (rules, m, d, read);
      tested = deadlines-tested files r tasks c.in_ok-machine.machine c.in_ok-deadlines.deadlines _ _ read
          m.read (search (rules, d)) e.step.refused e.fails;
      named = search (rules, m, d, read);
      shown = e.step.shown;
    })
    (search (rules, m, d, read)) (all-made files r tasks _ _ _ _ read m.read m.loads d.loads) (search (rules, m, d, read))

pub returns : goal.returns
returns g c files known read =
    let r = shown_constrain c.args.words.now in
    let (m, d) = both-steps c.in_ok-machine.ensures.step c.in_ok-deadlines.ensures.step files known in
    record {
      prepared = search (rules, m, d, read);
      refused = tt;
      failed = tt;
      loads = all-made files r c.args.tasks.now _ _ _ _ read m.read m.loads d.loads;
      counts = search (rules, m, d);
    }
