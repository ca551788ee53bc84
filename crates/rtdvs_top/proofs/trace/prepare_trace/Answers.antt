use Rattle.std.proofs.Common.{◌≡◌, ℕ, List, Option, Some, None, refl, subst, rules}
use Rattle.dvs_base.specs.Outside.{Files}
use Rattle.task_model.specs.declared.task.Task.{Task}
use Rattle.words.specs.Commands.{TracedView, traced}
use Rattle.words.specs.Shown.{shown_trace}
use Rattle.statuses.specs.Steps.{Gives}
use Rattle.command_files.specs.Meanings.{tasks_at}
use Rattle.command_files.specs.Files.{passes, loads_while, MakesLoads}
use Rattle.command_files.specs.Loads.{files_after, loads_after}
use Rattle.rtdvs_top.proofs.TasksFirst.{refused-step}
use Rattle.rtdvs_top.proofs.trace.prepare_trace.Goals as goal

-- after tasks that were read, the loads go on
all-later : (held : Option Files) (r : TracedView) (tasks : List Task) → Gives held (tasks_at r.tasks) tasks
    → loads_while (passes held (traced r)) (files_after (traced r)) ≡ loads_after held (traced r)
all-later None r tasks read = refl
all-later (Some files) r tasks read = rw read refl

pub returns-in_err-totals : goal.returns-in_err-totals
returns-in_err-totals g c files known read =
    let p = c.in_ok-plan.ensures.step files known in
    refused-step _ c.from_residual-in_err-totals.ensures.1
    (record {
      ended = search (rules, p, read);
      tested = search (rules, p, read);
      named = search (rules, p, read);
      shown = c.in_err-totals.ensures.step.shown;
    })
    (search (rules, p, read)) (search (rules, p, read)) (search (rules, p, read))

pub returns-in-Replay : goal.returns-in-Replay
returns-in-Replay g c files known read =
    let p = c.in_ok-plan.ensures.step files known in
    let old = g.S.Shelf.shows c.args.shelf.now in
    let all = all-later files (shown_trace c.args.words.now) c.args.tasks.now read in
    record {
      prepared = search (rules, p, read);
      refused = tt;
      failed = tt;
      loads = subst (λ (n : ℕ). MakesLoads n old (g.S.Shelf.shows c.load_traced.new.shelf)) all p.loads;
      counts = search (rules, p, read);
    }
