use Rattle.std.proofs.Common.{ℕ, Some, subst, sym, ap, ◌∙◌, rules}
use Rattle.std.specs.List.{AllByRecursion}
use Rattle.std.proofs.lemmas.List.{length-map}
use Rattle.task_model.specs.declared.task.Task.{Task}
use Rattle.sched_model.specs.Plan.{count}
use Rattle.replay.specs.Replays.{NamesTask}
use Rattle.replay.proofs.Texts.{names-each}
use Rattle.words.specs.Commands.{traced}
use Rattle.words.specs.Shown.{shown_trace}
use Rattle.statuses.specs.declared.status.FileKind.TheVariants as file
use Rattle.command_files.proofs.GivenLoads.{both-steps, loads-two}
use Rattle.rtdvs_top.proofs.trace.load_traced.Goals as goal

pub returns-in_err-trace-clause-step : goal.returns-in_err-trace-clause-step
returns-in_err-trace-clause-step g c files known =
    let r = shown_trace c.args.words.now in
    let (first, later) = both-steps c.in_ok-machine.ensures.step c.in_err-trace.ensures.step files known in
    search (rules, first, later, loads-two files (traced r) r.machine _ file.Trace (Some r.trace) _ _ _ first.read first.loads later.loads)

pub returns-in_err-plan-clause-step : goal.returns-in_err-plan-clause-step
returns-in_err-plan-clause-step g c files known =
    let r = shown_trace c.args.words.now in
    let (first, later) = both-steps c.in_ok-machine.ensures.step c.in_ok-trace.ensures.step files known in
    search (rules, first, later, loads-two files (traced r) r.machine _ file.Trace (Some r.trace) _ _ _ first.read first.loads later.loads)

pub returns-clause-step : goal.returns-clause-step
returns-clause-step g c files known =
    let r = shown_trace c.args.words.now in
    let (first, later) = both-steps c.in_ok-machine.ensures.step c.in_ok-trace.ensures.step files known in
    search (rules, first, later, loads-two files (traced r) r.machine _ file.Trace (Some r.trace) _ _ _ first.read first.loads later.loads)

pub returns-clause-compared : goal.returns-clause-compared
returns-clause-compared g c = record {
  scheduler = search rules;
  pair = search rules;
  some_ticks = search rules;
  low_ticks = search rules;
  tasks =
      subst (λ (n : ℕ). AllByRecursion (NamesTask n) c.in_ok-trace.trace.notes)
      (length-map c.args.tasks.now (λ (t : Task). t.name) ∙ sym (ap count c.in_ok-plan.ensures.same))
      (names-each _ _ c.in_ok-trace.ensures.trace.each);
  ended = search rules;
}
