use Rattle.std.proofs.Common.{◌≢◌, ℕ, List, length, ap, ◌∙◌, sym, subst}
use Rattle.std.specs.List.{AllByRecursion, AllPairs}
use Rattle.std.proofs.lemmas.List.{length-map}
use Rattle.std.proofs.lemmas.Result.{IfOk-at_ok}
use Rattle.dvs_base.proofs.MappedErrors.{map_err-Ok}
use Rattle.task_model.specs.declared.task.Task.{Task}
use Rattle.replay.specs.Replays.{NamesTask}
use Rattle.replay.proofs.Texts.{names-each, names-distinct}
use Rattle.trace_tests.proofs.replaying.replayed.Goals as goal

pub read_trace-read-requires-clause-distinct : goal.read_trace-read-requires-clause-distinct
read_trace-read-requires-clause-distinct c =
    subst (λ (names : List (List ℕ)). AllPairs (λ a b. a ≢ b) names) (sym c.names.ensures)
    (names-distinct c.args.plan.now.tasks c.scheduler-scheduler.ensures.admitted.limits.tasks)

pub replay-requires-clause-tasks : goal.replay-requires-clause-tasks
replay-requires-clause-tasks c =
    let long = ap length c.names.ensures ∙ length-map c.args.plan.now.tasks (λ (t : Task). t.name) in
    let notes = c.in_ok-trace.trace.notes in
    let made = map_err-Ok c.read_trace-read.result c.map_err.result _ _ c.map_err.ensures.cases c.map_err.ensures.variant c.in_ok-trace.was in
    let trace = IfOk-at_ok _ made c.read_trace-read.ensures.found in
    subst (λ (n : ℕ). AllByRecursion (NamesTask n) notes) long
    (names-each (length c.names.result.now) notes trace.0.0.each)
