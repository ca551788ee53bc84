use Rattle.std.proofs.Common.{◌≡◌, ◌+◌, ◌/◌, ◌%◌, ◌<◌, ℕ, length, arith, ap, ap₂, ◌∙◌, sym, get_or}
use Rattle.std.proofs.lemmas.List.{get_or_default}
use Rattle.task_model.specs.declared.task.Task.{Task}
use Rattle.task_model.specs.Tasks.{no_task, task_at}
use Rattle.task_model.specs.DemandRows.{DemandRow}
use Rattle.demand_list.specs.Demands.{with_row}
use Rattle.workload.specs.Draws.{next_state, draw_of, draw}
use Rattle.workload.specs.Workload.{made_row}
use Rattle.workload.proofs.MadeTasks.{one-draw, made_row-free, made_row-last}
use Rattle.workload.proofs.made.make_demands.Goals as goal

pub add_row-requires-clause-free : goal.add_row-requires-clause-free
add_row-requires-clause-free c =
    rw (c.loop-row.invariant.rows, c.from.ensures) (made_row-free c.args.tasks.now c.args.draws.now.state c.loop-row.row)

abbrev row_of : ℕ → ℕ → ℕ → DemandRow
row_of task job units = record { task = task; job = job; units = units }

pub loop-row-preserved : goal.loop-row-preserved
loop-row-preserved c =
    let x : ℕ = c.args.draws.now.state in
    let r : ℕ = c.loop-row.row in
    let drawn : c.draw.result ≡ draw x r =
    c.draw.ensures.number ∙ ap draw_of (c.draw.ensures.state ∙ ap next_state c.loop-row.invariant.draws) in
    let place : r / 4 < length c.args.tasks.now = omega (arith, c.loop-row-test.true) in
    let found : Task = get_or c.args.tasks.now (r / 4) c.index-tasks-task.result in
    let task : found ≡ task_at c.args.tasks.now (r / 4) =
    get_or_default c.args.tasks.now (r / 4) c.index-tasks-task.result no_task place in
    let row : row_of (r / 4) (c.from.result + 1) (c.draw.result % (found.worst + 1)) ≡ made_row c.args.tasks.now x r =
    ap (λ job. row_of (r / 4) (job + 1) (c.draw.result % (found.worst + 1))) c.from.ensures
    ∙ ap₂ (λ number (t : Task). row_of (r / 4) (r % 4 + 1) (number % (t.worst + 1))) drawn task in
    record {
      draws = c.draw.ensures.state ∙ (ap next_state c.loop-row.invariant.draws ∙ sym (one-draw x r));
      worsts = c.in_ok-add_row.ensures.worsts ∙ c.loop-row.invariant.worsts;
      rows =
          c.in_ok-add_row.ensures.rows
          ∙ (ap₂ with_row c.loop-row.invariant.rows row ∙ made_row-last c.args.tasks.now x r);
    }
