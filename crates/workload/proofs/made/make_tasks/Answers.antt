use Rattle.std.proofs.Common.{◌≡◌, ◌*◌, ℕ, [], ◌∷◌, ◌++◌, arith, ap, ap₂, ◌∙◌, sym, rules}
use Rattle.grid_fraction.specs.Numbers.{list_below}
use Rattle.grid_fraction.proofs.Sums.{list_below-more}
use Rattle.workload.specs.Draws.{next_state, draw_of, state_after}
use Rattle.workload.specs.Workload.{task_by, made_task}
use Rattle.workload.proofs.MadeTasks.{two-draws, made_task-drawn}
use Rattle.workload.proofs.made.make_tasks.Goals as goal

pub loop-task-preserved : goal.loop-task-preserved
loop-task-preserved c =
    let x : ℕ = c.args.draws.now.state in
    let n : ℕ = c.args.count in
    let i : ℕ = c.loop-task.task in
    let before : ℕ = c.loop-task.draws.state in
    let task : c.make_task.result ≡ made_task x n i =
    c.make_task.ensures.task
    ∙ (ap (λ s. task_by n i (draw_of (next_state before)) (draw_of s)) c.make_task.ensures.draws
    ∙ (ap (λ s. task_by n i (draw_of (next_state s)) (draw_of (next_state (next_state s)))) c.loop-task.invariant.draws
    ∙ sym (made_task-drawn x n i))) in
    let pushed : c.push.new.self.items ≡ c.loop-task.tasks.items ++ c.make_task.result ∷ [] = search rules in
    record {
      draws =
          c.make_task.ensures.draws
          ∙ (ap (λ s. next_state (next_state s)) c.loop-task.invariant.draws ∙ sym (two-draws x i));
      tasks =
          pushed
          ∙ (ap₂ (λ ts t. ts ++ t ∷ []) c.loop-task.invariant.tasks task ∙ sym (list_below-more i (made_task x n)));
    }

pub returns-clause-draws : goal.returns-clause-draws
returns-clause-draws c =
    let all : c.loop-task.task ≡ c.args.count = omega (arith, c.loop-task-test.false, c.loop-task.auto.task-end) in
    c.loop-task.invariant.draws ∙ ap (λ m. state_after c.args.draws.now.state (2 * m)) all

pub returns-clause-tasks : goal.returns-clause-tasks
returns-clause-tasks c =
    let all : c.loop-task.task ≡ c.args.count = omega (arith, c.loop-task-test.false, c.loop-task.auto.task-end) in
    c.loop-task.invariant.tasks ∙ ap (λ m. list_below m (made_task c.args.draws.now.state c.args.count)) all
