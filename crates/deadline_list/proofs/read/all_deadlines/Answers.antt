use Rattle.std.proofs.Common.{◌≡◌, ℕ, length, sym, ◌∙◌, ap, subst, arith}
use Rattle.grid_fraction.specs.Numbers.{list_below}
use Rattle.deadline_list.specs.Deadlines.{AreFor}
use Rattle.deadline_list.specs.DeadlineFile.{relative_deadline, all_deadlines}
use Rattle.deadline_list.proofs.GivenDeadlines.{all-for}
use Rattle.deadline_list.proofs.read.all_deadlines.Goals as goal

pub returns-clause-for_tasks : goal.returns-clause-for_tasks
returns-clause-for_tasks c =
    let tasks = c.args.tasks.now in
    let given = c.args.given.now in
    let whole : c.loop-i.i ≡ length tasks =
    omega (arith, c.loop-i-test.false, c.loop-i.auto.i-end, c.count-i-end.ensures.count) in
    let all : c.loop-i.deadlines.items ≡ all_deadlines tasks given =
    c.loop-i.invariant ∙ ap (λ (n : ℕ). list_below n (relative_deadline tasks given)) whole in
    subst (AreFor tasks) (sym all) (all-for tasks c.as_slice-task_limits.ensures.limits given c.requires)
