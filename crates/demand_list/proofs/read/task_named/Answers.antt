use Rattle.std.proofs.Common.{◌≡◌, true, sym, ap, ◌∙◌}
use Rattle.std.specs.Str.{bytes_eq}
use Rattle.task_model.specs.declared.task.Task.{Task}
use Rattle.task_model.specs.Tasks.{task_at}
use Rattle.demand_list.proofs.Rows.{place_of-named}
use Rattle.demand_list.proofs.read.task_named.Goals as goal

pub returns-then-eq : goal.returns-then-eq
returns-then-eq c =
    let text = c.as_bytes.ensures.bytes ∙ ap (λ (t : Task). t.name) c.task.ensures.task in
    let same : bytes_eq (task_at c.args.tasks.now c.args.before).name c.args.name.now ≡ true = rw (← text) (sym c.eq.ensures ∙ c.if-eq.true) in
    sym (place_of-named c.args.tasks.now c.args.before c.args.name.now c.as_slice-limits.ensures.limits c.requires same)
