use Rattle.std.proofs.Common.{◌≡◌, ◌≤◌, Some, string_bytes, subst}
use Rattle.std.proofs.lemmas.Result.{IfOk-weaker}
use Rattle.toml.specs.Data.{members_depth}
use Rattle.toml.specs.Parse.{parse_document}
use Rattle.toml.specs.View.{table_view}
use Rattle.dvs_base.proofs.MappedErrors.{map_err-IfOk}
use Rattle.task_model.specs.Written.{document}
use Rattle.task_model.proofs.Written.{task_file-written}
use Rattle.task_model.proofs.task.TaskSet.write.Goals as goal

pub returns : goal.returns
returns c =
    let shown : table_view c.in_ok-table.table ≡ document c.args.self.now = rw (← c.as_slice.ensures.tasks) c.in_ok-table.ensures in
    map_err-IfOk c.table_to_string.result c.map_err.result _ _ c.map_err.ensures.cases c.map_err.ensures.variant
    (IfOk-weaker c.table_to_string.result _ _
    (λ text back. task_file-written c.args.self.now text c.as_slice.ensures.limits
    (subst (λ d. members_depth d ≤ 80 → parse_document (string_bytes text) ≡ Some d) shown back))
    c.table_to_string.ensures.reads_back)
