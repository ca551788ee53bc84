use Rattle.std.proofs.Common.{◌∙◌, ap}
use Rattle.std.proofs.lemmas.Result.{IfOk-at_ok}
use Rattle.toml.specs.View.{view, members_view}
use Rattle.task_model.specs.Written.{put_member}
use Rattle.task_model.proofs.Written.{members_view-insert_entry}
use Rattle.task_model.proofs.write.put.Goals as goal

pub returns : goal.returns
returns c =
    ap members_view (IfOk-at_ok _ c.in_ok-insert.was c.insert.ensures.entries)
    ∙ members_view-insert_entry c.args.table.now.entries c.in_ok-kept.kept c.args.value
    ∙ ap (λ k. put_member k (view c.args.value) (members_view c.args.table.now.entries)) (IfOk-at_ok _ c.in_ok-kept.was c.from_str.ensures.ok)
