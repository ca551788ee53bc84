use Rattle.std.proofs.Common.{◌∙◌, [], ◌∷◌}
use Rattle.std.specs.Prelude.{codes, decimal}
use Rattle.trace_text.proofs.Lined.{same-line}
use Rattle.trace_reader.proofs.head.is_task_line.Goals as goal

pub returns : goal.returns
returns c =
    c.eq.ensures ∙ same-line c.args.line.now c.as_bytes-bytes.result.now
    (codes "task" ∷ c.args.name.now ∷ decimal c.args.task.period ∷ decimal c.args.task.offset ∷ decimal c.args.task.worst ∷ [])
    (c.as_bytes-bytes.ensures.bytes ∙ c.write_task.ensures)
