use Rattle.std.proofs.Common.{List, [], ◌∷◌, ◌++◌}
use Rattle.trace_text.specs.TraceLines.{plan_text}
use Rattle.trace_text.specs.TraceText.{NotedLine, version_line, unnoted_line, for_tasks}
use Rattle.trace_writer.specs.RunText.{task_texts}
use Rattle.trace_writer.specs.declared.write.Head.{Head}
use Rattle.trace_writer.proofs.WrittenLines.{lines-then, lines-then-some, lines-some-more, writes-then, stopped-exit}
use Rattle.trace_writer.proofs.write.put_head.Goals as goal

-- the lines of the version, of the plan and of the tasks
abbrev version : Head → List NotedLine
version h = unnoted_line (version_line h.version) ∷ []

abbrev plan : Head → List NotedLine
plan h = unnoted_line (plan_text h.plan.now.scheduler h.governor h.ticks) ∷ []

abbrev tasks : Head → List NotedLine
tasks h = for_tasks h.version (task_texts h.plan.now)

pub returns-in_err-put_version : goal.returns-in_err-put_version
returns-in_err-put_version g c ps =
    let h = c.args.head in
    stopped-exit c.from_residual.result c.from_residual.ensures.0 (lines-some-more (version h) (plan h ++ tasks h) (c.in_err-put_version.ensures ps))

pub returns-in_err-put_plan : goal.returns-in_err-put_plan
returns-in_err-put_plan g c ps =
    let h = c.args.head in
    stopped-exit c.from_residual-in_err-put_plan.result c.from_residual-in_err-put_plan.ensures.0
    (lines-then-some (version h) (plan h ++ tasks h) (c.in_ok-put_version.ensures ps)
    (lines-some-more (plan h) (tasks h) (c.in_err-put_plan.ensures ps)))

pub returns : goal.returns
returns g c ps =
    let h = c.args.head in
    writes-then _ (version h ++ plan h) (tasks h) c.put_tasks.result
    (lines-then (version h) (plan h) (c.in_ok-put_version.ensures ps) (c.in_ok-put_plan.ensures ps)) (c.put_tasks.ensures ps)
