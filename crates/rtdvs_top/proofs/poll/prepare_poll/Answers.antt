use Rattle.std.proofs.Common.{rules}
use Rattle.rtdvs_top.proofs.TasksFirst.{refused-step}
use Rattle.rtdvs_top.proofs.poll.prepare_poll.Goals as goal

pub returns-in_err-served : goal.returns-in_err-served
returns-in_err-served g c files known read =
    let p = c.in_ok-polling.ensures.step files known in
    refused-step _ c.from_residual-in_err-served.ensures.1
    (record {
      ended = search (rules, p, read);
      tested = search (rules, p, read);
      named = search (rules, p, read);
      shown = c.in_err-served.ensures.step.shown;
    })
    (search (rules, p, read)) (search (rules, p, read)) (search (rules, p, read))
