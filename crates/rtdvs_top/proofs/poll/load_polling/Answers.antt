use Rattle.std.proofs.Common.{Some, rules}
use Rattle.words.specs.Commands.{poll}
use Rattle.words.specs.Shown.{shown_poll}
use Rattle.statuses.specs.declared.status.FileKind.TheVariants as file
use Rattle.command_files.proofs.GivenLoads.{both-steps, loads-two}
use Rattle.rtdvs_top.proofs.poll.load_polling.Goals as goal

pub returns-in_err-requests-clause-step : goal.returns-in_err-requests-clause-step
returns-in_err-requests-clause-step g c files known =
    let r = shown_poll c.args.words.now in
    let (first, later) = both-steps c.in_ok-machine.ensures.step c.in_err-requests.ensures files known in
    search (rules, first, later, loads-two files (poll r) r.machine _ file.Requests (Some r.requests) _ _ _ first.read first.loads later.loads)

pub returns-in_err-plan-clause-step : goal.returns-in_err-plan-clause-step
returns-in_err-plan-clause-step g c files known =
    let r = shown_poll c.args.words.now in
    let (first, later) = both-steps c.in_ok-machine.ensures.step c.in_ok-requests.ensures files known in
    search (rules, first, later, loads-two files (poll r) r.machine _ file.Requests (Some r.requests) _ _ _ first.read first.loads later.loads)

pub returns-clause-step : goal.returns-clause-step
returns-clause-step g c files known =
    let r = shown_poll c.args.words.now in
    let (first, later) = both-steps c.in_ok-machine.ensures.step c.in_ok-requests.ensures files known in
    search (rules, first, later, loads-two files (poll r) r.machine _ file.Requests (Some r.requests) _ _ _ first.read first.loads later.loads)
