use Rattle.std.proofs.Common.{rules}
use Rattle.words.specs.Commands.{run}
use Rattle.words.specs.Shown.{shown_run}
use Rattle.statuses.specs.declared.status.FileKind.TheVariants as file
use Rattle.command_files.proofs.GivenLoads.{both-steps, loads-two}
use Rattle.rtdvs_top.proofs.planned.load_planned.Goals as goal

pub returns-in_err-demands-clause-step : goal.returns-in_err-demands-clause-step
returns-in_err-demands-clause-step g c files known =
    let r = shown_run c.args.words.now in
    let (first, later) = both-steps c.in_ok-machine.ensures.step c.in_err-demands.ensures.step files known in
    search (rules, first, later, loads-two files (run r) r.machine _ file.Demands r.demands _ _ _ first.read first.loads later.loads)

pub returns-in_err-plan-clause-step : goal.returns-in_err-plan-clause-step
returns-in_err-plan-clause-step g c files known =
    let r = shown_run c.args.words.now in
    let (first, later) = both-steps c.in_ok-machine.ensures.step c.in_ok-demands.ensures.step files known in
    search (rules, first, later, loads-two files (run r) r.machine _ file.Demands r.demands _ _ _ first.read first.loads later.loads)

pub returns-clause-step : goal.returns-clause-step
returns-clause-step g c files known =
    let r = shown_run c.args.words.now in
    let (first, later) = both-steps c.in_ok-machine.ensures.step c.in_ok-demands.ensures.step files known in
    search (rules, first, later, loads-two files (run r) r.machine _ file.Demands r.demands _ _ _ first.read first.loads later.loads)
