use Rattle.std.proofs.Common.{ap, rules}
use Rattle.dvs_base.specs.declared.kind.GovernorKind.{GovernorKind}
use Rattle.trace_writer.proofs.WrittenLines.{lines-as, writes-sure, writes-later, writes-rose}
use Rattle.event_kernel.specs.Runs.{lines_of_run}
use Rattle.event_kernel.proofs.MetRuns.{met-as}
use Rattle.event_kernel.proofs.RunLines.{run-lines}
use Rattle.event_kernel.proofs.kernel.Kernel.run.Goals as goal

pub returns-clause-wrote : goal.returns-clause-wrote
returns-clause-wrote g c =
    let written = c.lines_into.ensures.writes in
    lines-as _ _ c.lines_into.result (ap (λ (k : GovernorKind). lines_of_run c.args.version k g.G.Governor.demand c.args.self) c.kind.ensures)
    (search (rules, written))

pub returns-clause-sure : goal.returns-clause-sure
returns-clause-sure g c fits = writes-sure _ _ _ c.lines_into.result (returns-clause-wrote g c) fits

pub returns-clause-never_falls : goal.returns-clause-never_falls
returns-clause-never_falls g c = writes-later _ _ _ c.lines_into.result (returns-clause-wrote g c)

pub returns-clause-rose : goal.returns-clause-rose
returns-clause-rose g c = writes-rose _ _ _ c.lines_into.result (returns-clause-wrote g c)

pub returns-clause-lines : goal.returns-clause-lines
returns-clause-lines g c =
    run-lines g.G.Governor.demand c.args.self c.args.version g.G.Governor.the_kind c.self.view_is c.self.inside.set.sound.limits

pub returns-clause-deadlines : goal.returns-clause-deadlines
returns-clause-deadlines g c = (met-as c.self.view_is (c.self.invariant.met c.self.inside.set.ticks)).deadlines

pub returns-clause-demands : goal.returns-clause-demands
returns-clause-demands g c = (met-as c.self.view_is (c.self.invariant.met c.self.inside.set.ticks)).demands
