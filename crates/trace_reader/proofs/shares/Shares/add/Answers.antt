use Rattle.std.proofs.Common.{◌≡◌, length, rules}
use Rattle.dvs_base.specs.declared.limits.TheConstants.{MOST_TASKS}
use Rattle.trace_reader.proofs.EnergySums.{sums-run}
use Rattle.trace_reader.proofs.shares.Shares.add.Goals as goal

pub returns-in-Run : goal.returns-in-Run
returns-in-Run c = λ notes h.
    let long : length c.args.self.now.sums ≡ MOST_TASKS = search rules in
    rw (c.in-Run.is, c.with_energy.ensures) (sums-run c.args.self.now.sums notes c.in-Run.from c.in-Run.to c.in-Run.task c.in-Run.job
    c.in-Run.units c.in-Run.energy (rw c.in-Run.is at c.requires) long h)
