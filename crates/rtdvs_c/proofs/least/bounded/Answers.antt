use Rattle.statuses.proofs.MappedResults.{mapped-value}
use Rattle.energy_bound.specs.Certificates.{IsCertificate}
use Rattle.energy_bound.specs.Schedules.{IsLeast}
use Rattle.rtdvs_c.proofs.least.bounded.Goals as goal

pub returns-clause-certificate : goal.returns-clause-certificate
returns-clause-certificate c =
    let w = c.args.work.now in
    mapped-value _ (IsCertificate c.args.machine.now w.units w.ticks) c.least_energy.result c.map_err.result c.map_err.ensures.cases
    c.least_energy.ensures.certificate

pub returns-clause-least : goal.returns-clause-least
returns-clause-least c =
    let w = c.args.work.now in
    mapped-value _ (IsLeast c.args.machine.now w.units w.ticks) c.least_energy.result c.map_err.result c.map_err.ensures.cases c.least_energy.ensures.least
