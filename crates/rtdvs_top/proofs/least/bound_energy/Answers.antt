use Rattle.words.specs.Shown.{shown_least}
use Rattle.statuses.proofs.MappedResults.{mapped-value}
use Rattle.rtdvs_top.specs.Least.{IsLeastOn}
use Rattle.rtdvs_top.proofs.LeastBounds.{is-least}
use Rattle.rtdvs_top.proofs.least.bound_energy.Goals as goal

pub returns-clause-least : goal.returns-clause-least
returns-clause-least c =
    let m = c.args.machine.now in
    let l = shown_least c.args.words.now in
    let e = c.least_energy.ensures in
    mapped-value _ (IsLeastOn m l) c.least_energy.result c.map_err.result c.map_err.ensures.cases
    (is-least m l c.least_energy.result e.answer e.certificate e.least)
