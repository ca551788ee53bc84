use Rattle.std.proofs.Common.{◌∙◌, ap}
use Rattle.energy_bound.proofs.Corners.{corner-idle, corner-full}
use Rattle.energy_bound.proofs.corner.nth_corner.Goals as goal
use Rattle.energy_bound.proofs.corner.nth_corner.Goals.{then-k-eq0, else-k-eq0}

pub returns-clause-cost : goal.returns-clause-cost
returns-clause-cost c =
    let m = c.args.machine.now in
    elim c.if-k-eq0.branch [
      | then-k-eq0 w ↦ ap (λ r. r.1.0) w.result-is
          ∙ corner-idle m c.args.k w.point.result w.energy_of.result w.if-k-eq0.true w.point.ensures
          w.energy_of.ensures.value
      | else-k-eq0 w ↦ ap (λ r. r.1.0) w.result-is
          ∙ corner-full m c.args.k w.point-units.result w.energy_of-else-k-eq0.result w.if-k-eq0.false
          w.point-units.ensures w.energy_of-else-k-eq0.ensures.value
    ]
