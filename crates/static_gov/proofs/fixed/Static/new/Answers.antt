use Rattle.governor.proofs.Worst.{worst-met}
use Rattle.static_gov.proofs.StaticSpeed.{lowest-enough}
use Rattle.static_gov.proofs.fixed.Static.new.Goals as goal

pub returns-clause-worst : goal.returns-clause-worst
returns-clause-worst c = worst-met c.args.plan.now c.scheduler-admitted.ensures.admitted

pub returns-clause-lowest : goal.returns-clause-lowest
returns-clause-lowest c = lowest-enough c.args.plan.now c.scheduler-admitted.ensures.admitted
