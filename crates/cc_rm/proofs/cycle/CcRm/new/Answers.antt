use Rattle.governor.proofs.Worst.{worst-met}
use Rattle.cc_rm.proofs.cycle.CcRm.new.Goals as goal

pub returns-clause-worst : goal.returns-clause-worst
returns-clause-worst c = worst-met c.args.plan.now c.scheduler-admitted.ensures.admitted

pub returns-in_err-rests-clause-worst : goal.returns-in_err-rests-clause-worst
returns-in_err-rests-clause-worst c = worst-met c.args.plan.now c.scheduler-admitted.ensures.admitted
