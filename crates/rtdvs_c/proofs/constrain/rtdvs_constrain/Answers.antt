use Rattle.rtdvs_c.specs.NumberReplies.{numbers_of}
use Rattle.rtdvs_c.proofs.DeadlineSteps.{constrains_as_files}
use Rattle.rtdvs_c.proofs.constrain.rtdvs_constrain.Goals as goal

pub returns-in-Err-clause-same : goal.returns-in-Err-clause-same
returns-in-Err-clause-same c = constrains_as_files (numbers_of c.args.tasks.now c.args.points.now c.args.settings.now)
