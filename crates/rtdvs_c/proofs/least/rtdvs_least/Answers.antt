use Rattle.std.proofs.Common.{[]}
use Rattle.rtdvs_c.specs.NumberReplies.{numbers_of}
use Rattle.rtdvs_c.proofs.NumberSteps.{least_as_files}
use Rattle.rtdvs_c.proofs.least.rtdvs_least.Goals as goal

pub returns-then-work-lt1-clause-same : goal.returns-then-work-lt1-clause-same
returns-then-work-lt1-clause-same c = least_as_files (numbers_of [] c.args.points.now c.args.settings.now) c.args.work.now

pub returns-in-Ok-clause-same : goal.returns-in-Ok-clause-same
returns-in-Ok-clause-same c = least_as_files (numbers_of [] c.args.points.now c.args.settings.now) c.args.work.now

pub returns-in-Err-clause-same : goal.returns-in-Err-clause-same
returns-in-Err-clause-same c = least_as_files (numbers_of [] c.args.points.now c.args.settings.now) c.args.work.now
