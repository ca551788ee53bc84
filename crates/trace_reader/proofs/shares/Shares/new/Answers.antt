use Rattle.std.proofs.Common.{Some, None}
use Rattle.std.proofs.lemmas.List.{get_or-replicate}
use Rattle.dvs_base.specs.declared.limits.TheConstants.{MOST_TASKS}
use Rattle.trace_reader.proofs.shares.Shares.new.Goals as goal

pub returns : goal.returns
returns c = λ i lt. get_or-replicate MOST_TASKS i (Some 0) None lt
