use Rattle.dvs_base.proofs.TextPuts.{writes-then}
use Rattle.dvs_base.proofs.put.put_two.Goals as goal

pub returns : goal.returns
returns g c = writes-then _ _ _ c.args.first.now c.args.second.now c.put_line-2.result c.in_ok-put_line.ensures c.put_line-2.ensures
