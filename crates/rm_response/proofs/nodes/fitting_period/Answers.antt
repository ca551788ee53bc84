use Rattle.rm_response.proofs.RelaxedNodes.{left-none}
use Rattle.rm_response.proofs.nodes.fitting_period.Goals as goal

pub fitting-requires-clause-nodes : goal.fitting-requires-clause-nodes
fitting-requires-clause-nodes c = left-none c.args.supply c.of.result c.of.ensures.nodes
