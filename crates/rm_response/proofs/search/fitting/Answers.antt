use Rattle.rm_response.proofs.Searches.{all-searched}
use Rattle.rm_response.proofs.search.fitting.Goals as goal

pub fitting_by-requires-clause-loads : goal.fitting_by-requires-clause-loads
fitting_by-requires-clause-loads c =
    all-searched c.by.result c.args.supply c.args.left.loads.now c.by.ensures.whole c.by.ensures.low c.requires.loads
