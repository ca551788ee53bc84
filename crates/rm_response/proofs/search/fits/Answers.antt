use Rattle.std.proofs.Common.{◌+◌, arith}
use Rattle.rm_response.specs.Loads.{work_of}
use Rattle.rm_response.proofs.LoadFits.{more-within}
use Rattle.rm_response.proofs.search.fits.Goals as goal

pub returns-else-work-most_in-clause-no : goal.returns-else-work-most_in-clause-no
returns-else-work-most_in-clause-no c = λ _.
    more-within c.args.supply (c.args.rest + work_of c.args.loads.now c.args.ticks) c.args.ticks c.args.ticks
    (omega (arith, c.if-work-most_in.false, c.work_of.ensures.value, c.most_in.ensures.value)) (omega arith)
