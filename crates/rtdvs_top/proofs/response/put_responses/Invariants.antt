use Rattle.grid_fraction.specs.Numbers.{list_below}
use Rattle.dvs_base.specs.Parts.{joined}
use Rattle.dvs_base.specs.WritesText.{Wrote}
use Rattle.rtdvs_top.specs.Response.{response_text}
use Rattle.rtdvs_top.proofs.response.put_responses.Given as goal

abbrev pub invariant-loop-i : goal.invariant-loop-i
invariant-loop-i g l =
    Wrote (g.W.Sink.shows l.fn.out) (g.W.Sink.shows l.out) (joined (list_below l.i (response_text l.tasks l.response)))
