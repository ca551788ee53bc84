use Rattle.cc_rm.proofs.MarkUnits.{IsHanded}
use Rattle.cc_rm.proofs.counters.allot.Given as goal

abbrev pub invariant-loop-k : goal.invariant-loop-k
invariant-loop-k l = IsHanded l.plan l.view l.units l.k l.rest l.sum l.rests
