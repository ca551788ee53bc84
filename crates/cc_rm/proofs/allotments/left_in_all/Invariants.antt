use Rattle.cc_rm.proofs.MarkUnits.{IsWalked}
use Rattle.cc_rm.proofs.allotments.left_in_all.Given as goal

abbrev pub invariant-loop-k : goal.invariant-loop-k
invariant-loop-k l = IsWalked l.plan l.view l.units l.k l.rest l.sum
