use Rattle.std.proofs.Common.{◌≡◌, ◌++◌, take, drop, replicate}
use Rattle.dvs_base.specs.declared.limits.TheConstants.{MOST_TASKS}
use Rattle.rtdvs_c.proofs.number_sets.padded.Given as goal

-- the responses so far, and 0 after them
abbrev pub invariant-loop-i : goal.invariant-loop-i
invariant-loop-i l = l.ticks ≡ take l.i l.response ++ drop l.i (replicate MOST_TASKS 0)
