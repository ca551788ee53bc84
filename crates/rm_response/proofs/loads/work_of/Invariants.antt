use Rattle.std.proofs.Common.{◌≡◌, ◌*◌, ◌^◌, ◌≤◌, take}
use Rattle.rm_response.specs.Loads.{work_of}
use Rattle.rm_response.proofs.loads.work_of.Given as goal

abbrev pub invariant-loop-load : goal.invariant-loop-load
invariant-loop-load l = (l.sum ≡ work_of (take l.load-index l.loads) l.ticks) × (l.sum ≤ l.load-index * 2 ^ 101)
