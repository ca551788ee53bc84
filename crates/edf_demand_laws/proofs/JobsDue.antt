-- The number of jobs of a task with absolute deadlines up to d.
use Rattle.std.proofs.Common.{ℕ, ◌+◌, ◌-◌, ◌*◌, ◌<◌, ◌≤◌, arith, div-mul-le_self, mul-le-mul_right, le-leb, leb-true}
use Rattle.std.proofs.lemmas.Nat.{le-div}
use Rattle.edf_demand_laws.specs.ProcessorDemand.{jobs_due}

-- job q + 1 is among the jobs due by d exactly if its absolute deadline is at most d
pub jobs_due-above : (every within d q : ℕ) → 0 < every → within + q * every ≤ d → q < jobs_due every within d
jobs_due-above every within d q some le =
    rw (le-leb within d (omega arith)) (omega (arith, le-div q (d - within) every some (omega arith)))

pub jobs_due-below : (every within d q : ℕ) → q < jobs_due every within d → within + q * every ≤ d
jobs_due-below every within d q lt = grind (arith, leb-true, mul-le-mul_right, div-mul-le_self (d - within) every)

-- if each job due by d is one of the first q, their number is at most q
pub jobs_due-most : (every within d q : ℕ) → ((r : ℕ) → within + r * every ≤ d → r < q) → jobs_due every within d ≤ q
jobs_due-most every within d q h = grind (arith, jobs_due-below every within d)
