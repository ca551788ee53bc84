-- The answer of the test under RM, as a status.
use Rattle.std.proofs.Common.{◌≡◌, Result, Ok, Err, refl, sym, ap}
use Rattle.std.specs.Prelude.{IfOk, OnOk, IfErr}
use Rattle.sched_model.specs.Plan.{Plan}
use Rattle.sched_model.specs.Tests.{IsRmFeasible}
use Rattle.rm_admit.specs.Denials.{IsRmDenial}
use Rattle.rm_admit.specs.declared.RmFault.{RmFault}
use Rattle.rm_admit.specs.declared.RmFault.TheVariants as rm_fault
use Rattle.statuses.specs.Steps.{IsTestStep}
use Rattle.statuses.specs.Refused.{or_status}
use Rattle.command_files.specs.Admissions.{admission_from, first_overloaded, rm_status}
use Rattle.command_files.proofs.Overloads.{overloaded-first, overloaded-none}

pub rm-answers : (p : Plan) (r : Result Plan RmFault) → IfOk r (λ q. q ≡ p) → OnOk r (IsRmFeasible p)
    → IfErr r (IsRmDenial p) → IsTestStep (admission_from p (first_overloaded p)) (or_status rm_status r) (λ q. q)
rm-answers p (Ok q) plan test denial =
    record { gives = rw (overloaded-none p test) (ap Ok (sym plan)); refused = tt; loads = tt; shown = tt }
rm-answers p (Err (rm_fault.Denied i num cap)) plan test denial = record {
  gives = tt;
  refused = rw (overloaded-first p i denial.0) (rw (denial.1, denial.2) refl);
  loads = tt;
  shown = rw (denial.1, denial.2) denial.0.fails;
}
rm-answers p (Err rm_fault.NoMemory) plan test denial = record { gives = tt; refused = tt; loads = tt; shown = tt }
