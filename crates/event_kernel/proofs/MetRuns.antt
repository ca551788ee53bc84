-- The laws of a governor give that each deadline of a run is met, and each demand of a kind whose demand is always met.
use Rattle.std.proofs.Common.{◌≡◌, ℕ, refl, subst}
use Rattle.dvs_base.specs.declared.kind.Scheduler.{Scheduler}
use Rattle.dvs_base.specs.declared.kind.GovernorKind.{GovernorKind}
use Rattle.demand_list.specs.Demands.{IsWithinWorsts}
use Rattle.sched_model.specs.Plan.{Plan}
use Rattle.sched_model.specs.Admission.{IsAdmitted, IsWithinLimits}
use Rattle.sched_model.specs.States.{StateView}
use Rattle.sched_model.specs.Totals.{totals_of}
use Rattle.sched_model.proofs.Schedules.{schedule_exists}
use Rattle.note_laws.specs.LineCounts.{AreFew}
use Rattle.note_laws.proofs.CountLemmas.{has-few}
use Rattle.governor.specs.Meanings.{OwnDemand}
use Rattle.governor.specs.Schedule.{ask_of}
use Rattle.governor.specs.Laws.{GovernorLaws}
use Rattle.governor.proofs.Course.{course-met, demand-met}
use Rattle.event_kernel.specs.Runs.{Run, demands_of, run_ticks, notes_of_run, IsListOf}
use Rattle.event_kernel.specs.MetRun.{IsMetRun}
use Rattle.event_kernel.proofs.ListedDemands.{demand-within}

pub run-met : (kind : GovernorKind) (serves : Scheduler → Type 0) (demand : OwnDemand) (calm : Plan → StateView → Type 0)
    (safe : Plan → StateView → ℕ → Type 0) → GovernorLaws kind serves demand calm safe → (r : Run) → IsAdmitted r.plan → IsListOf r.plan r.demands
    → IsWithinWorsts r.demands → serves r.plan.scheduler → IsMetRun kind demand r
run-met kind serves demand calm safe laws r adm list low served =
    let dem = demands_of r.plan r.demands in
    let within = demand-within r.plan r.demands list low in
    record {
      deadlines = course-met kind serves demand calm safe laws r.plan dem adm within served r.ticks;
      demands = λ other t lt e. demand-met kind serves demand calm safe laws r.plan dem adm within served other t;
    }

pub met-as : {kind : GovernorKind} {demand : OwnDemand} {a b : Run} → a ≡ b → IsMetRun kind demand a → IsMetRun kind demand b
met-as {kind} {demand} is met = subst (λ (r : Run). IsMetRun kind demand r) is met

-- a run has few decisions under any published demand
pub run-few : (demand : OwnDemand) (r : Run) → IsWithinLimits r.plan → AreFew (totals_of (notes_of_run demand r))
run-few demand r limits =
    let dem = demands_of r.plan r.demands in
    has-few r.plan limits dem (λ i. refl) (ask_of demand r.plan dem) (run_ticks demand r)
    (schedule_exists r.plan dem (ask_of demand r.plan dem) r.ticks).0
