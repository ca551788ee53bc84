-- What every run of an admitted plan meets under the governor of its pair, by the laws of that governor.
use Rattle.std.proofs.Common.{◌≡◌, ℕ, refl, sym, ◌∙◌, ap, true≢false}
use Rattle.dvs_base.specs.declared.kind.Scheduler.{Scheduler}
use Rattle.dvs_base.specs.declared.kind.Scheduler.TheVariants.{Edf, Rm}
use Rattle.dvs_base.specs.declared.kind.GovernorKind.{GovernorKind}
use Rattle.dvs_base.specs.declared.kind.GovernorKind.TheVariants.{Plain, Fixed, Cycle, Ahead}
use Rattle.dvs_base.specs.declared.kind.Version.{Version}
use Rattle.dvs_base.specs.PlanWords.{is_pair}
use Rattle.demand_list.specs.Demands.{DemandsView}
use Rattle.sched_model.specs.Plan.{Plan}
use Rattle.governor.specs.Meanings.{Serving, OwnDemand, Condition, EntryCondition}
use Rattle.governor.specs.Laws.{GovernorLaws}
use Rattle.governor.specs.Schedule.{PublishingLaws}
use Rattle.governor.proofs.OneSpeedLaws.{pairs_plain, full_laws, pairs_fixed, static_laws}
use Rattle.governor.proofs.Worst.{plain_publishing, fixed_publishing}
use Rattle.cc_edf_laws.proofs.CycleLaws.{cycle_laws}
use Rattle.cc_edf_laws.proofs.EdfCyclePublished.{cycle_publishing}
use Rattle.cc_rm_laws.proofs.CcRmLaws.{cc_rm_laws}
use Rattle.cc_rm_laws.proofs.RmCyclePublished.{cycle_publishing as rm_cycle_publishing}
use Rattle.look_ahead_laws.proofs.AheadLaws.{ahead_laws}
use Rattle.look_ahead_laws.proofs.AheadPublished.{ahead_publishing}
use Rattle.event_kernel.specs.Runs.{Run, run_for}
use Rattle.event_kernel.proofs.MetRuns.{run-met}
use Rattle.rtdvs_top.specs.Run.{HasMet}
use Rattle.rtdvs_top.proofs.Published.{met-published}
use Rattle.rtdvs_top.specs.PlannedRuns.{IsReadyRun}

module _ (v : Version) (p : Plan) (d : DemandsView) (ticks : ℕ) where
  -- the run of the plan for `ticks` ticks
  abbrev whole : Run
  whole = run_for p d ticks

  -- what the run meets under a governor of these meanings, whose laws hold
  met-by : (kind : GovernorKind) (serves : Serving) (demand : OwnDemand) (calm : Condition) (safe : EntryCondition)
      → GovernorLaws kind serves demand calm safe → PublishingLaws kind serves demand → serves p.scheduler
      → IsReadyRun kind whole → HasMet v kind whole
  met-by kind serves demand calm safe laws publishing served ready =
      let met = run-met kind serves demand calm safe laws whole ready.admitted ready.runnable.list ready.worsts served in
      met-published demand kind p d ready.runnable.list ready.worsts (publishing.publishes p ready.admitted served) v ticks
      ready.runnable.low_ticks ready.admitted met

  -- what the run meets under the governor of each pair
  by-pair : (scheduler : Scheduler) (kind : GovernorKind) → p.scheduler ≡ scheduler → IsReadyRun kind whole → HasMet v kind whole
  by-pair scheduler Plain e ready = met-by Plain _ _ _ _ (full_laws pairs_plain) plain_publishing tt ready
  by-pair scheduler Fixed e ready = met-by Fixed _ _ _ _ (static_laws pairs_fixed) fixed_publishing tt ready
  by-pair Edf Cycle e ready = met-by Cycle _ _ _ _ cycle_laws cycle_publishing e ready
  by-pair Rm Cycle e ready = met-by Cycle _ _ _ _ cc_rm_laws rm_cycle_publishing e ready
  by-pair Edf Ahead e ready = met-by Ahead _ _ _ _ ahead_laws ahead_publishing e ready
  by-pair Rm Ahead e ready = absurd (true≢false (sym ready.pair ∙ ap (λ (s : Scheduler). is_pair s Ahead) e))

  -- a run that is ready meets every deadline, and every demand unless it looks ahead
  pub has-met : (kind : GovernorKind) → IsReadyRun kind whole → HasMet v kind whole
  has-met kind ready = by-pair p.scheduler kind refl ready
