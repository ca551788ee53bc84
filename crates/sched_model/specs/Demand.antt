-- The published demand of each pair of a scheduler and a governor: a fraction of units per tick, not reduced.
use Rattle.std.specs.Prelude.{◌≢◌}
use Rattle.dvs_base.specs.declared.kind.Scheduler.{Scheduler}
use Rattle.dvs_base.specs.declared.kind.Scheduler.TheVariants.{Edf, Rm}
use Rattle.dvs_base.specs.declared.kind.GovernorKind.{GovernorKind}
use Rattle.dvs_base.specs.declared.kind.GovernorKind.TheVariants.{Plain, Fixed, Cycle, Ahead}
use Rattle.sched_model.specs.Plan.{Plan}
use Rattle.sched_model.specs.Jobs.{JobDemands}
use Rattle.sched_model.specs.Ticks.{PublishedDemand}
use Rattle.sched_model.specs.StaticDemand.{full_demand, edf_static, rm_static}
use Rattle.sched_model.specs.CycleDemand.{edf_cycle, rm_cycle}
use Rattle.sched_model.specs.AheadDemand.{edf_ahead}

-- the published demand of each of the seven pairs; RM with look-ahead isn't a pair, and has that of no governor
abbrev pub demand_by : Scheduler → GovernorKind → Plan → JobDemands → PublishedDemand
demand_by Edf Plain p dem past = full_demand p
demand_by Rm Plain p dem past = full_demand p
demand_by Edf Fixed p dem past = edf_static p
demand_by Rm Fixed p dem past = rm_static p
demand_by Edf Cycle p dem past = edf_cycle p dem past
demand_by Rm Cycle p dem past = rm_cycle p dem past
demand_by Edf Ahead p dem past = edf_ahead p dem past
demand_by Rm Ahead p dem past = full_demand p

-- the published demand under a governor of kind g at the tick after `past`
unfoldable pub published : Plan → GovernorKind → JobDemands → PublishedDemand
published p g dem past = demand_by p.scheduler g p dem past

-- a kind whose published demand some entry meets at each decision: each kind but look-ahead
abbrev pub IsAlwaysMet : GovernorKind → Type 0
IsAlwaysMet kind = kind ≢ Ahead
