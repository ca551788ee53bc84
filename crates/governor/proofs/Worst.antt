-- The published demands of the kinds `Plain` and `Fixed` are functions of only the plan. So the schedule under `static`
-- with every job at its worst case meets every deadline, for each number of ticks.
use Rattle.std.proofs.lemmas.Bool.Decides.{nat_tests}
use Rattle.std.proofs.Common.{◌≡◌, List, [], ◌∷◌, refl, ap, ℕ, ◌-◌, ◌<◌, ◌≤◌, length, arith, ◌∙◌, sym, subst}
use Rattle.dvs_base.specs.declared.kind.Scheduler.{Scheduler}
use Rattle.dvs_base.specs.declared.kind.Scheduler.TheVariants.{Edf, Rm}
use Rattle.dvs_base.specs.declared.kind.GovernorKind.TheVariants.{Plain, Fixed}
use Rattle.grid_fraction.specs.declared.Frac.{Frac}
use Rattle.freq_table.specs.Tables.{lowest_entry}
use Rattle.sched_model.specs.Plan.{Plan, count}
use Rattle.sched_model.specs.Schedule.{entry_in_force, schedule, schedule_by}
use Rattle.sched_model.specs.Jobs.{JobDemands, latest, due, IsWithin, worst_demand}
use Rattle.sched_model.specs.Ticks.{PublishedDemand, Tick, at, exec, IsMet}
use Rattle.sched_model.specs.Demand.{demand_by, published}
use Rattle.sched_model.specs.StaticDemand.{full_demand, static_demand_of, static_demand}
use Rattle.sched_model.specs.Backlog.{lacking}
use Rattle.sched_model.specs.Admission.{IsAdmitted}
use Rattle.sched_model.proofs.Limits.{some_period}
use Rattle.sched_model.proofs.Schedules.{schedule_exists}
use Rattle.sched_model.proofs.JobLaws.{latest-is, release-due, worst_demand-le}
use Rattle.governor.specs.ServedSchedulers.{ServesBoth}
use Rattle.governor.specs.Speeds.{unchanging, fixed_speed}
use Rattle.governor.specs.Schedule.{PublishingLaws, ask_of, course}
use Rattle.governor.proofs.Course.{publishing_laws, course-met, at-schedule}
use Rattle.governor.specs.OneSpeed.{CalmAt, SafeAt}
use Rattle.governor.specs.Worst.{MeetsAtWorst}
use Rattle.governor.proofs.OneSpeedLaws.{pairs_fixed, static_laws}

plain_by : (sch : Scheduler) (p : Plan) (dem : JobDemands) (past : List Tick) → demand_by sch Plain p dem past ≡ full_demand p
plain_by Edf p dem past = refl
plain_by Rm p dem past = refl

fixed_by : (sch : Scheduler) (p : Plan) (dem : JobDemands) (past : List Tick) → demand_by sch Fixed p dem past ≡ static_demand_of sch p
fixed_by Edf p dem past = refl
fixed_by Rm p dem past = refl

pub published-plain : (p : Plan) (dem : JobDemands) (past : List Tick) → published p Plain dem past ≡ full_demand p
unfolding published
published-plain p dem past = plain_by p.scheduler p dem past

pub published-fixed : (p : Plan) (dem : JobDemands) (past : List Tick) → published p Fixed dem past ≡ static_demand p
unfolding published
published-fixed p dem past = fixed_by p.scheduler p dem past

-- if the published demand is always d, the entry in force is always the one for d
pub entry-same : (p : Plan) (dem : JobDemands) (ask : PublishedDemand) (d : Frac) → ((past : List Tick) → ask past ≡ d)
    → (past : List Tick) → entry_in_force p dem ask past ≡ lowest_entry p.machine d
entry-same p dem ask d same [] = ap (lowest_entry p.machine) (same [])
entry-same p dem ask d same (x ∷ past) = grind (arith, nat_tests, entry-same p dem ask d same past)

pub plain_publishing : PublishingLaws Plain ServesBoth (unchanging full_demand)
plain_publishing = grind (arith, nat_tests, published-plain, publishing_laws)

pub fixed_publishing : PublishingLaws Fixed ServesBoth (unchanging static_demand)
fixed_publishing = grind (arith, nat_tests, published-fixed, publishing_laws)

-- the published demand of static is the governor's own, so the schedules are equal
pub published-fixed_by : (p : Plan) (dem : JobDemands) → published p Fixed dem ≡ ask_of (unchanging static_demand) p dem
published-fixed_by p dem = λ j past. published-fixed p dem past j

pub schedule-fixed : (p : Plan) (dem : JobDemands) (t : ℕ) → schedule p Fixed dem t ≡ course (unchanging static_demand) p dem t
schedule-fixed p dem t = ap (λ (ask : PublishedDemand). schedule_by p dem ask t) (published-fixed_by p dem)

pub worst-within : (p : Plan) → IsWithin p (worst_demand p)
worst-within p = record { most = λ i k h. worst_demand-le p i k; none = λ i. refl }

pub worst-met : (p : Plan) → IsAdmitted p → MeetsAtWorst p
worst-met p adm t =
    subst (λ (ticks : List Tick). IsMet p (worst_demand p) ticks) (sym (schedule-fixed p (worst_demand p) t))
    (course-met Fixed ServesBoth (unchanging static_demand) (CalmAt fixed_speed) (SafeAt fixed_speed) (static_laws pairs_fixed) p
    (worst_demand p) adm (worst-within p) tt t)

-- at a tick if a job of task i is due, the job lacks nothing
pub lacking-none : (p : Plan) → IsAdmitted p → (t i k : ℕ) → i < count p → 1 ≤ k → t ≡ due p i k
    → lacking p (schedule p Fixed (worst_demand p) t) i ≡ 0
lacking-none p adm t i k h pos e =
    let dem = worst_demand p in
    let ticks = schedule p Fixed dem t in
    let long : length ticks ≡ t = (schedule_exists p dem (published p Fixed dem) t).1 in
    let span = release-due p i k pos in
    let some = some_period p adm.limits i h in
    let job : latest p i (length ticks - 1) ≡ k =
    latest-is p i k (length ticks - 1) (omega (arith, long, e, span, some)) (omega (arith, long, e, span, some)) in
    let met : exec p (at (due p i k) ticks) i k ≡ dem i k = worst-met p adm t i k h pos (omega (arith, long, e)) in
    let whole : at (due p i k) ticks ≡ ticks = ap (λ n. at n ticks) (sym e) ∙ at-schedule p dem (published p Fixed dem) t t (omega arith) in
    let had : exec p ticks i k ≡ dem i k = ap (λ (ps : List Tick). exec p ps i k) (sym whole) ∙ met in
    ap (λ m. dem i m - exec p ticks i m) job ∙ omega (arith, had)
