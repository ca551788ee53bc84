-- The laws of a governor along its schedule: every deadline is met, and each demand but that of look-ahead. If its
-- demand is the published one of its kind, that is the schedule of the kind.
use Rattle.std.proofs.lemmas.Bool.Decides.{nat_tests}
use Rattle.std.proofs.Common.{◌≡◌, ℕ, zero, suc, ◌-◌, ◌<◌, ◌≤◌, Bool, true, false, List, [], ◌∷◌, length, drop, refl, arith, ap, ◌∙◌, sym, subst, true≢false, ◌⊎◌, inl, inr, eq-or-lt_of_le}
use Rattle.std.proofs.lemmas.Bool.{or_parts}
use Rattle.dvs_base.specs.declared.kind.GovernorKind.{GovernorKind}
use Rattle.freq_table.specs.Tables.{lowest_pick, speed_at}
use Rattle.sched_model.specs.Demand.{IsAlwaysMet}
use Rattle.sched_model.specs.declared.state.Row.{Row}
use Rattle.sched_model.specs.Plan.{Plan, count}
use Rattle.sched_model.specs.Jobs.{IsWithin, JobDemands, latest, due, is_release}
use Rattle.sched_model.specs.Admission.{IsAdmitted, IsWithinLimits}
use Rattle.sched_model.specs.Ticks.{PublishedDemand, IsMet, Tick, at, exec}
use Rattle.sched_model.specs.Decision.{is_decision}
use Rattle.sched_model.specs.Schedule.{entry_in_force, next_tick, schedule_by, IsNext}
use Rattle.sched_model.specs.States.{StateView, row_at, prior_state, state_of}
use Rattle.sched_model.proofs.Limits.{every_period}
use Rattle.sched_model.proofs.Schedules.{next_tick-may, schedule_exists, schedule-none, schedule-suc, force-decided, force-within, share-legal}
use Rattle.sched_model.proofs.JobLaws.{latest-is, release-due}
use Rattle.sched_model.proofs.States.{row_at-prior_state, state-still}
use Rattle.sched_model.proofs.AgreedDemands.{same-schedule}
use Rattle.governor.specs.Meanings.{Serving, OwnDemand, Condition, EntryCondition}
use Rattle.governor.specs.Steps.{after_tick, IsAtDecision, IsLegalIn, Belongs}
use Rattle.governor.specs.Laws.{GovernorLaws, InRun}
use Rattle.governor.specs.Schedule.{ask_of, course, Publishes, HasScheduleOf, PublishingLaws}
use Rattle.governor.proofs.Joins.{boundary-is, tick-is, legal-is}
use Rattle.governor.proofs.StatesOfDemands.{belongs_opening, belongs_boundary, belongs_tick, decision_boundary}

-- the past at tick r of a schedule is the schedule of r ticks
pub at-schedule : (p : Plan) (dem : JobDemands) (ask : PublishedDemand) (t r : ℕ) → r ≤ t
    → at r (schedule_by p dem ask t) ≡ schedule_by p dem ask r
at-schedule p dem ask t r le = ap (λ n. drop (n - r) (schedule_by p dem ask t)) (schedule_exists p dem ask t).1 ∙ go t le
  where
    go : (t : ℕ) → r ≤ t → drop (t - r) (schedule_by p dem ask t) ≡ schedule_by p dem ask r
    go zero le = let z : zero ≡ r = omega arith in subst (λ m. drop (zero - m) (schedule_by p dem ask zero) ≡ schedule_by p dem ask m) z refl
    go (suc t) le = cases (eq-or-lt_of_le le) (go t)
      where
        cases : (r ≡ suc t) ⊎ (r < suc t) → (r ≤ t → drop (t - r) (schedule_by p dem ask t) ≡ schedule_by p dem ask r)
            → drop (suc t - r) (schedule_by p dem ask (suc t)) ≡ schedule_by p dem ask r
        cases (inl q) ih = let z : suc t - r ≡ 0 = omega (arith, q) in ap (λ n. drop n (schedule_by p dem ask (suc t))) z ∙ ap (schedule_by p dem ask) (sym q)
        cases (inr l) ih =
            let z : suc t - r ≡ suc (t - r) = omega (arith, l) in
            ap (λ n. drop n (schedule_by p dem ask (suc t))) z
            ∙ (ap (drop (suc (t - r))) (schedule-suc p dem ask t)
            ∙ ih (omega arith))

-- if the row of a job that is due is complete, the job has had its demand
pub due-had : (p : Plan) → IsWithinLimits p → (dem : JobDemands) (past : List Tick) → Belongs p dem (prior_state p dem past)
    → (i k : ℕ) → i < count p → 1 ≤ k → due p i k ≡ length past
    → ((row_at (prior_state p dem past) i).deadline ≡ length past → (row_at (prior_state p dem past) i).done ≡ true)
    → exec p past i k ≡ dem i k
due-had p lim dem [] bel i k lt pos e closes = absurd (omega (arith, e, release-due p i k pos, every_period p lim i))
due-had p lim dem (x ∷ past) bel i k lt pos e closes =
    let job : latest p i (length past) ≡ k =
    latest-is p i k (length past) (omega (arith, e, release-due p i k pos, every_period p lim i)) (omega (arith, e)) in
    let row = row_at-prior_state p dem (x ∷ past) i lt in
    let done = closes (ap (λ (r : Row). r.deadline) row ∙ (ap (due p i) job ∙ e)) in
    let P : Row → Type 0 = λ (r : Row). r.done ≡ true → 0 < r.job → r.used ≡ dem i r.job in
    let had : exec p (x ∷ past) i (latest p i (length past)) ≡ dem i (latest p i (length past)) =
    subst P row (bel.closed_job i lt) (sym (ap (λ (r : Row). r.done) row) ∙ done) (omega (arith, job, pos)) in
    ap (exec p (x ∷ past) i) (sym job) ∙ (had ∙ ap (dem i) job)

module _ (kind : GovernorKind) (serves : Serving) (demand : OwnDemand) (calm : Condition) (safe : EntryCondition)
    (laws : GovernorLaws kind serves demand calm safe) (p : Plan) (dem : JobDemands) (adm : IsAdmitted p) (within : IsWithin p dem)
    (served : serves p.scheduler) where
  in_run : {s : StateView} → Belongs p dem s → InRun serves p dem s
  in_run bel = record { admitted = adm; served = served; belongs = bel }

  abbrev pub ask : PublishedDemand
  ask = ask_of demand p dem

  abbrev pub entry_at : List Tick → ℕ
  entry_at past = entry_in_force p dem ask past

  abbrev pub speed_now : List Tick → ℕ
  speed_now past = speed_at p.machine (entry_at past)

  -- what holds before the releases of the tick after `past`: the state belongs to the demands and is calm,
  -- and it is safe if the tick isn't a decision
  pub record Kept (past : List Tick) : Type 0 where
    pub belongs : Belongs p dem (prior_state p dem past)
    pub is_calm : calm p (prior_state p dem past)
    pub is_safe : is_decision p dem past ≡ false → safe p (prior_state p dem past) (entry_at past)

  -- the state after the releases belongs to the demands
  pub belongs-state : (past : List Tick) → Kept past → Belongs p dem (state_of p dem past)
  belongs-state past k =
      subst (Belongs p dem) (boundary-is p dem (every_period p adm.limits) within.none past) (belongs_boundary p dem (prior_state p dem past) k.belongs)

  pub calm-state : (past : List Tick) → Kept past → calm p (state_of p dem past)
  calm-state past k =
      subst (calm p) (boundary-is p dem (every_period p adm.limits) within.none past)
      (laws.releases p dem (prior_state p dem past) (in_run k.belongs) k.is_calm)

  pub decides-state : (past : List Tick) → Kept past → IsAtDecision p (state_of p dem past)
  decides-state past k =
      subst (IsAtDecision p) (boundary-is p dem (every_period p adm.limits) within.none past)
      (decision_boundary p dem (prior_state p dem past) adm.limits k.belongs)

  no-release : (past : List Tick) → is_decision p dem past ≡ false → is_release p (length past) ≡ false
  no-release [] e = absurd (true≢false e)
  no-release (x ∷ past) e = (or_parts (is_release p (length (x ∷ past))) _ e).0

  safe-state : (past : List Tick) → Kept past → safe p (state_of p dem past) (entry_at past)
  safe-state past k = go (is_decision p dem past) refl
    where
      go : (d : Bool) → is_decision p dem past ≡ d → safe p (state_of p dem past) (entry_at past)
      go true e =
          subst (safe p (state_of p dem past)) (sym (force-decided p dem ask past e))
          (laws.chooses p dem (state_of p dem past) (in_run (belongs-state past k)) (decides-state past k) (calm-state past k))
      go false e =
          subst (λ s. safe p s (entry_at past)) (state-still p dem (every_period p adm.limits) past within.none (no-release past e))
          (k.is_safe e)

  abbrev tick : List Tick → Tick
  tick past = next_tick p dem ask past

  ticked : (past : List Tick) → after_tick dem (tick past).shares (state_of p dem past) ≡ prior_state p dem (tick past ∷ past)
  ticked past =
      tick-is p dem (every_period p adm.limits) within.none (tick past) past
      (share-legal p dem past (speed_now past) (tick past) (next_tick-may p dem ask past).legal)

  legal : (past : List Tick) → IsLegalIn p dem (speed_now past) (state_of p dem past) (tick past).shares
  legal past =
      let may : IsNext p dem ask past (tick past) = next_tick-may p dem ask past in
      legal-is p dem (every_period p adm.limits) within.none (tick past) past (speed_now past) may.one_share_each may.legal

  safe-next : (past : List Tick) → Kept past → safe p (prior_state p dem (tick past ∷ past)) (entry_at past)
  safe-next past k =
      subst (λ s. safe p s (entry_at past)) (ticked past)
      (laws.ticks p dem (state_of p dem past) (in_run (belongs-state past k)) (entry_at past) (safe-state past k) (tick past).shares (record {
        before = (decides-state past k).before;
        entry = force-within p dem ask adm.limits.machine.some past;
        legal = legal past;
      }))

  belongs-next : (past : List Tick) → Kept past → Belongs p dem (prior_state p dem (tick past ∷ past))
  belongs-next past k =
      subst (Belongs p dem) (ticked past)
      (belongs_tick p dem (speed_now past) (state_of p dem past) (tick past).shares (belongs-state past k) (decides-state past k).before (legal past))

  kept-next : (past : List Tick) → Kept past → Kept (tick past ∷ past)
  kept-next past k = grind (arith, nat_tests, belongs-next past k, in_run, safe-next past k)

  kept-none : Kept []
  kept-none = grind (arith, nat_tests, belongs_opening)

  -- at each tick of the governor's schedule the state belongs and is calm, and is safe if it isn't a decision
  pub kept : (t : ℕ) → Kept (course demand p dem t)
  kept zero = subst Kept (sym (schedule-none p dem ask)) kept-none
  kept (suc t) = subst Kept (sym (schedule-suc p dem ask t)) (kept-next (course demand p dem t) (kept t))

  -- every deadline of the governor's schedule is met
  pub course-met : (t : ℕ) → IsMet p dem (course demand p dem t)
  course-met t i k lt pos le =
      let long = (schedule_exists p dem ask t).1 in
      let there = (schedule_exists p dem ask (due p i k)).1 in
      let past = course demand p dem (due p i k) in
      let held = kept (due p i k) in
      ap (λ (ps : List Tick). exec p ps i k) (at-schedule p dem ask t (due p i k) (omega (arith, le, long)))
      ∙ due-had p adm.limits dem past held.belongs i k lt pos (sym there)
      (laws.completes p dem (prior_state p dem past) (in_run held.belongs) held.is_calm i lt)

  -- at each tick of the governor's schedule some entry meets the demand, unless the kind is look-ahead
  pub demand-met : IsAlwaysMet kind → (t : ℕ) → (lowest_pick p.machine (demand p (state_of p dem (course demand p dem t)))).met ≡ true
  demand-met other t =
      let past = course demand p dem t in
      laws.meets p dem (state_of p dem past) (in_run (belongs-state past (kept t))) (decides-state past (kept t)) (calm-state past (kept t)) other

pub has-schedule : (demand : OwnDemand) (kind : GovernorKind) (p : Plan) → Publishes demand kind p → HasScheduleOf demand kind p
has-schedule demand kind p publishes dem within t = grind (arith, nat_tests, same-schedule)

pub publishing_laws : (demand : OwnDemand) (kind : GovernorKind) (serves : Serving)
    → ((plan : Plan) → IsAdmitted plan → serves plan.scheduler → Publishes demand kind plan) → PublishingLaws kind serves demand
publishing_laws demand kind serves each = grind (arith, nat_tests, has-schedule)
