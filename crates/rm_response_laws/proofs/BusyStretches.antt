-- Under RM at the highest speed, which the schedule with no governor runs at, tasks with a bound on their levels' busy
-- stretches meet their deadlines.
use Rattle.std.proofs.Common.{◌≡◌, List, length, ap, ◌∙◌, subst, ℕ, zero, suc, ◌*◌, ◌<◌, ◌≤◌, Bool, true, [], ◌∷◌, sym}
use Rattle.dvs_base.specs.declared.kind.GovernorKind.TheVariants.{Plain}
use Rattle.freq_table.specs.Tables.{speed_at}
use Rattle.sched_model.specs.Plan.{Plan, count, point, top_speed, period}
use Rattle.sched_model.specs.Ticks.{PublishedDemand, Tick, share, units_left, at, exec}
use Rattle.sched_model.specs.Demand.{published}
use Rattle.sched_model.specs.Jobs.{JobDemands, due, IsWithin}
use Rattle.sched_model.specs.Priority.{SharesOut, key_of}
use Rattle.sched_model.specs.Schedule.{entry_in_force, next_tick, schedule}
use Rattle.sched_model.specs.StaticDemand.{full_demand}
use Rattle.sched_model.specs.Admission.{IsWithinLimits}
use Rattle.sched_model.proofs.Schedules.{next_tick-may, share-legal, schedule_exists, schedule-none, schedule-suc}
use Rattle.governor.proofs.Fits.{full_speed}
use Rattle.governor.proofs.Worst.{published-plain, entry-same}
use Rattle.dvs_base.specs.declared.kind.Scheduler.TheVariants.{Rm}
use Rattle.sched_model.specs.States.{StateView, row_at, prior_state, state_of}
use Rattle.sched_model.proofs.Limits.{every_period}
use Rattle.governor.specs.Steps.{after_boundary, after_tick, IsAtDecision, IsLegalIn, Belongs}
use Rattle.governor.proofs.Course.{at-schedule, due-had}
use Rattle.governor.proofs.Joins.{boundary-is, tick-is, legal-is}
use Rattle.governor.proofs.StatesOfDemands.{belongs_opening, belongs_boundary, belongs_tick, decision_boundary}
use Rattle.governor.specs.Rm.{level, LevelCalm}
use Rattle.governor.specs.Worst.{level_work_in}
use Rattle.governor.proofs.RmLevels.{level_opens, level_completes, level_releases, level_ticks}

-- the published demand with no governor
abbrev pub full_ask : Plan → JobDemands → PublishedDemand
full_ask p dem = published p Plain dem

-- the tick after `past` in the schedule with no governor
abbrev pub full_tick : Plan → JobDemands → List Tick → Tick
full_tick p dem past = next_tick p dem (full_ask p dem) past

-- the speed of the entry in force is always the highest
pub full-same : (p : Plan) → IsWithinLimits p → (dem : JobDemands) (past : List Tick)
    → (point p (entry_in_force p dem (full_ask p dem) past)).speed ≡ top_speed p
full-same p lim dem past =
    ap (speed_at p.machine) (entry-same p dem (full_ask p dem) (full_demand p) (published-plain p dem) past) ∙ full_speed p lim

-- each tick is legal at the highest speed
pub full-legal : (p : Plan) → IsWithinLimits p → (dem : JobDemands) (past : List Tick)
    → SharesOut (count p) (key_of p.scheduler p (length past)) (top_speed p) (units_left p dem past)
    (share (full_tick p dem past))
full-legal p lim dem past =
    let key = key_of p.scheduler p (length past) in
    let x = full_tick p dem past in
    subst (λ f. SharesOut (count p) key f (units_left p dem past) (share x)) (full-same p lim dem past)
    (next_tick-may p dem (full_ask p dem) past).legal

-- `long` bounds the busy stretches of the level of task i: it is at most the task's period, and the highest speed does
-- in `long` ticks what the level can ask for in them
pub record IsBound (p : Plan) (i long : ℕ) : Type 0 where
  pub some : 0 < long
  pub within : long ≤ period p i
  pub fits : level_work_in p long i ≤ top_speed p * long

-- the set `which` has, with each task, those before it in RM order
abbrev pub HoldsLevels : Plan → (ℕ → Bool) → Type 0
HoldsLevels p which = (i j : ℕ) → i < count p → j < count p → level p i j ≡ true → which i ≡ true → which j ≡ true

-- the tasks of `which` have bounds on their levels
module _ (p : Plan) (lim : IsWithinLimits p) (rm : p.scheduler ≡ Rm) (which : ℕ → Bool) (span : ℕ → ℕ)
    (down : HoldsLevels p which) (bound : (i : ℕ) → i < count p → which i ≡ true → IsBound p i (span i))
    (dem : JobDemands) (within : IsWithin p dem) where
  abbrev F : ℕ
  F = top_speed p

  abbrev AreCalm : StateView → Type 0
  AreCalm s = (i : ℕ) → i < count p → which i ≡ true → LevelCalm F (span i) p s i

  -- the state before the releases of the tick after `past`
  abbrev prior : List Tick → StateView
  prior past = prior_state p dem past

  abbrev state : List Tick → StateView
  state past = state_of p dem past

  -- before the releases the state belongs to the demands, and each level of `which` is calm
  record AreKept (past : List Tick) : Type 0 where
    pub belongs : Belongs p dem (prior past)
    pub calm : AreCalm (prior past)

  -- each job of a task of `which` that is due is complete
  completes : (past : List Tick) → AreKept past → (i : ℕ) → i < count p → which i ≡ true
      → (row_at (prior past) i).deadline ≡ length past → (row_at (prior past) i).done ≡ true
  completes past k i h on =
      level_completes F (span i) p lim i h dem (prior past) k.belongs (bound i h on).within (k.calm i h on)

  -- the state after the releases
  released : (past : List Tick) → after_boundary p dem (prior past) ≡ state past
  released past = boundary-is p dem (every_period p lim) within.none past

  belongs-state : (past : List Tick) → AreKept past → Belongs p dem (state past)
  belongs-state past k = subst (Belongs p dem) (released past) (belongs_boundary p dem (prior past) k.belongs)

  calm-state : (past : List Tick) → AreKept past → AreCalm (state past)
  calm-state past k i h on =
      subst (λ (s : StateView). LevelCalm F (span i) p s i) (released past)
      (level_releases F (span i) p lim i h dem (prior past) k.belongs (bound i h on).some
      (λ j hj lv e. completes past k j hj (down i j h hj lv on) e) (k.calm i h on))

  at-decision : (past : List Tick) → AreKept past → IsAtDecision p (state past)
  at-decision past k =
      subst (IsAtDecision p) (released past) (decision_boundary p dem (prior past) lim k.belongs)

  -- the tick after `past`
  abbrev tick : List Tick → Tick
  tick past = full_tick p dem past

  legal : (past : List Tick) → IsLegalIn p dem F (state past) (tick past).shares
  legal past =
      legal-is p dem (every_period p lim) within.none (tick past) past F (next_tick-may p dem (full_ask p dem) past).one_share_each
      (full-legal p lim dem past)

  ticked : (past : List Tick) → after_tick dem (tick past).shares (state past) ≡ prior (tick past ∷ past)
  ticked past =
      tick-is p dem (every_period p lim) within.none (tick past) past
      (share-legal p dem past F (tick past) (full-legal p lim dem past))

  kept-next : (past : List Tick) → AreKept past → AreKept (tick past ∷ past)
  kept-next past k =
      let belongs = belongs-state past k in
      let before = (at-decision past k).before in
      let shares = (tick past).shares in
      record {
        belongs = subst (Belongs p dem) (ticked past)
            (belongs_tick p dem F (state past) shares belongs before (legal past));
        calm = λ i h on.
            subst (λ (s : StateView). LevelCalm F (span i) p s i) (ticked past)
            (level_ticks F (span i) p lim i h dem (state past) belongs rm (bound i h on).fits shares before (legal past)
            (calm-state past k i h on));
      }

  kept-none : AreKept []
  kept-none = record {
    belongs = belongs_opening p dem within;
    calm = λ i h on. level_opens F (span i) p lim i h;
  }

  kept : (t : ℕ) → AreKept (schedule p Plain dem t)
  kept zero = subst AreKept (sym (schedule-none p dem (full_ask p dem))) kept-none
  kept (suc t) = subst AreKept (sym (schedule-suc p dem (full_ask p dem) t)) (kept-next (schedule p Plain dem t) (kept t))

  -- each deadline of a task of `which` is met
  pub bounded-met : (t i k : ℕ) → i < count p → which i ≡ true → 1 ≤ k → due p i k ≤ t
      → exec p (at (due p i k) (schedule p Plain dem t)) i k ≡ dem i k
  bounded-met t i k h on pos le =
      let there = (schedule_exists p dem (full_ask p dem) (due p i k)).1 in
      let past = schedule p Plain dem (due p i k) in
      ap (λ (ps : List Tick). exec p ps i k) (at-schedule p dem (full_ask p dem) t (due p i k) le)
      ∙ due-had p lim dem past (kept (due p i k)).belongs i k h pos (sym there) (completes past (kept (due p i k)) i h on)
