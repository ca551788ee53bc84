-- A schedule under RM at one speed with every job at its worst case: what its jobs lack at each release and tick.
use Rattle.std.proofs.lemmas.Bool.Decides.{nat_tests}
use Rattle.std.proofs.Common.{◌≡◌, ◌≢◌, ℕ, zero, suc, ◌+◌, ◌-◌, ◌*◌, ◌<◌, Bool, true, List, ◌∷◌, length, refl, sym, ◌∙◌, ap, subst, arith, inl, inr}
use Rattle.std.proofs.Math.Nat.{zero-sub}
use Rattle.std.proofs.lemmas.Bool.{cases_lt}
use Rattle.dvs_base.specs.declared.kind.Scheduler.{Scheduler}
use Rattle.dvs_base.specs.declared.kind.Scheduler.TheVariants.{Rm}
use Rattle.grid_fraction.specs.Numbers.{sum_where}
use Rattle.grid_fraction.proofs.Sums.{sum_where-same}
use Rattle.sched_model.specs.Plan.{Plan, count, period, offset, worst, point}
use Rattle.sched_model.specs.Jobs.{due, latest, worst_demand}
use Rattle.sched_model.specs.Ticks.{PublishedDemand, Tick, exec, share, units_left}
use Rattle.sched_model.specs.Priority.{stands_before, is_up_to, SharesOut, sum_up_to, key_of}
use Rattle.sched_model.specs.Schedule.{entry_in_force, next_tick, schedule_by}
use Rattle.sched_model.specs.Backlog.{lacking}
use Rattle.sched_model.specs.Admission.{IsWithinLimits}
use Rattle.sched_model.proofs.Limits.{some_period}
use Rattle.sched_model.proofs.JobLaws.{due-none, release-suc, due-suc, lt-due, latest-is, latest-none, latest-stays, exec-legal, exec-early, worst_demand-pos}
use Rattle.sched_model.proofs.Orders.{before-trans}
use Rattle.sched_model.proofs.Allotments.{down-set-gets}
use Rattle.sched_model.proofs.LevelSums.{sum_where-plus, share-most, up_to-trans, sum_up_to-where}
use Rattle.sched_model.proofs.Schedules.{schedule_exists, next_tick-may, schedule-suc}

-- the first t ticks of the schedule with every job at its worst case
abbrev pub worst_ticks : Plan → PublishedDemand → ℕ → List Tick
worst_ticks p ask t = schedule_by p (worst_demand p) ask t

-- the tick t of the schedule with every job at its worst case
abbrev pub worst_tick : Plan → PublishedDemand → ℕ → Tick
worst_tick p ask t = next_tick p (worst_demand p) ask (worst_ticks p ask t)

-- what the job of task i that was released last before t lacks at t; nothing at tick 0
abbrev pub lack : Plan → PublishedDemand → ℕ → ℕ → ℕ
lack p ask zero i = 0
lack p ask (suc t) i = lacking p (worst_ticks p ask (suc t)) i

-- what the latest job of task i lacks at t, right after the releases of t
abbrev pub lack_after : Plan → PublishedDemand → ℕ → ℕ → ℕ
lack_after p ask t i = units_left p (worst_demand p) (worst_ticks p ask t) i

-- a set of tasks that is closed under priority: with each task, it has those before it in RM order
abbrev pub IsDown : Plan → (ℕ → Bool) → Type 0
IsDown p test =
    (j i : ℕ) → j < count p → i < count p → stands_before (period p) j i ≡ true → test i ≡ true → test j ≡ true

pub level_down : (p : Plan) (i : ℕ) → IsDown p (is_up_to (period p) i)
level_down p i = λ j k hj hk b on. up_to-trans (period p) j k i b on

pub before_down : (p : Plan) (i : ℕ) → IsDown p (λ j. stands_before (period p) j i)
before_down p i = λ j k hj hk b on. before-trans (period p) j k i b on

-- no job of task j is due at t, and so none is released there
abbrev pub IsQuiet : Plan → ℕ → ℕ → Type 0
IsQuiet p t j = (k : ℕ) → t ≡ due p j k → ⊥

module _ (p : Plan) (lim : IsWithinLimits p) (ask : PublishedDemand) where
  pub lack-long : (t : ℕ) → length (worst_ticks p ask t) ≡ t
  lack-long t = (schedule_exists p (worst_demand p) ask t).1

  pub lack-ticks : (t : ℕ) → worst_ticks p ask (suc t) ≡ worst_tick p ask t ∷ worst_ticks p ask t
  lack-ticks t = schedule-suc p (worst_demand p) ask t

  -- a job that isn't due in the next tick is still the latest there
  stays : (t i : ℕ) → i < count p → suc t ≢ due p i (latest p i t) → latest p i (suc t) ≡ latest p i t
  stays t i h other =
      let next : suc t ≡ t + 1 = omega arith in
      let before : t + 1 < due p i (latest p i t) = omega (arith, lt-due p i t (some_period p lim i h)) in
      ap (latest p i) next ∙ latest-stays p i t (some_period p lim i h) before

  pub lack-same : (t i : ℕ) → i < count p → suc t ≢ due p i (latest p i t)
      → lack_after p ask (suc t) i ≡ lack p ask (suc t) i
  lack-same t i h other = grind (arith, nat_tests, lack-long, stays)

  -- if a task has no release, it lacks as much after the releases as before
  pub lack-quiet : (t j : ℕ) → j < count p → IsQuiet p t j → lack_after p ask t j ≡ lack p ask t j
  lack-quiet zero j h quiet =
      let ticks = worst_ticks p ask 0 in
      let late : 0 < offset p j =
      elim (cases_lt 0 (offset p j)) [
        | inl later ↦ later
        | inr now ↦ absurd (quiet 0 (omega (arith, now, due-none p j)))
      ] in
      let job : latest p j (length ticks) ≡ 0 = ap (latest p j) (lack-long 0) ∙ latest-none p j 0 late in
      ap (λ (k : ℕ). worst_demand p j k - exec p ticks j k) job ∙ zero-sub (exec p ticks j 0)
  lack-quiet (suc t) j h quiet = lack-same t j h (quiet (latest p j t))

  -- a task that has a release lacks the next job's whole worst case
  pub lack-released : (t i k : ℕ) → i < count p → t ≡ due p i k → lack_after p ask t i ≡ worst p i
  lack-released t i k h e =
      let ticks = worst_ticks p ask t in
      let long = lack-long t in
      let from = release-suc p i k in
      let until = due-suc p i k in
      let some = some_period p lim i h in
      let job : latest p i (length ticks) ≡ k + 1 =
      latest-is p i (k + 1) (length ticks) (omega (arith, long, e, from)) (omega (arith, long, e, until, some)) in
      let none : exec p ticks i (k + 1) ≡ 0 = exec-early p ticks i (k + 1) (omega (arith, long, e, from)) in
      let all = worst_demand-pos p i (k + 1) (omega arith) in
      ap (λ (m : ℕ). worst_demand p i m - exec p ticks i m) job ∙ omega (arith, none, all)

  all-quiet : (t : ℕ) (test : ℕ → Bool) → ((j : ℕ) → j < count p → IsQuiet p t j)
      → sum_where (count p) test (lack_after p ask t) ≡ sum_where (count p) test (lack p ask t)
  all-quiet t test quiet = sum_where-same (count p) test (lack_after p ask t) (lack p ask t) (λ i h. lack-quiet t i h (quiet i h))

  -- under RM, if the entries in force all have the speed F
  module _ (rm : p.scheduler ≡ Rm) (F : ℕ)
      (same : (past : List Tick) → (point p (entry_in_force p (worst_demand p) ask past)).speed ≡ F) where
    -- the ticks are legal at the speed F, in RM order
    lack-legal : (t : ℕ) → SharesOut (count p) (period p) F (lack_after p ask t) (share (worst_tick p ask t))
    lack-legal t =
        let past = worst_ticks p ask t in
        let x = worst_tick p ask t in
        subst (λ (f : ℕ). SharesOut (count p) (period p) f (lack_after p ask t) (share x)) (same past)
        (subst (λ (sch : Scheduler).
        SharesOut (count p) (key_of sch p (length past)) ((point p x.entry).speed) (lack_after p ask t) (share x)) rm
        (next_tick-may p (worst_demand p) ask past).legal)

    -- a tick takes each task's units from what it lacks
    lack-suc : (t i : ℕ) → i < count p → lack p ask (suc t) i + share (worst_tick p ask t) i ≡ lack_after p ask t i
    lack-suc t i h =
        let x = worst_tick p ask t in
        let past = worst_ticks p ask t in
        let k = latest p i (length past) in
        let back : length (x ∷ past) - 1 ≡ length past = omega arith in
        let now : lack p ask (suc t) i ≡ worst_demand p i k - exec p (x ∷ past) i k =
        ap (λ (ticks : List Tick). lacking p ticks i) (lack-ticks t)
        ∙ ap (λ (n : ℕ). worst_demand p i (latest p i n) - exec p (x ∷ past) i (latest p i n)) back in
        let most = share-most (count p) (period p) F (lack_after p ask t) (share x) (lack-legal t) i h in
        let more = exec-legal p (worst_demand p) x past i (some_period p lim i h) refl most in
        omega (arith, now, more, most)

    -- a tick takes the speed F from what a set lacks that is closed under priority
    pub lack-falls : (t : ℕ) (test : ℕ → Bool) → IsDown p test
        → sum_where (count p) test (lack p ask (suc t)) ≡ sum_where (count p) test (lack_after p ask t) - F
    lack-falls t test down =
        let n = count p in
        let x = worst_tick p ask t in
        let gets = down-set-gets n (period p) test F (lack_after p ask t) (share x) down (lack-legal t) in
        let split = sum_where-plus n test (lack p ask (suc t)) (share x) in
        let whole : sum_where n test (λ i. lack p ask (suc t) i + share x i) ≡ sum_where n test (lack_after p ask t) =
        sum_where-same (count p) test (λ i. lack p ask (suc t) i + share x i) (lack_after p ask t) (lack-suc t) in
        omega (arith, gets, split, whole)

    less : (x a f : ℕ) → (x - a * f) - f ≡ x - suc a * f
    less x a f = omega arith

    -- without a release after r, d + 1 ticks take d + 1 times F from what such a set lacks
    pub lack-span : (test : ℕ → Bool) → IsDown p test → (r d : ℕ)
        → ((u j : ℕ) → r < u → u < r + suc d → j < count p → IsQuiet p u j)
        → sum_where (count p) test (lack p ask (r + suc d)) ≡ sum_where (count p) test (lack_after p ask r) - suc d * F
    lack-span test down r zero quiet = grind (arith, nat_tests, lack-falls r test down)
    lack-span test down r (suc d) quiet =
        let place : r + suc (suc d) ≡ suc (r + suc d) = omega arith in
        let before = lack-span test down r d (λ u j a b h. quiet u j a (omega arith) h) in
        let still = all-quiet (r + suc d) test (λ j h. quiet (r + suc d) j (omega arith) (omega arith) h) in
        rw place (
        lack-falls (r + suc d) test down
        ∙ ap (λ (x : ℕ). x - F) (still ∙ before)
        ∙ less (sum_where (count p) test (lack_after p ask r)) (suc d) F)

    empties : (b l x a c : ℕ) → 0 < a → b ≡ x - c → b + l ≡ (x + a) - c → l ≡ 0 → b + l ≡ 0
    empties b l x a c pos e g z = omega arith

    -- if task i lacks units at r and none at a later tick up to the next release, its level lacks none there
    pub lack-empties : (i r d : ℕ) → i < count p → ((u j : ℕ) → r < u → u < r + suc d → j < count p → IsQuiet p u j)
        → 0 < lack_after p ask r i → lack p ask (r + suc d) i ≡ 0
        → sum_where (count p) (is_up_to (period p) i) (lack p ask (r + suc d)) ≡ 0
    lack-empties i r d h quiet pos none =
        let n = count p in
        let c : ℕ = suc d * F in
        let earlier : ℕ → Bool = λ j. stands_before (period p) j i in
        let from = lack_after p ask r in
        let later = lack p ask (r + suc d) in
        let before = lack-span earlier (before_down p i) r d quiet in
        let whole : sum_up_to n (period p) later i ≡ sum_up_to n (period p) from i - c =
        sum_up_to-where n (period p) later i h
        ∙ lack-span (is_up_to (period p) i) (level_down p i) r d quiet
        ∙ ap (λ (x : ℕ). x - c) (sym (sum_up_to-where n (period p) from i h)) in
        sym (sum_up_to-where n (period p) later i h)
        ∙ empties (sum_where n earlier later) (later i) (sum_where n earlier from) (from i) c pos before whole none
