-- What a response says about the schedule with no governor.
use Rattle.std.proofs.Common.{◌≡◌, inl, inr, ℕ, zero, suc, ◌-◌, ◌<◌, ◌≤◌, true, false, List, length, refl, sym, ◌∙◌, ap, arith, eqb}
use Rattle.std.proofs.lemmas.Bool.{cases_Bool}
use Rattle.std.proofs.lemmas.Bool.Decides.{nat_tests}
use Rattle.dvs_base.specs.declared.kind.Scheduler.TheVariants.{Rm}
use Rattle.task_model.specs.Tasks.{NoneOffset}
use Rattle.sched_model.specs.Plan.{Plan, count, period, offset}
use Rattle.sched_model.specs.Jobs.{latest, due, worst_demand}
use Rattle.sched_model.specs.Ticks.{Tick, at, exec}
use Rattle.sched_model.specs.Priority.{stands_before}
use Rattle.sched_model.specs.Admission.{IsWithinLimits}
use Rattle.sched_model.proofs.Limits.{some_period}
use Rattle.sched_model.proofs.JobLaws.{latest-is, release-due}
use Rattle.sched_model.proofs.Orders.{before-trans}
use Rattle.sched_model.proofs.Schedules.{schedule_exists}
use Rattle.governor.proofs.Course.{at-schedule}
use Rattle.governor.specs.Rm.{level}
use Rattle.governor.proofs.Worst.{worst-within}
use Rattle.rm_response_laws.specs.Responses.{response, HasResponse, AllRespond, EarlierRespond, full_worst_ticks, is_first_done, IsFirstDoneAt, MeetsAllDeadlines}
use Rattle.rm_response_laws.proofs.BusyStretches.{full_ask, bounded-met}
use Rattle.rm_response_laws.proofs.Firsts.{due-zero, worst_ask, IsKept, first-done, first-not_done}
use Rattle.rm_response_laws.proofs.ResponseSearch.{before-response, response-bound}

-- each task of the level of task i but task i itself comes before it
before-or-last : (p : Plan) (i j : ℕ) → level p i j ≡ true → eqb j i ≡ false → stands_before (period p) j i ≡ true
before-or-last p i j on other = grind (arith, nat_tests)

-- if task j comes before task i, each task of its level does
level-before : (p : Plan) (i j k : ℕ) → level p j k ≡ true → stands_before (period p) j i ≡ true
    → stands_before (period p) k i ≡ true
level-before p i j k lv on =
    elim (cases_Bool (eqb k j)) [
      | inl e ↦ (let same : k ≡ j = grind (arith, nat_tests) in ap (λ x. stands_before (period p) x i) same ∙ on)
      | inr e ↦ before-trans (period p) k j i (before-or-last p j k lv e) on
    ]

module _ (p : Plan) (lim : IsWithinLimits p) (rm : p.scheduler ≡ Rm) where
  -- if each task has a response, every deadline is met
  pub always-meets : AllRespond p → MeetsAllDeadlines p
  always-meets all dem within t i k h pos le =
      let long = (schedule_exists p dem (full_ask p dem) t).1 in
      bounded-met p lim rm (λ j. true) (response p) (λ a b ha hb lv on. refl) (λ j hj on. response-bound p j (all j hj))
      dem within t i k h refl pos (omega (arith, long))

  module _ (i : ℕ) (h : i < count p) (first : NoneOffset (offset p) (count p)) (earlier : EarlierRespond p i) where
    earlier-met : (t j k : ℕ) → j < count p → stands_before (period p) j i ≡ true → 1 ≤ k → due p j k ≤ t
        → exec p (at (due p j k) (full_worst_ticks p t)) j k ≡ worst_demand p j k
    earlier-met t j k hj on pos le =
        bounded-met p lim rm (λ a. stands_before (period p) a i) (response p)
        (λ a b ha hb lv on. level-before p i a b lv on) (λ a ha on. response-bound p a (earlier a ha on))
        (worst_demand p) (worst-within p) t j k hj on pos le

    -- before the deadline of task i's first job, no job of its level lacks anything when it is due
    level-kept : IsKept p i
    level-kept zero j k hj lv before e = refl
    level-kept (suc t) j zero hj lv before e = absurd (omega (arith, e, due-zero p j (first j hj)))
    level-kept (suc t) j (suc k) hj lv before e =
        let ticks = full_worst_ticks p (suc t) in
        let long : length ticks ≡ suc t = (schedule_exists p (worst_demand p) (worst_ask p) (suc t)).1 in
        let span = release-due p j (suc k) (omega arith) in
        let some = some_period p lim j hj in
        elim (cases_Bool (eqb j i)) [
          | inl own ↦
              let same : j ≡ i = grind (arith, nat_tests) in
              let periods : period p j ≡ period p i = ap (period p) same in
              absurd (omega (arith, e, span, periods))
          | inr other ↦
              let job : latest p j (length ticks - 1) ≡ suc k =
              latest-is p j (suc k) (length ticks - 1) (omega (arith, long, e, span, some))
              (omega (arith, long, e, span, some)) in
              let on = before-or-last p i j lv other in
              let met = earlier-met (suc t) j (suc k) hj on (omega arith) (omega (arith, e)) in
              let whole : at (due p j (suc k)) ticks ≡ ticks =
              ap (λ n. at n ticks) (sym e)
              ∙ at-schedule p (worst_demand p) (worst_ask p) (suc t) (suc t) (omega arith) in
              let had : exec p ticks j (suc k) ≡ worst_demand p j (suc k) =
              ap (λ (ps : List Tick). exec p ps j (suc k)) (sym whole) ∙ met in
              ap (λ m. worst_demand p j m - exec p ticks j m) job ∙ omega (arith, had)
        ]

    -- the response is the least tick at which the first job is complete
    pub first-at-response : HasResponse p i → IsFirstDoneAt p i (response p i)
    first-at-response has =
        let bound = response-bound p i has in
        let none = before-response p i in
        record {
          done = first-done p lim rm i h first level-kept (response p i) bound.some has none bound.fits;
          before = λ t lt.
              first-not_done p lim rm i h first level-kept t (omega arith) (λ u a b. none u a (omega arith));
        }

    -- if there is no response, the first job is not complete at its deadline
    pub first-misses : period p i < response p i → is_first_done p i (period p i) ≡ false
    first-misses none =
        first-not_done p lim rm i h first level-kept (period p i) (omega arith)
        (λ u a b. before-response p i u a (omega arith))
