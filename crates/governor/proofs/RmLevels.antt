-- The laws under RM at one speed for one level: a task and those before it.
use Rattle.std.proofs.lemmas.Bool.Decides.{nat_tests}
use Rattle.std.proofs.Common.{◌≡◌, ◌⊎◌, inl, inr, ℕ, zero, suc, ◌+◌, ◌-◌, ◌*◌, ◌<◌, ◌≤◌, true, false, List, refl, sym, ◌∙◌, ap, subst, arith, add-one}
use Rattle.std.proofs.Math.Nat.{mul-le-mul_right, mul-zero}
use Rattle.std.proofs.lemmas.Bool.{le-leb, leb-true, cases_lt, cases_Bool, or_parts}
use Rattle.dvs_base.specs.declared.kind.Scheduler.{Scheduler}
use Rattle.dvs_base.specs.declared.kind.Scheduler.TheVariants.{Rm}
use Rattle.grid_fraction.specs.Numbers.{sum_where, ceil_div}
use Rattle.sched_model.specs.declared.state.Row.{Row}
use Rattle.sched_model.specs.Jobs.{release, latest_since, due as due_at, JobDemands}
use Rattle.sched_model.specs.Priority.{stands_before}
use Rattle.sched_model.specs.Plan.{Plan, count, period, worst}
use Rattle.sched_model.specs.Admission.{IsWithinLimits}
use Rattle.sched_model.specs.States.{StateView, row_at, row_wleft, opening, key_in}
use Rattle.sched_model.proofs.JobLaws.{due-suc, release-suc, release-due, latest_since-pos}
use Rattle.sched_model.proofs.Limits.{some_period}
use Rattle.sched_model.proofs.LevelSums.{sum_where-mono, sum_where-plus, sum_where-term, up_to-self, up_to-trans, sum_up_to-where}
use Rattle.governor.specs.Steps.{opened_row, after_boundary, wleft_at, release_of, IsLegalIn, after_tick, IsBeforeAll, Belongs}
use Rattle.governor.proofs.StatesOfDemands.{done_none, wleft-most, unborn_done, opening_at, opened_release, boundary-by, tick_at, belongs_tick}
use Rattle.governor.proofs.Ticks.{tick_set, demand_most}
use Rattle.governor.specs.Worst.{level_work_in}
use Rattle.governor.specs.Rm.{level, released_since, asked_since, LevelCalm}
use Rattle.governor.proofs.EdfLaws.{closed_row}

-- the jobs that were released at b or later are a period apart
spaced : (plan : Plan) (j b k : ℕ)
    → (released_since plan j b k ≡ 0) ⊎ (b + released_since plan j b k * period plan j ≤ due_at plan j k)
spaced plan j b zero = inl refl
spaced plan j b (suc k) = grind (arith, nat_tests, add-one k, due-suc plan j k, leb-true b, release-due plan j (suc k), spaced plan j b k)

-- if q periods cover l ticks, at most q jobs are released at b or later and before b + l
in_window : (plan : Plan) (j b k l q : ℕ) → 0 < period plan j → (0 < k → release plan j k < b + l)
    → l ≤ q * period plan j → released_since plan j b k ≤ q
in_window plan j b k l q pos last covers = grind (arith, nat_tests, spaced, cases_lt, mul-le-mul_right, release-due)

-- the quotient rounded up, times the divisor, is at least the dividend
pub ceil_covers : (n d : ℕ) → 0 < d → n ≤ ceil_div n d * d
ceil_covers n d pos = omega arith

-- a job released at b or later adds one to their number
counts_one : (plan : Plan) (j b k : ℕ) → b ≤ due_at plan j k
    → released_since plan j b (k + 1) ≡ released_since plan j b k + 1
counts_one plan j b k le = grind (arith, nat_tests, release-suc, le-leb)

-- what a release adds to the need is at most what it adds to the work asked for
pays : (plan : Plan) (j b c job w : ℕ) → b ≤ due_at plan j job → w ≤ c
    → w + released_since plan j b job * c ≤ released_since plan j b (job + 1) * c
pays plan j b c job w le most = rw (counts_one plan j b job le) (omega arith)

-- only the level of task i, with stretches shorter than `long`
module _ (F long : ℕ) (plan : Plan) (lim : IsWithinLimits plan) (i : ℕ) (h : i < count plan) where
  pub level_opens : LevelCalm F long plan (opening plan) i
  level_opens = inl (λ j hj on. rw (opening_at plan j hj) refl)

  module _ (dem : JobDemands) (s : StateView) (bel : Belongs plan dem s) where
    pub level_completes : long ≤ period plan i → LevelCalm F long plan s i → (row_at s i).deadline ≡ s.now
        → (row_at s i).done ≡ true
    level_completes within calm e = grind (arith, nat_tests, up_to-self, cases_Bool, cases_lt, latest_since-pos, release-due, unborn_done)

    -- at a boundary a row's need grows by no more than the work that its task asks for since b
    row_pays : (b : ℕ) → b ≤ s.now → (j : ℕ) → j < count plan
        → ((row_at s j).deadline ≡ s.now → (row_at s j).done ≡ true)
        → wleft_at (after_boundary plan dem s) j + asked_since plan s b j
        ≤ wleft_at s j + asked_since plan (after_boundary plan dem s) b j
    row_pays b le j hj due =
        let row = row_at s j in
        let asked : Row → ℕ = λ (r : Row). released_since plan j b r.job * worst plan j in
        boundary-by plan dem s bel j hj (λ new. row_wleft new + asked row ≤ row_wleft row + asked new)
        (λ at_now.
        let none : row_wleft row ≡ 0 = done_none row (due at_now) in
        let d : row.deadline ≡ due_at plan j row.job = bel.deadline j hj in
        let most : ℕ = row_wleft (opened_row plan dem j row) in
        let small : most ≤ row.worst = wleft-most (opened_row plan dem j row) in
        let w : row.worst ≡ worst plan j = bel.of.worst j hj in
        let paid = pays plan j b (worst plan j) row.job most (omega arith) (omega arith) in
        omega (arith, none, paid))
        (λ later. omega arith)

    -- if a row was complete, its need after the boundary is at most the work that its task asks for from now on
    row_pays_alone : (j : ℕ) → j < count plan → (row_at s j).done ≡ true
        → wleft_at (after_boundary plan dem s) j ≤ asked_since plan (after_boundary plan dem s) s.now j
    row_pays_alone j hj closed =
        let paid = row_pays s.now (omega arith) j hj (λ e. closed) in
        let none : wleft_at s j ≡ 0 = done_none (row_at s j) closed in
        omega arith

    -- the row was open before the boundary, and its job is the same
    abbrev StayedOpen : ℕ → Row → Type 0
    StayedOpen j new = ((row_at s j).done ≡ false) × (release_of plan j new ≡ release_of plan j (row_at s j))

    row_open : (j : ℕ) → j < count plan → (row_at (after_boundary plan dem s) j).done ≡ false
        → (release_of plan j (row_at (after_boundary plan dem s) j) ≡ s.now)
        ⊎ StayedOpen j (row_at (after_boundary plan dem s) j)
    row_open j hj =
        boundary-by plan dem s bel j hj (λ new. new.done ≡ false → (release_of plan j new ≡ s.now) ⊎ StayedOpen j new)
        (λ at_now still. inl (opened_release plan dem j (row_at s j) (bel.deadline j hj) ∙ at_now)) (λ later still. inr (still, refl))

    pub level_releases : 0 < long
        → ((j : ℕ) → j < count plan → level plan i j ≡ true → (row_at s j).deadline ≡ s.now → (row_at s j).done ≡ true)
        → LevelCalm F long plan s i → LevelCalm F long plan (after_boundary plan dem s) i
    level_releases pos due calm =
        let t = after_boundary plan dem s in
        let n = count plan in
        elim calm [
          | inl all ↦ inr (
            s.now,
            record {
              begun = omega arith;
              short = omega arith;
              since = λ j hj on still.
                  elim (row_open j hj still) [
                    | inl here ↦ omega (arith, here)
                    | inr old ↦ (let bad : true ≡ false = sym (all j hj on) ∙ old.0 in absurd cc)
                  ];
              work =
                  (let sums = sum_where-mono n (level plan i) (wleft_at t) (asked_since plan t s.now)
                  (λ j hj on. row_pays_alone j hj (all j hj on)) in
                  let none : F * (s.now - s.now) ≡ 0 = (let z : s.now - s.now ≡ 0 = omega arith in rw z (mul-zero F)) in
                  rw none (omega (arith, sums)));
            },
          )
          | inr busy ↦
              let b = busy.0 in
              let stretch = busy.1 in
              inr (
                b,
                record {
                  begun = stretch.begun;
                  short = stretch.short;
                  since = λ j hj on still.
                      elim (row_open j hj still) [
                        | inl here ↦ (let g = stretch.begun in omega (arith, here))
                        | inr old ↦ (let g = stretch.since j hj on old.0 in let e = old.1 in omega arith)
                      ];
                  work =
                      (let new : ℕ → ℕ = λ j. wleft_at t j + asked_since plan s b j in
                      let old : ℕ → ℕ = λ j. wleft_at s j + asked_since plan t b j in
                      let sums : sum_where n (level plan i) new ≤ sum_where n (level plan i) old =
                      sum_where-mono n (level plan i) new old
                      (λ j hj on. row_pays b stretch.begun j hj (due j hj on)) in
                      let left = sum_where-plus n (level plan i) (wleft_at t) (asked_since plan s b) in
                      let right = sum_where-plus n (level plan i) (wleft_at s) (asked_since plan t b) in
                      omega (arith, sums, left, right, stretch.work));
                },
              )
        ]

    -- a tick changes no count of jobs and no release
    tick_asked : (shares : List ℕ) (b j : ℕ) → j < count plan
        → asked_since plan (after_tick dem shares s) b j ≡ asked_since plan s b j
    tick_asked shares b j hj = rw (tick_at plan dem shares s bel j hj) refl

    tick_open : (shares : List ℕ) (j : ℕ) → j < count plan → (row_at (after_tick dem shares s) j).done ≡ false
        → StayedOpen j (row_at (after_tick dem shares s) j)
    tick_open shares j hj = grind (arith, nat_tests, tick_at, or_parts)

    done_stays : (shares : List ℕ) (j : ℕ) → j < count plan → (row_at s j).done ≡ true
        → (row_at (after_tick dem shares s) j).done ≡ true
    done_stays shares j hj closed = rw (tick_at plan dem shares s bel j hj) (rw closed refl)

    -- in a stretch shorter than `long` a task asks for no more than the jobs that `long` ticks can hold
    level_asked : (b j : ℕ) → j < count plan → s.now < b + long
        → asked_since plan s b j ≤ ceil_div long (period plan j) * worst plan j
    level_asked b j hj near =
        let p = period plan j in
        let row = row_at s j in
        let pos = some_period plan lim j hj in
        let r : latest_since plan j row.job ≤ s.now = bel.released j hj in
        let near' : 0 < row.job → release plan j row.job < b + long =
        λ born. omega (arith, latest_since-pos plan j row.job born) in
        mul-le-mul_right (worst plan j)
        (in_window plan j b row.job long (ceil_div long p) pos near' (ceil_covers long p pos))

    pub level_ticks : plan.scheduler ≡ Rm → level_work_in plan long i ≤ F * long
        → (shares : List ℕ) → IsBeforeAll plan s → IsLegalIn plan dem F s shares → LevelCalm F long plan s i
        → LevelCalm F long plan (after_tick dem shares s) i
    level_ticks rm fit shares before legal calm =
        let t = after_tick dem shares s in
        let n = count plan in
        let lv = level plan i in
        let Down : Scheduler → Type 0 =
        λ (sch : Scheduler).
        (j k : ℕ) → j < n → k < n → stands_before (key_in sch plan s) j k ≡ true → lv k ≡ true → lv j ≡ true in
        let down : Down plan.scheduler = subst Down (sym rm) (λ j k lj lk b on. up_to-trans (period plan) j k i b on) in
        elim (tick_set plan dem F s shares lv bel legal down) [
          | inl all ↦ inl (λ j hj on. all j hj on)
          | inr falls ↦ elim calm [
            | inl done ↦ inl (λ j hj on. done_stays shares j hj (done j hj on))
            | inr busy ↦
                let b = busy.0 in
                let stretch = busy.1 in
                let begun : b ≤ s.now = stretch.begun in
                let span_more : s.now + 1 - b ≡ (s.now - b) + 1 = omega arith in
                let asked : sum_where n lv (asked_since plan s b) ≤ sum_where n lv (asked_since plan t b) =
                sum_where-mono n lv (asked_since plan s b) (asked_since plan t b)
                (λ j hj on. let e = tick_asked shares b j hj in omega arith) in
                let work' : sum_where n lv (wleft_at t) + F * (s.now + 1 - b) ≤ sum_where n lv (asked_since plan t b) =
                rw span_more (omega (arith, stretch.work, falls, asked)) in
                elim (cases_lt (s.now + 1 - b) long) [
                  | inl short ↦ inr (
                    b,
                    record {
                      begun = omega arith;
                      short = short;
                      since = λ j hj on still.
                          (let o = tick_open shares j hj still in
                          let g = stretch.since j hj on o.0 in
                          let e = o.1 in
                          omega arith);
                      work = work';
                    },
                  )
                  | inr over ↦
                      let whole : s.now + 1 - b ≡ long = (let g = stretch.short in omega arith) in
                      let held : ℕ → ℕ = λ j. ceil_div long (period plan j) * worst plan j in
                      let most : sum_where n lv (asked_since plan s b) ≤ sum_where n lv held =
                      sum_where-mono n lv (asked_since plan s b) held (λ j hj on. level_asked b j hj (omega arith)) in
                      let same : sum_where n lv (asked_since plan t b) ≤ sum_where n lv (asked_since plan s b) =
                      sum_where-mono n lv (asked_since plan t b) (asked_since plan s b)
                      (λ j hj on. let e = tick_asked shares b j hj in omega arith) in
                      let level_sum = sum_up_to-where n (period plan) held i h in
                      let full : F * (s.now + 1 - b) ≡ F * long = ap (λ x. F * x) whole in
                      let none : sum_where n lv (wleft_at t) ≤ 0 =
                      omega (arith, work', most, same, level_sum, fit, full) in
                      inl (λ j hj on.
                      let mine = sum_where-term n lv (wleft_at t) j hj on in
                      let bel' = belongs_tick plan dem F s shares bel before legal in
                      closed_row (row_at t j) (dem j (row_at t j).job) (omega arith) (bel'.open_job j hj)
                      (demand_most plan dem t bel' j hj))
                ]
          ]
        ]
