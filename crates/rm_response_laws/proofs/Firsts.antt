-- The first job of a task, with every job at its worst case and no missed deadline of the tasks before it: it
-- completes as soon as the highest speed has done what its level can ask for, and not before.
use Rattle.std.proofs.Common.{◌≡◌, inl, inr, ℕ, zero, suc, ◌+◌, ◌*◌, ◌/◌, ◌%◌, ◌<◌, ◌≤◌, Bool, true, false, refl, sym, ◌∙◌, ap, arith, if◌then◌else◌, div-add-mod', mod-lt, ◌-◌, length, subst, zero-mul, mul-zero, one-mul}
use Rattle.std.proofs.Math.Nat.{mul-le-mul_right}
use Rattle.std.proofs.lemmas.Bool.{cases_lt, le-leb}
use Rattle.std.proofs.lemmas.Bool.Decides.{nat_tests}
use Rattle.grid_fraction.specs.Numbers.{sum_where, ceil_div}
use Rattle.grid_fraction.proofs.Sums.{sum_below-same}
use Rattle.grid_fraction.proofs.Ceilings.{ceil-at}
use Rattle.task_model.specs.Tasks.{NoneOffset}
use Rattle.sched_model.specs.Plan.{Plan, count, period, offset, worst, top_speed}
use Rattle.sched_model.specs.Jobs.{due, latest, worst_demand}
use Rattle.sched_model.specs.Ticks.{PublishedDemand, exec}
use Rattle.sched_model.specs.Admission.{IsWithinLimits}
use Rattle.sched_model.proofs.Limits.{some_period}
use Rattle.sched_model.proofs.LevelSums.{sum_where-plus, sum_up_to-where, sum_where-term, sum_where-zero, up_to-self}
use Rattle.governor.specs.Rm.{level}
use Rattle.governor.specs.Worst.{level_work_in}
use Rattle.sched_model.proofs.Lacks.{lack, lack_after, IsQuiet, lack-quiet, lack-released, level_down, lack-long, lack-falls, lack-empties}
use Rattle.dvs_base.specs.declared.kind.Scheduler.TheVariants.{Rm}
use Rattle.sched_model.proofs.JobLaws.{due-none, release-suc, latest-is, exec-early, worst_demand-pos}
use Rattle.rm_response_laws.proofs.Ceilings.{ceil-after}
use Rattle.rm_response_laws.specs.Responses.{IsUnserved, full_worst_ticks, is_first_done}
use Rattle.rm_response_laws.proofs.BusyStretches.{full_ask, full-same}

-- if a task is first released at tick 0, its deadlines are the multiples of its period
pub due-is : (p : Plan) (i k : ℕ) → offset p i ≡ 0 → due p i k ≡ k * period p i
unfolding due
due-is p i k first = omega (arith, first)

-- the number of jobs of task j that t ticks can hold
abbrev pub held : Plan → ℕ → ℕ → ℕ
held p t j = ceil_div t (period p j)

-- at a release of task j one more tick can hold one more job of it
held-due : (p : Plan) (t j q : ℕ) → offset p j ≡ 0 → 0 < period p j → t ≡ due p j q → held p (suc t) j ≡ held p t j + 1
held-due p t j q first pos e =
    let d = period p j in
    let there : t ≡ q * d = e ∙ due-is p j q first in
    let next : suc t ≡ q * d + 1 = omega (arith, there) in
    let now : ceil_div t d ≡ q = ap (λ n. ceil_div n d) there ∙ ceil-at q d pos in
    ap (λ n. ceil_div n d) next ∙ (ceil-after q d 1 (omega arith) (omega arith) ∙ omega (arith, now))

-- at other ticks one more tick can hold no more jobs of task j
held-quiet : (p : Plan) (t j q r : ℕ) → 0 < r → r < period p j → t ≡ q * period p j + r → held p (suc t) j ≡ held p t j
held-quiet p t j q r pos low e =
    let d = period p j in
    let next : suc t ≡ q * d + (r + 1) = omega (arith, e) in
    ap (λ n. ceil_div n d) next
    ∙ (ceil-after q d (r + 1) (omega arith) (omega arith)
    ∙ sym (ap (λ n. ceil_div n d) e ∙ ceil-after q d r pos (omega arith)))

-- off the multiples of its period task j has no job due
pub quiet-off : (p : Plan) (t j q r : ℕ) → offset p j ≡ 0 → 0 < r → r < period p j → t ≡ q * period p j + r
    → IsQuiet p t j
quiet-off p t j q r first pos low e k is =
    let d = period p j in
    let there : t ≡ k * d = is ∙ due-is p j k first in
    elim (cases_lt q k) [
      | inl above ↦
          let m : suc q * d ≤ k * d = mul-le-mul_right d above in
          absurd (omega arith)
      | inr below ↦
          let m : k * d ≤ q * d = mul-le-mul_right d below in
          absurd (omega arith)
    ]

module _ (p : Plan) (lim : IsWithinLimits p) (ask : PublishedDemand) where
  -- if task j lacks nothing of a job due at t, the releases of t add as much to its lack as tick t to its work
  lack-asks : (t j : ℕ) → j < count p → offset p j ≡ 0 → ((k : ℕ) → t ≡ due p j k → lack p ask t j ≡ 0)
      → lack_after p ask t j + held p t j * worst p j ≡ lack p ask t j + held p (suc t) j * worst p j
  lack-asks t j h first met = go (t % period p j) refl
    where
      d : ℕ
      d = period p j

      pos : 0 < period p j
      pos = some_period p lim j h

      split : t ≡ t / period p j * period p j + t % period p j
      split = omega (arith, div-add-mod' t (period p j))

      go : (r : ℕ) → t % period p j ≡ r
          → lack_after p ask t j + held p t j * worst p j ≡ lack p ask t j + held p (suc t) j * worst p j
      go zero e =
          let q = t / period p j in
          let there : t ≡ due p j q = omega (arith, split, e) ∙ sym (due-is p j q first) in
          let none = met q there in
          let all = lack-released p lim ask t j q h there in
          let more = held-due p t j q first pos there in
          rw more (omega (arith, none, all))
      go (suc r) e =
          let q = t / period p j in
          let low : suc r < period p j = omega (arith, e, mod-lt t pos) in
          let there : t ≡ q * period p j + suc r = omega (arith, split, e) in
          let still = lack-quiet p lim ask t j h (quiet-off p t j q (suc r) first (omega arith) low there) in
          let stays = held-quiet p t j q (suc r) (omega arith) low there in
          rw stays (omega (arith, still))

  pick : (b : Bool) (x y : ℕ) → (b ≡ true → x ≡ y) → (if b then x else 0) ≡ (if b then y else 0)
  pick true x y e = e refl
  pick false x y e = refl

  -- if a level lacks nothing of a job due at t, the releases of t add as much to its lack as tick t to its work
  pub level-asks : (i t : ℕ) → i < count p → NoneOffset (offset p) (count p)
      → ((j k : ℕ) → j < count p → level p i j ≡ true → t ≡ due p j k → lack p ask t j ≡ 0)
      → sum_where (count p) (level p i) (lack_after p ask t) + level_work_in p t i
      ≡ sum_where (count p) (level p i) (lack p ask t) + level_work_in p (suc t) i
  level-asks i t h none met =
      let n = count p in
      let lv = level p i in
      let work : ℕ → ℕ → ℕ = λ u j. held p u j * worst p j in
      let before : ℕ → ℕ = λ j. lack_after p ask t j + work t j in
      let after : ℕ → ℕ = λ j. lack p ask t j + work (suc t) j in
      let now = sum_up_to-where n (period p) (work t) i h in
      let next = sum_up_to-where n (period p) (work (suc t)) i h in
      let left = sum_where-plus n lv (lack_after p ask t) (work t) in
      let right = sum_where-plus n lv (lack p ask t) (work (suc t)) in
      let row : (j : ℕ) → j < n → lv j ≡ true → before j ≡ after j =
      λ j hj on. lack-asks t j hj (none j hj) (λ k e. met j k hj on e) in
      let each : sum_where n lv before ≡ sum_where n lv after =
      sum_below-same n (λ j. if lv j then before j else 0) (λ j. if lv j then after j else 0)
      (λ j hj. pick (lv j) (before j) (after j) (row j hj)) in
      omega (arith, now, next, left, right, each)

pub some_worst : (p : Plan) → IsWithinLimits p → (i : ℕ) → i < count p → 0 < worst p i
some_worst p lim i h = let w = (lim.tasks.each i h).some_worst in omega arith

pub due-zero : (p : Plan) (i : ℕ) → offset p i ≡ 0 → due p i 0 ≡ 0
due-zero p i first = due-none p i ∙ first

-- no job fits into 0 ticks
work-none : (p : Plan) → IsWithinLimits p → (i : ℕ) → i < count p → level_work_in p 0 i ≡ 0
work-none p lim i h =
    let work : ℕ → ℕ = λ j. ceil_div 0 (period p j) * worst p j in
    let zero-jobs : (j : ℕ) → j < count p → ceil_div 0 (period p j) ≡ 0 =
    λ j hj.
    ap (λ m. ceil_div m (period p j)) (sym (zero-mul (period p j))) ∙ ceil-at 0 (period p j) (some_period p lim j hj) in
    let none : (j : ℕ) → j < count p → work j ≡ 0 =
    λ j hj. ap (λ q. q * worst p j) (zero-jobs j hj) ∙ zero-mul (worst p j) in
    sum_up_to-where (count p) (period p) work i h ∙ sum_where-zero (count p) (level p i) work (λ j hj on. none j hj)

-- the published demand with no governor, with every job at its worst case
abbrev pub worst_ask : Plan → PublishedDemand
worst_ask p = full_ask p (worst_demand p)

-- what the job of task i released last before t lacks at t, at the highest speed and with every job at its worst case
abbrev pub lacks : Plan → ℕ → ℕ → ℕ
lacks p t i = lack p (worst_ask p) t i

abbrev lacks_after : Plan → ℕ → ℕ → ℕ
lacks_after p t i = lack_after p (worst_ask p) t i

-- before the deadline of task i's first job, no job of its level lacks anything when it is due
abbrev pub IsKept : Plan → ℕ → Type 0
IsKept p i = (t j k : ℕ) → j < count p → level p i j ≡ true → t < period p i → t ≡ due p j k → lacks p t j ≡ 0

module _ (p : Plan) (lim : IsWithinLimits p) (rm : p.scheduler ≡ Rm) (i : ℕ) (h : i < count p)
    (first : NoneOffset (offset p) (count p)) (met : IsKept p i) where
  up_to_now : (t : ℕ) → IsUnserved p i (suc t) → top_speed p * t ≤ level_work_in p t i
  up_to_now zero un = omega (arith, mul-zero (top_speed p))
  up_to_now (suc t) un = let g = un (suc t) (omega arith) (omega arith) in omega arith

  -- while a level asks for more than the highest speed does, it lacks the difference
  level-lacks : (t : ℕ) → t ≤ period p i → IsUnserved p i t
      → sum_where (count p) (level p i) (lacks p t) ≡ level_work_in p t i - top_speed p * t
  level-lacks zero le un =
      let none : sum_where (count p) (level p i) (lacks p 0) ≡ 0 =
      sum_where-zero (count p) (level p i) (lacks p 0) (λ j hj on. refl) in
      omega (arith, none, work-none p lim i h)
  level-lacks (suc t) le un =
      let before = level-lacks t (omega arith) (λ u a b. un u a (omega arith)) in
      let low = up_to_now t un in
      let grows = level-asks p lim (worst_ask p) i t h first (λ j k hj on e. met t j k hj on (omega arith) e) in
      let same = full-same p lim (worst_demand p) in
      let falls = lack-falls p lim (worst_ask p) rm (top_speed p) same t (level p i) (level_down p i) in
      omega (arith, before, low, grows, falls)

  -- while its level asks for more than the highest speed does, the first job stays incomplete
  open-step : (t : ℕ) → t < period p i → 0 < lacks_after p t i → IsUnserved p i (suc (suc t)) → 0 < lacks p (suc t) i
  open-step t lt pos un =
      elim (cases_lt 0 (lacks p (suc t) i)) [
        | inl more ↦ more
        | inr none ↦
            let next : t + suc zero ≡ suc t = omega arith in
            let same = full-same p lim (worst_demand p) in
            let closed : lacks p (t + suc zero) i ≡ 0 = subst (λ u. lacks p u i ≡ 0) (sym next) (omega arith) in
            let empty : sum_where (count p) (level p i) (lacks p (suc t)) ≡ 0 =
            subst (λ u. sum_where (count p) (level p i) (lacks p u) ≡ 0) next
            (lack-empties p lim (worst_ask p) rm (top_speed p) same i t zero h (λ u j a b hj. absurd (omega arith)) pos
            closed) in
            let is = level-lacks (suc t) (omega arith) (λ u a b. un u a (omega arith)) in
            let over = un (suc t) (omega arith) (omega arith) in
            absurd (omega arith)
      ]

  open-after : (t : ℕ) → t < period p i → IsUnserved p i (suc t) → 0 < lacks_after p t i
  open-after zero lt un =
      let all = lack-released p lim (worst_ask p) 0 i 0 h (sym (due-zero p i (first i h))) in
      omega (arith, all, some_worst p lim i h)
  open-after (suc t) lt un =
      let off = quiet-off p (suc t) i 0 (suc t) (first i h) (omega arith) lt (omega (arith, zero-mul (period p i))) in
      let still = lack-quiet p lim (worst_ask p) (suc t) i h off in
      let here = open-step t (omega arith) (open-after t (omega arith) (λ u a b. un u a (omega arith))) un in
      omega arith

  first-open : (t : ℕ) → 0 < t → t ≤ period p i → IsUnserved p i (suc t) → 0 < lacks p t i
  first-open zero pos le un = absurd (omega arith)
  first-open (suc t) pos le un =
      open-step t (omega arith) (open-after t (omega arith) (λ u a b. un u a (omega arith))) un

  -- at the first tick at which the highest speed has done the level's work, the first job lacks nothing
  first-closed : (t : ℕ) → t ≤ period p i → IsUnserved p i t → level_work_in p t i ≤ top_speed p * t → lacks p t i ≡ 0
  first-closed t le un served =
      let mine = sum_where-term (count p) (level p i) (lacks p t) i h (up_to-self (period p) i) in
      let is = level-lacks t le un in
      omega arith

  -- up to its deadline, task i lacks what its first job has not had of its worst case
  first-lack : (t : ℕ) → 0 < t → t ≤ period p i
      → lacks p t i ≡ worst_demand p i 1 - exec p (full_worst_ticks p t) i 1
  first-lack zero pos le = absurd (omega arith)
  first-lack (suc t) pos le =
      let ticks = full_worst_ticks p (suc t) in
      let long = lack-long p lim (worst_ask p) (suc t) in
      let from = release-suc p i 0 in
      let none = due-zero p i (first i h) in
      let until : due p i 1 ≡ period p i = due-is p i 1 (first i h) ∙ one-mul (period p i) in
      let job : latest p i (length ticks - 1) ≡ 1 =
      latest-is p i 1 (length ticks - 1) (omega (arith, from, none)) (omega (arith, until, long)) in
      ap (λ k. worst_demand p i k - exec p ticks i k) job

  pub first-done : (t : ℕ) → 0 < t → t ≤ period p i → IsUnserved p i t → level_work_in p t i ≤ top_speed p * t
      → is_first_done p i t ≡ true
  first-done t pos le un served =
      let none = first-closed t le un served in
      let is = first-lack t pos le in
      le-leb (worst_demand p i 1) (exec p (full_worst_ticks p t) i 1) (omega arith)

  pub first-not_done : (t : ℕ) → t ≤ period p i → IsUnserved p i (suc t) → is_first_done p i t ≡ false
  first-not_done zero le un =
      let all = worst_demand-pos p i 1 (omega arith) in
      let some = some_worst p lim i h in
      let none = exec-early p (full_worst_ticks p 0) i 1 (omega (arith, lack-long p lim (worst_ask p) 0)) in
      let over : exec p (full_worst_ticks p 0) i 1 < worst_demand p i 1 = omega arith in
      grind (arith, nat_tests, over)
  first-not_done (suc t) le un =
      let lacking = first-open (suc t) (omega arith) le un in
      let is = first-lack (suc t) (omega arith) le in
      let over : exec p (full_worst_ticks p (suc t)) i 1 < worst_demand p i 1 = omega arith in
      grind (arith, nat_tests, over)
