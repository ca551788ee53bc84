-- Every constrained schedule is met if the processor demand of each span fits into what the speed does in it, and the
-- schedule of worst cases is met only there.
use Rattle.std.proofs.Common.{◌≡◌, ℕ, zero, suc, ◌+◌, ◌-◌, ◌*◌, ◌<◌, ◌≤◌, min, Bool, true, false, List, [], ◌∷◌, length, refl, arith, if◌then◌else◌, inl, inr, ◌/◌, nat_le, ap, ◌∙◌, sym, subst, eq-or-lt_of_le, add-one, div-mul-le_self, mul-le-mul_right}
use Rattle.std.proofs.lemmas.Bool.Decides.{nat_tests}
use Rattle.std.proofs.lemmas.Bool.{le-leb, leb-true, cases_lt}
use Rattle.grid_fraction.specs.Numbers.{sum_below, sum_where}
use Rattle.grid_fraction.proofs.Sums.{sum_below-le, sum_below-add, sum_below-least, sum_below-zero}
use Rattle.sched_model.specs.Plan.{Plan, count, period, worst, offset}
use Rattle.sched_model.specs.Jobs.{release, due, latest, JobDemands, worst_demand, IsWithin}
use Rattle.sched_model.specs.Ticks.{Tick, exec, units_left, share, at}
use Rattle.sched_model.proofs.Allotments.{down-set-gets, due_by_gets}
use Rattle.sched_model.proofs.JobLaws.{latest-is, release-due, latest-pos, latest-stays, latest-next, release-suc, lt-due, exec-latest}
use Rattle.sched_model.proofs.Schedules.{exec-drop, exec-within, at-now, at-before}
use Rattle.sched_model.proofs.Served.{served, jobs-served}
use Rattle.sched_model.proofs.LevelSums.{share-most, sum_where-plus, sum_where-mono, sum_where-all, sum_where-term}
use Rattle.edf_demand_laws.specs.Constrained.{IsConstrained, absolute, key_at, IsScheduleAt, IsMetBy, IsNextAt}
use Rattle.edf_demand_laws.specs.ProcessorDemand.{jobs_due, work_due, processor_demand}
use Rattle.edf_demand_laws.proofs.JobsDue.{jobs_due-below, jobs_due-above}
use Rattle.edf_demand_laws.proofs.AllSpans.{absolute-suc}

-- the tasks got at most the speed times the number of ticks
all-served : (p : Plan) (relative : ℕ → ℕ) (dem : JobDemands) (f : ℕ) (past : List Tick)
    → IsScheduleAt p relative dem f past → sum_below (count p) (served past) ≤ f * length past
all-served p relative dem f [] h = omega (arith, sum_below-zero (count p) (λ k. 0) (λ k lt. refl))
all-served p relative dem f (x ∷ past) h =
    let n = count p in
    let tick : sum_where n (λ k. true) (share x) ≡ min f (sum_where n (λ k. true) (units_left p dem past)) =
    down-set-gets n (key_at p relative (length past)) (λ k. true) f (units_left p dem past) (share x)
    (λ j i lj li b e. refl) h.1.legal in
    let more : length (x ∷ past) ≡ length past + 1 = omega arith in
    let whole : sum_below n (λ i. served past i + share x i) ≡ sum_below n (served past) + sum_below n (share x) =
    sum_below-add n (served past) (share x) in
    rw more (omega (arith, tick, whole, all-served p relative dem f past h.0))

-- a schedule of worst cases that is met has done all the work that is due within it
pub needed : (p : Plan) (relative : ℕ → ℕ) → IsConstrained p relative → (f : ℕ) (ticks : List Tick)
    → IsScheduleAt p relative (worst_demand p) f ticks → IsMetBy p relative (worst_demand p) ticks
    → processor_demand p relative (length ticks) ≤ f * length ticks
needed p relative con f ticks h met =
    omega (
      arith,
      all-served p relative (worst_demand p) f ticks h,
      sum_below-le (count p) (work_due p relative (length ticks)) (served ticks) each,
    )
  where
    each : (i : ℕ) → i < count p → work_due p relative (length ticks) i ≤ served ticks i
    each i lt =
        let m = jobs_due (period p i) (relative i) (length ticks) in
        omega (
          arith,
          jobs-served p i m ticks,
          sum_below-least m (worst p i) (λ k. exec p ticks i (suc k)) (λ k l.
              let is = absolute-suc p relative i k (con.first i lt) in
              let low = jobs_due-below (period p i) (relative i) (length ticks) k l in
              let by : absolute p relative i (suc k) ≤ length ticks = omega (arith, is, low) in
              let had = met i (suc k) lt (omega arith) by in
              omega (arith, had, exec-drop p i (suc k) (length ticks - absolute p relative i (suc k)) ticks)),
        )

-- no job gets more in a tick than it needs, so it has had no more than its demand
pub own-share : (p : Plan) (relative : ℕ → ℕ) (dem : JobDemands) (f : ℕ) (past : List Tick) (x : Tick)
    → IsNextAt p relative dem f past x → (i : ℕ) → i < count p → share x i ≤ units_left p dem past i
own-share p relative dem f past x next i lt =
    share-most (count p) (key_at p relative (length past)) f (units_left p dem past) (share x) next.legal i lt

pub had-most : (p : Plan) (relative : ℕ → ℕ) (dem : JobDemands) (f : ℕ) (past : List Tick)
    → IsScheduleAt p relative dem f past → (i k : ℕ) → i < count p → exec p past i k ≤ dem i k
had-most p relative dem f [] h i k lt = omega arith
had-most p relative dem f (x ∷ past) h i k lt =
    exec-within p dem x past i k (own-share p relative dem f past x h.1 i lt) (had-most p relative dem f past h.0 i k lt)

-- a job is its task's latest in the tick before its absolute deadline
pub latest-before : (p : Plan) (relative : ℕ → ℕ) → IsConstrained p relative → (i k t : ℕ) → i < count p → 1 ≤ k
    → absolute p relative i k ≡ t + 1 → latest p i t ≡ k
latest-before p relative con i k t lt some e =
    latest-is p i k t (omega (arith, con.some i lt)) (omega (arith, con.within i lt, release-due p i k some))

-- the number of jobs of a task by d after the one with the absolute deadline `key`
abbrev pub jobs_after : ℕ → ℕ → ℕ → ℕ
jobs_after every key d = (d - key) / every

jobs_after-step : (every key d : ℕ) → 0 < every → key + every ≤ d
    → jobs_after every key d ≡ jobs_after every (key + every) d + 1
jobs_after-step every key d some le = grind arith

-- the jobs by d after `key` are among those due in the span from t to d, if t is at most the next release
jobs_after-most : (every within key d t : ℕ) → 0 < every → t + within ≤ key + every
    → jobs_after every key d ≤ jobs_due every within (d - t)
jobs_after-most every within key d t some le = go (jobs_after every key d) (div-mul-le_self (d - key) every)
  where
    go : (m : ℕ) → m * every ≤ d - key → m ≤ jobs_due every within (d - t)
    go zero low = omega arith
    go (suc m) low = jobs_due-above every within (d - t) m some (omega arith)

first-release : (p : Plan) (i : ℕ) → offset p i ≡ 0 → release p i 1 ≡ 0
unfolding release
first-release p i first = omega (arith, first)

module _ (p : Plan) (relative : ℕ → ℕ) (dem : JobDemands) (f : ℕ) (periods : (i : ℕ) → 0 < period p i)
    (con : IsConstrained p relative) (within : IsWithin p dem)
    (fits : (d : ℕ) → processor_demand p relative d ≤ f * d) where
  -- whether the absolute deadline of the latest job of task i is at most d
  abbrev is_near : ℕ → ℕ → ℕ → Bool
  is_near t d i = nat_le (key_at p relative t i) d

  -- the work of the jobs of task i after the latest one with absolute deadlines up to d
  abbrev after : ℕ → ℕ → ℕ → ℕ
  after t d i = jobs_after (period p i) (key_at p relative t i) d * worst p i

  -- the work still to do by d: of the latest jobs, and of the jobs after them
  abbrev open_work : List Tick → ℕ → ℕ
  open_work past d = sum_where (count p) (is_near (length past) d) (λ i. units_left p dem past i + after (length past) d i)

  -- the work of the jobs of task i that are due by d
  abbrev work_by : ℕ → ℕ → ℕ
  work_by d i = work_due p relative d i

  -- for each tick d from the present one on, the work still to do by d fits into what the speed does up to d
  abbrev IsCalm : List Tick → Type 0
  IsCalm past = (d : ℕ) → length past ≤ d → open_work past d ≤ f * (d - length past)

  -- the work still to do by d after the tick x, before the next releases
  abbrev rest_work : Tick → List Tick → ℕ → ℕ
  rest_work x past d =
      sum_where (count p) (is_near (length past) d) (λ i. (units_left p dem past i - share x i) + after (length past) d i)

  -- each task has its first job from tick 0 on
  some-job : (i t : ℕ) → i < count p → 0 < latest p i t
  some-job i t lt = latest-pos p i t (omega (arith, con.first i lt))

  first-job : (i : ℕ) → i < count p → latest p i 0 ≡ 1
  first-job i lt = grind (arith, first-release p i (con.first i lt), latest-is, release-due p i 1 (omega arith))

  calm-start : IsCalm []
  calm-start d le =
      let whole : d - 0 ≡ d = omega arith in
      rw whole (omega (arith, fits d, all))
    where
      each : (i : ℕ) → i < count p → (b : Bool) → nat_le (key_at p relative 0 i) d ≡ b
          → (if b then units_left p dem [] i + after 0 d i else 0) ≤ work_by d i
      each i lt true e =
          let key : key_at p relative 0 i ≡ relative i =
          ap (absolute p relative i) (first-job i lt) ∙ omega (arith, first-release p i (con.first i lt)) in
          let needs : units_left p dem [] i ≤ worst p i = omega (arith, within.most i (latest p i 0) lt) in
          let near : nat_le (relative i) d ≡ true = subst (λ (k : ℕ). nat_le k d ≡ true) key e in
          let later : after 0 d i ≡ (d - relative i) / period p i * worst p i =
          ap (λ (k : ℕ). (d - k) / period p i * worst p i) key in
          rw near (omega (arith, needs, later))
      each i lt false e = omega arith

      all : open_work [] d ≤ sum_below (count p) (work_by d)
      all =
          sum_below-le (count p) (λ i. if is_near 0 d i then units_left p dem [] i + after 0 d i else 0) (work_by d)
          (λ i lt. each i lt (is_near 0 d i) refl)

  -- after the tick x, before the next releases, the work still to do by d fits into what the speed does up to d
  calm-tick : (x : Tick) (past : List Tick) → IsNextAt p relative dem f past x → IsCalm past
      → (d : ℕ) → length past + 1 ≤ d → rest_work x past d ≤ f * (d - (length past + 1))
  calm-tick x past next calm d le = elim (cases_lt (sum_where n near needs) f) [
    | inl small ↦ omega (arith, split, gets, parts, some_rest, fits (d - (t + 1)), most)
    | inr full ↦
        let span : d - t ≡ (d - (t + 1)) + 1 = omega arith in
        let before : open_work past d ≤ f * ((d - (t + 1)) + 1) =
        subst (λ (m : ℕ). open_work past d ≤ f * m) span (calm d (omega arith)) in
        omega (arith, split, gets, parts, some_rest, whole, before)
  ]
    where
      n : ℕ
      n = count p

      t : ℕ
      t = length past

      near : ℕ → Bool
      near = is_near t d

      needs : ℕ → ℕ
      needs = units_left p dem past

      rest : ℕ → ℕ
      rest = λ i. needs i - share x i

      split : rest_work x past d ≡ sum_where n near rest + sum_where n near (after t d)
      split = sum_where-plus n near rest (after t d)

      whole : open_work past d ≡ sum_where n near needs + sum_where n near (after t d)
      whole = sum_where-plus n near needs (after t d)

      gets : sum_where n near (share x) ≡ min f (sum_where n near needs)
      gets = due_by_gets n (key_at p relative t) d f needs (share x) next.legal

      parts : sum_where n near (λ i. rest i + share x i) ≡ sum_where n near rest + sum_where n near (share x)
      parts = sum_where-plus n near rest (share x)

      some_rest : sum_where n near (λ i. rest i + share x i) ≤ sum_where n near needs
      some_rest =
          sum_where-mono n near (λ i. rest i + share x i) needs
          (λ i lt on. let own = own-share p relative dem f past x next i lt in omega arith)

      each : (i : ℕ) → i < n → after t d i ≤ work_by (d - (t + 1)) i
      each i lt =
          let k = latest p i t in
          let later : t < due p i k = lt-due p i t (periods i) in
          let long : release p i k + period p i ≡ due p i k = release-due p i k (some-job i t lt) in
          let key = key_at p relative t i in
          mul-le-mul_right (worst p i)
          (jobs_after-most (period p i) (relative i) key d (t + 1) (periods i) (omega (arith, later, long)))

      most : sum_where n near (after t d) ≤ processor_demand p relative (d - (t + 1))
      most = sum_where-all n near (after t d) (work_by (d - (t + 1))) each

  -- the releases after a tick add nothing to a task's work by d: the job released is one of those to come
  calm-task : (x : Tick) (past : List Tick) (d i : ℕ) → i < count p
      → (if is_near (length past + 1) d i then units_left p dem (x ∷ past) i + after (length past + 1) d i else 0)
      ≤ (if is_near (length past) d i then (units_left p dem past i - share x i) + after (length past) d i else 0)
  calm-task x past d i lt = elim (eq-or-lt_of_le later) [
    | inr stays ↦
        let same : latest p i (t + 1) ≡ k = latest-stays p i t (periods i) stays in
        let key : key_at p relative (t + 1) i ≡ key_at p relative t i = ap (absolute p relative i) same in
        let job : latest p i (length (x ∷ past)) ≡ k = subst (λ (m : ℕ). latest p i m ≡ k) (add-one t) same in
        let needs : units_left p dem (x ∷ past) i ≡ dem i k - exec p (x ∷ past) i k =
        ap (λ (m : ℕ). dem i m - exec p (x ∷ past) i m) job in
        let had : exec p (x ∷ past) i k ≡ exec p past i k + share x i =
        exec-latest p x past i (periods i) (some-job i t lt) in
        let rest : units_left p dem (x ∷ past) i ≤ units_left p dem past i - share x i = omega (arith, needs, had) in
        still (nat_le (key_at p relative t i) d) (nat_le (key_at p relative (t + 1) i) d)
        (ap (λ (m : ℕ). nat_le m d) key) rest (ap (λ (m : ℕ). jobs_after (period p i) m d * worst p i) key)
    | inl next ↦
        let same : latest p i (t + 1) ≡ k + 1 = latest-next p i t (periods i) next in
        let long = release-due p i k (some-job i t lt) in
        let key : key_at p relative (t + 1) i ≡ key_at p relative t i + period p i =
        ap (absolute p relative i) same ∙ omega (arith, release-suc p i k, long) in
        let needs : units_left p dem (x ∷ past) i ≤ worst p i =
        omega (arith, within.most i (latest p i (length (x ∷ past))) lt) in
        moved (nat_le (key_at p relative (t + 1) i) d) refl key needs
  ]
    where
      t : ℕ
      t = length past

      k : ℕ
      k = latest p i t

      later : t + 1 ≤ due p i k
      later = omega (arith, lt-due p i t (periods i))

      still : (b c : Bool) → c ≡ b → units_left p dem (x ∷ past) i ≤ units_left p dem past i - share x i
          → after (t + 1) d i ≡ after t d i
          → (if c then units_left p dem (x ∷ past) i + after (t + 1) d i else 0)
          ≤ (if b then (units_left p dem past i - share x i) + after t d i else 0)
      still true c e rest same = rw e (omega arith)
      still false c e rest same = rw e (omega arith)

      moved : (b : Bool) → nat_le (key_at p relative (t + 1) i) d ≡ b
          → key_at p relative (t + 1) i ≡ key_at p relative t i + period p i → units_left p dem (x ∷ past) i ≤ worst p i
          → (if b then units_left p dem (x ∷ past) i + after (t + 1) d i else 0)
          ≤ (if is_near t d i then (units_left p dem past i - share x i) + after t d i else 0)
      moved true e key needs =
          let by : key_at p relative (t + 1) i ≤ d = leb-true (key_at p relative (t + 1) i) d e in
          let near : is_near t d i ≡ true = le-leb (key_at p relative t i) d (omega arith) in
          let one : jobs_after (period p i) (key_at p relative t i) d
          ≡ jobs_after (period p i) (key_at p relative (t + 1) i) d + 1 =
          jobs_after-step (period p i) (key_at p relative t i) d (periods i) (omega arith)
          ∙ ap (λ (m : ℕ). jobs_after (period p i) m d + 1) (sym key) in
          let more : after t d i ≡ after (t + 1) d i + worst p i = ap (λ (m : ℕ). m * worst p i) one ∙ omega arith in
          rw near (omega (arith, needs, more))
      moved false e key needs = omega arith

  calm-next : (x : Tick) (past : List Tick) → IsNextAt p relative dem f past x → IsCalm past → IsCalm (x ∷ past)
  calm-next x past next calm d le = grind (arith, sum_below-le, calm-task x past d, calm-tick x past next calm d (omega arith))

  calm : (past : List Tick) → IsScheduleAt p relative dem f past → IsCalm past
  calm [] h = calm-start
  calm (x ∷ past) h = calm-next x past h.1 (calm past h.0)

  -- a job whose absolute deadline is the end of a tick has had its demand by then
  met-now : (x : Tick) (past : List Tick) → IsScheduleAt p relative dem f (x ∷ past) → (i k : ℕ) → i < count p → 1 ≤ k
      → absolute p relative i k ≡ length past + 1 → exec p (x ∷ past) i k ≡ dem i k
  met-now x past h i k lt some e =
      let t = length past in
      let job : latest p i t ≡ k = latest-before p relative con i k t lt some e in
      let key : key_at p relative t i ≤ t + 1 = omega (arith, ap (absolute p relative i) job) in
      let rest : ℕ → ℕ = λ j. (units_left p dem past j - share x j) + after t (t + 1) j in
      let mine =
      sum_where-term (count p) (is_near t (t + 1)) rest i lt (le-leb (key_at p relative t i) (t + 1) key) in
      let none : (t + 1) - (t + 1) ≡ 0 = omega arith in
      let now = calm-tick x past h.1 (calm past h.0) (t + 1) (omega arith) in
      let all : rest_work x past (t + 1) ≤ f * 0 = subst (λ (m : ℕ). rest_work x past (t + 1) ≤ f * m) none now in
      let needs : units_left p dem past i ≡ dem i k - exec p past i k = ap (λ (m : ℕ). dem i m - exec p past i m) job in
      let had : exec p (x ∷ past) i k ≡ exec p past i k + share x i =
      subst (λ (m : ℕ). exec p (x ∷ past) i m ≡ exec p past i m + share x i) job
      (exec-latest p x past i (periods i) (some-job i t lt)) in
      let own = own-share p relative dem f past x h.1 i lt in
      let before = had-most p relative dem f past h.0 i k lt in
      omega (arith, mine, all, needs, had, own, before)

  -- every constrained schedule at the speed f is met, for each number of ticks
  pub enough : (ticks : List Tick) → IsScheduleAt p relative dem f ticks → IsMetBy p relative dem ticks
  enough [] h i k lt some le = absurd (omega (arith, con.some i lt))
  enough (x ∷ past) h i k lt some le = elim (eq-or-lt_of_le le) [
    | inl now ↦
        let whole : at (absolute p relative i k) (x ∷ past) ≡ x ∷ past =
        ap (λ (r : ℕ). at r (x ∷ past)) now ∙ at-now (x ∷ past) in
        ap (λ (ps : List Tick). exec p ps i k) whole ∙ met-now x past h i k lt some (omega arith)
    | inr earlier ↦
        let shorter : at (absolute p relative i k) (x ∷ past) ≡ at (absolute p relative i k) past =
        at-before (absolute p relative i k) x past (omega arith) in
        ap (λ (ps : List Tick). exec p ps i k) shorter ∙ enough past h.0 i k lt some (omega arith)
  ]
