-- The units of a tick: how many there are, who holds them, and what they add to what a job has had.
use Rattle.std.proofs.Common.{◌≡◌, ℕ, ◌+◌, ◌-◌, ◌*◌, ◌<◌, ◌≤◌, min, true, ◌&&◌, List, [], ◌∷◌, length, refl, arith, if◌then◌else◌, ap, ◌∙◌, nat_eq, length-append}
use Rattle.std.specs.Prelude.{count_by, sum_by, cond}
use Rattle.std.specs.List.{AllByRecursion}
use Rattle.std.proofs.lemmas.List.{length-replicate}
use Rattle.std.proofs.lemmas.List.Folds.{sum_by-replicate}
use Rattle.std.proofs.lemmas.List.Sums.{sum_by-append}
use Rattle.std.proofs.lemmas.Bool.Decides.{nat_tests}
use Rattle.grid_fraction.specs.Numbers.{sum_below, sum_where}
use Rattle.grid_fraction.proofs.Sums.{sum_below-one, sum_below-same}
use Rattle.sched_model.specs.declared.holder.Holder.{Holder}
use Rattle.sched_model.specs.declared.holder.Holder.TheVariants.{Nobody, Held}
use Rattle.sched_model.specs.Plan.{Plan, count, point, period}
use Rattle.sched_model.specs.Jobs.{JobDemands, latest}
use Rattle.sched_model.specs.Ticks.{PublishedDemand, Tick, exec, share, units_left}
use Rattle.sched_model.specs.Priority.{key_of}
use Rattle.sched_model.specs.Schedule.{IsNext}
use Rattle.sched_model.specs.Notes.{same_holder, given_units, tick_units}
use Rattle.sched_model.proofs.Orders.{sum_list, sum_list-in_order, AreBelow, in_order-below}
use Rattle.sched_model.proofs.Allotments.{down-set-gets}
use Rattle.sched_model.proofs.LevelSums.{sum_below-times}
use Rattle.sched_model.proofs.JobLaws.{latest-is, release-le, lt-due}
use Rattle.dvs_base.proofs.Lists.{each-append, each-replicate}

-- what follows from a fact of each element is a fact of each element
pub each-weaker : {A : Type 0} (P Q : A → Type 0) → ((x : A) → P x → Q x) → (xs : List A) → AllByRecursion P xs → AllByRecursion Q xs
each-weaker P Q h [] all = tt
each-weaker P Q h (x ∷ xs) all = (h x all.0, each-weaker P Q h xs all.1)

-- what holds of the job of each task of a list that gets units holds of the units that these tasks get
each-given : (P : Holder → Type 0) (given job : ℕ → ℕ) (n : ℕ) (tasks : List ℕ) → AreBelow n tasks
    → ((i : ℕ) → i < n → 0 < given i → P (Held i (job i))) → AllByRecursion P (given_units given job tasks)
each-given P given job n [] below h = tt
each-given P given job n (i ∷ tasks) below h = grind (arith, nat_tests, each-append P, each-replicate P, each-given P given job n tasks)

given-long : (given job : ℕ → ℕ) (tasks : List ℕ) → length (given_units given job tasks) ≡ sum_list given tasks
given-long given job [] = refl
given-long given job (i ∷ tasks) = grind (arith, length-append, length-replicate, given-long given job tasks)

-- each unit of a task's job adds the weight of that job to a sum
given-sum : (weight : Holder → ℕ) (given job : ℕ → ℕ) (tasks : List ℕ)
    → sum_by weight (given_units given job tasks) ≡ sum_list (λ i. given i * weight (Held i (job i))) tasks
given-sum weight given job [] = refl
given-sum weight given job (i ∷ tasks) = grind (arith, sum_by-append, sum_by-replicate, given-sum weight given job tasks)

-- a sum over the tasks to which only job k of task i adds
pub sum-own : (n i k : ℕ) (f job : ℕ → ℕ) → i < n
    → sum_below n (λ j. f j * cond (nat_eq i j && nat_eq k (job j)) 1 0) ≡ (if nat_eq k (job i) then f i else 0)
sum-own n i k f job lt = grind (arith, nat_tests, sum_below-one n i)

-- the tick x after `past`
module _ (p : Plan) (past : List Tick) (x : Tick) where
  abbrev key : ℕ → ℕ
  key = key_of p.scheduler p (length past)

  abbrev job : ℕ → ℕ
  job i = latest p i (length past)

  -- how many units are idle
  abbrev idle : ℕ
  idle = (point p x.entry).speed - sum_below (count p) (share x)

  -- the units of a tick are idle, or held by the latest jobs
  pub each-unit : (P : Holder → Type 0) → ((i : ℕ) → i < count p → 0 < share x i → P (Held i (latest p i (length past)))) → P Nobody
      → AllByRecursion P (tick_units p past x)
  each-unit P own none = grind (arith, nat_tests, each-append P, each-given P, each-replicate P, in_order-below)

  pub units-sum : (weight : Holder → ℕ)
      → sum_by weight (tick_units p past x)
      ≡ sum_below (count p) (λ i. share x i * weight (Held i (latest p i (length past))))
      + ((point p x.entry).speed - sum_below (count p) (share x)) * weight Nobody
  units-sum weight = grind (arith, nat_tests, sum_by-append, sum_by-replicate, given-sum, sum_list-in_order)

  -- the weight of a tick's units, if all jobs' units weigh the same
  pub units-weight : (weight : Holder → ℕ) (unit : ℕ) → ((i k : ℕ) → weight (Held i k) ≡ unit)
      → sum_by weight (tick_units p past x)
      ≡ sum_below (count p) (share x) * unit + ((point p x.entry).speed - sum_below (count p) (share x)) * weight Nobody
  units-weight weight unit same =
      units-sum weight
      ∙ omega (
        arith,
        sum_below-same (count p) (λ i. share x i * weight (Held i (job i))) (λ i. unit * share x i)
            (λ i lt. omega (arith, ap (λ w. share x i * w) (same i (job i)))),
        sum_below-times (count p) unit (share x),
      )

  -- the units of a job are its task's share if it is the latest job, otherwise none
  units-own : (i k : ℕ) → i < count p
      → count_by (same_holder (Held i k)) (tick_units p past x) ≡ (if nat_eq k (latest p i (length past)) then share x i else 0)
  units-own i k lt =
      units-sum (λ h. cond (same_holder (Held i k) h) 1 0) ∙ omega (arith, sum-own (count p) i k (share x) job lt)

  -- a tick adds the job's units in it to what the job has had
  pub units-had : ((i : ℕ) → 0 < period p i) → (i k : ℕ) → i < count p → 1 ≤ k
      → exec p (x ∷ past) i k ≡ exec p past i k + count_by (same_holder (Held i k)) (tick_units p past x)
  units-had periods i k lt some_job = grind (arith, units-own i k lt, latest-is, release-le, lt-due)

module _ (p : Plan) (dem : JobDemands) (ask : PublishedDemand) (past : List Tick) (x : Tick) (next : IsNext p dem ask past x) where
  -- a legal tick gives at most its speed
  pub shares-fit : sum_below (count p) (share x) ≤ (point p x.entry).speed
  shares-fit =
      let all : sum_where (count p) (λ j. true) (share x) ≡ min ((point p x.entry).speed) (sum_where (count p) (λ j. true) (units_left p dem past)) =
      down-set-gets (count p) (key_of p.scheduler p (length past)) (λ j. true) ((point p x.entry).speed) (units_left p dem past) (share x)
      (λ j i lj li b on. refl) next.legal in
      omega (arith, all)

  -- a legal tick has as many units as its speed
  pub units-long : length (tick_units p past x) ≡ (point p x.entry).speed
  units-long = grind (arith, length-append, length-replicate, given-long, sum_list-in_order, shares-fit)
