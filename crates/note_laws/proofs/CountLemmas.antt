-- The counts of a schedule's notes, tick by tick. They say once that a job completes, when it has had its demand, and not
-- after its deadline.
use Rattle.std.proofs.Common.{◌≡◌, ◌+◌, Bool, true, false, List, [], ◌∷◌, ◌++◌, refl, arith, ap, ℕ, ◌≤◌, not, ◌&&◌, length, if◌then◌else◌, ◌∙◌, sym, nat_eq, nat_le, ◌-◌, ◌*◌, ◌<◌, inl, nat_lt, div-add-mod', count_by, cond, le_of_mul-le-mul_right}
use Rattle.std.specs.List.{AllByRecursion}
use Rattle.std.proofs.lemmas.List.Sums.{sum_by-cons}
use Rattle.std.proofs.lemmas.Bool.Decides.{nat_tests}
use Rattle.std.proofs.lemmas.Bool.{cases_lt}
use Rattle.sched_model.proofs.NoteSums.{one_if, releases, empty_jobs, completions, release-counts, none-sum, with-end, next-sum, Weighs, weights, nothing, none-weighs, all_done, tells-all, all_done-next, release-sum, tells_done, same-numbers, reached-all, reached-none, done_by, tells-job}
use Rattle.dvs_base.specs.declared.note.Note.{Note}
use Rattle.grid_fraction.specs.Numbers.{sum_below, any_below}
use Rattle.grid_fraction.proofs.Sums.{sum_below-same, sum_below-add, sum_below-le, sum_below-zero}
use Rattle.grid_fraction.proofs.Searches.{any-some}
use Rattle.sched_model.specs.Plan.{Plan, count, period, point}
use Rattle.sched_model.specs.Jobs.{JobDemands, latest, release, releases_at, due}
use Rattle.sched_model.specs.Ticks.{PublishedDemand, Tick, exec, is_done}
use Rattle.sched_model.specs.Decision.{completes_in, is_decision}
use Rattle.sched_model.specs.Schedule.{IsScheduleBy}
use Rattle.sched_model.specs.Admission.{IsWithinLimits}
use Rattle.sched_model.specs.Notes.{tick_units, notes_before_end, notes_of, Span, position_of, all_release_notes}
use Rattle.sched_model.specs.Totals.{is_released, is_finished, is_decided, totals_of}
use Rattle.sched_model.proofs.Limits.{every_period}
use Rattle.sched_model.proofs.LevelSums.{sum_below-term}
use Rattle.sched_model.proofs.JobLaws.{release-le, exec-early, latest-is, lt-due, release-due}
use Rattle.sched_model.proofs.Spans.{stays-unreleased, IsLastSpan, IsNow}
use Rattle.dvs_base.specs.declared.note.Note.TheVariants.{Done}
use Rattle.sched_model.proofs.Units.{sum-own}
use Rattle.sched_model.proofs.Walk.{EachNote, AreFirst, each-note}
use Rattle.dvs_base.proofs.Lists.{each-append}
use Rattle.note_laws.specs.LineCounts.{AreFew, HasFewDecisions}
use Rattle.note_laws.specs.InTime.{IsBy}

pub count-next : {A : Type 0} (test : A → Bool) (x : A) (xs : List A) → count_by test (x ∷ xs) ≡ one_if (test x) + count_by test xs
count-next test x xs = sum_by-cons (λ y. cond (test y) 1 0) x xs

-- if a count is 0, no element of the list passes the test
pub none-counted : {A : Type 0} (test : A → Bool) (xs : List A) → count_by test xs ≡ 0 → AllByRecursion (λ x. test x ≡ false) xs
none-counted test [] e = tt
none-counted test (x ∷ xs) e = grind (arith, count-next test x xs, none-counted test xs (omega (arith, count-next test x xs, e)))

-- a list with exactly one element that passes the test
pub record IsAlone {A : Type 0} (test : A → Bool) (xs : List A) : Type 0 where
  pub front : List A
  pub one : A
  pub back : List A
  pub parts : xs ≡ front ++ one ∷ back
  pub passes : test one ≡ true
  pub none_front : AllByRecursion (λ x. test x ≡ false) front
  pub none_back : AllByRecursion (λ x. test x ≡ false) back

-- if a count is 1, there is exactly one such element
pub alone : {A : Type 0} (test : A → Bool) (xs : List A) → count_by test xs ≡ 1 → IsAlone test xs
alone test [] e = absurd (omega (arith, e))
alone test (x ∷ xs) e = go (test x) refl (alone test xs)
  where
    go : (b : Bool) → test x ≡ b → (count_by test xs ≡ 1 → IsAlone test xs) → IsAlone test (x ∷ xs)
    go true f ih =
        let none : count_by test xs ≡ 0 = omega (arith, count-next test x xs, e, ap one_if f) in
        record { front = []; one = x; back = xs; parts = refl; passes = f; none_front = tt; none_back = none-counted test xs none }
    go false f ih =
        let r = ih (omega (arith, count-next test x xs, e, ap one_if f)) in
        record {
          front = x ∷ r.front;
          one = r.one;
          back = r.back;
          parts = ap (λ ys. x ∷ ys) r.parts;
          passes = r.passes;
          none_front = (f, r.none_front);
          none_back = r.none_back;
        }

module _ (p : Plan) (dem : JobDemands) (ask : PublishedDemand) (lim : IsWithinLimits p) (needless : (i : ℕ) → dem i 0 ≡ 0) where
  abbrev notes : List Tick → List Note
  notes = notes_before_end p dem ask

  -- what tick x adds to the counts
  pub record Adds (x : Tick) (past : List Tick) : Type 0 where
    pub released : count_by is_released (notes (x ∷ past)) ≡ count_by is_released (notes past) + releases p (length past)
    pub decided : count_by is_decided (notes (x ∷ past)) ≡ count_by is_decided (notes past) + one_if (is_decision p dem past)
    pub finished : count_by is_finished (notes (x ∷ past))
        ≡ count_by is_finished (notes past) + empty_jobs p dem (length past) + completions p dem x past

  pub adds : (x : Tick) (past : List Tick) → IsScheduleBy p dem ask (x ∷ past) → Adds x past
  adds x past h = record {
    released =
        omega (
          arith,
          next-sum p dem ask (λ note. cond (is_released note) 1 0) nothing (λ t ticks. 0) (weights p dem ask _ nothing releases-weigh) x past h,
          none-weighs (tick_units p past x),
          release-counts p dem (length past) (λ note. cond (is_released note) 1 0) 1 0 (λ i k. refl) (λ i k. refl),
        );
    decided =
        omega (
          arith,
          next-sum p dem ask (λ note. cond (is_decided note) 1 0) nothing (λ t ticks. 0) (weights p dem ask _ nothing decisions-weigh) x past h,
          none-weighs (tick_units p past x),
          release-counts p dem (length past) (λ note. cond (is_decided note) 1 0) 0 0 (λ i k. refl) (λ i k. refl),
        );
    finished =
        omega (
          arith,
          next-sum p dem ask (λ note. cond (is_finished note) 1 0) nothing (all_done p dem ask) (tells-all p dem ask lim needless) x past h,
          all_done-next p dem ask x past,
          none-weighs (tick_units p past x),
          release-counts p dem (length past) (λ note. cond (is_finished note) 1 0) 0 1 (λ i k. refl) (λ i k. refl),
        );
  }
    where
      releases-weigh : Weighs p dem ask (λ note. cond (is_released note) 1 0) nothing
      releases-weigh = record { run = λ from to i k units e. omega arith; idle = λ from to units e. omega arith; done = λ at_end i k used. refl }

      decisions-weigh : Weighs p dem ask (λ note. cond (is_decided note) 1 0) nothing
      decisions-weigh = record { run = λ from to i k units e. omega arith; idle = λ from to units e. omega arith; done = λ at_end i k used. refl }

  -- 1 if the latest job of task i at tick t still needs units after these ticks, otherwise 0
  abbrev lacks : List Tick → ℕ → ℕ → ℕ
  lacks ticks t i = if is_done p dem ticks i (latest p i t) then 0 else 1

  -- 1 if the latest job of task i is open after these ticks, otherwise 0
  abbrev open_job : List Tick → ℕ → ℕ
  open_job [] i = 0
  open_job (x ∷ past) i = lacks (x ∷ past) (length past) i

  abbrev open_jobs : List Tick → ℕ
  open_jobs ticks = sum_below (count p) (open_job ticks)

  -- 1 if a job completed in the last tick, otherwise 0
  abbrev fresh : List Tick → ℕ
  fresh [] = 0
  fresh (x ∷ past) = one_if (any_below (count p) (λ i. completes_in p dem x past i))

  -- 1 before the first tick, where a decision needs no cause, otherwise 0
  abbrev start : List Tick → ℕ
  start [] = 1
  start (x ∷ past) = 0

  -- a sum of ones over the tasks has one if a task passes the test
  some-counted : (test : ℕ → Bool) → one_if (any_below (count p) test) ≤ sum_below (count p) (λ i. one_if (test i))
  some-counted test = go (any_below (count p) test) refl
    where
      go : (b : Bool) → any_below (count p) test ≡ b → one_if b ≤ sum_below (count p) (λ i. one_if (test i))
      go true e = let (i, lt, on) = any-some (count p) test e in omega (arith, sum_below-term (count p) (λ j. one_if (test j)) i lt, ap one_if on)
      go false e = omega arith

  -- a decision is at tick 0, at a release, or just after a completion
  decision-cause : (past : List Tick) → one_if (is_decision p dem past) ≤ start past + (fresh past + releases p (length past))
  decision-cause past = grind (arith, nat_tests, some-counted, one_if)

  -- if task i has no release, its open job before is its latest job, unless that has had its demand
  open-before : (past : List Tick) (i : ℕ) → releases_at p i (length past) ≡ false → open_job past i ≡ lacks past (length past) i
  open-before [] i unreleased = rw (first (latest p i 0) refl) refl
    where
      first : (k : ℕ) → latest p i 0 ≡ k → nat_le (dem i (latest p i 0)) 0 ≡ true
      first k e = grind (arith, nat_tests, release-le, every_period)
  open-before (x ∷ past) i unreleased =
      ap (λ k. if is_done p dem (x ∷ past) i k then 0 else 1) (sym (stays-unreleased p dem (every_period p lim) x past i unreleased))

  -- a job that is open after tick x was open in it and doesn't complete in it
  open-after : (x : Tick) (past : List Tick) → open_jobs (x ∷ past) + completions p dem x past ≡ sum_below (count p) (lacks past (length past))
  open-after x past =
      sym (sum_below-add (count p) (open_job (x ∷ past)) (λ i. one_if (completes_in p dem x past i)))
      ∙ sum_below-same (count p) (λ i. open_job (x ∷ past) i + one_if (completes_in p dem x past i)) (lacks past (length past))
      (λ i lt. one i (job i) (is_done p dem past i (job i)) refl (is_done p dem (x ∷ past) i (job i)) refl)
    where
      job : ℕ → ℕ
      job i = latest p i (length past)

      one : (i k : ℕ) (a : Bool) → is_done p dem past i k ≡ a → (b : Bool) → is_done p dem (x ∷ past) i k ≡ b
          → (if is_done p dem (x ∷ past) i k then 0 else 1) + one_if (not (is_done p dem past i k) && is_done p dem (x ∷ past) i k)
          ≡ (if is_done p dem past i k then 0 else 1)
      one i k a e b f = grind (arith, nat_tests)

  -- at a tick, the jobs released with no demand and those that are then open are at most those open before and those released
  open-most : (past : List Tick)
      → empty_jobs p dem (length past) + sum_below (count p) (lacks past (length past)) ≤ open_jobs past + releases p (length past)
  open-most past =
      omega (
        arith,
        sum_below-add (count p) empty (lacks past t),
        sum_below-add (count p) (open_job past) (λ i. one_if (releases_at p i t)),
        sum_below-le (count p) (λ i. empty i + lacks past t i) (λ i. open_job past i + one_if (releases_at p i t)) (λ i lt. each i (releases_at p i t) refl),
      )
    where
      t : ℕ
      t = length past

      empty : ℕ → ℕ
      empty i = one_if (releases_at p i t && nat_eq (dem i (latest p i t)) 0)

      each : (i : ℕ) (b : Bool) → releases_at p i t ≡ b → empty i + lacks past t i ≤ open_job past i + one_if (releases_at p i t)
      each i b e = grind (arith, nat_tests, open-before, exec-early, one_if)

  -- the counts over the notes of these ticks are balanced: decisions by their causes, and completions by releases
  record Balanced (ticks : List Tick) : Type 0 where
    decisions : count_by is_decided (notes ticks) + (fresh ticks + start ticks) ≤ 1 + (count_by is_released (notes ticks) + count_by is_finished (notes ticks))
    completed : count_by is_finished (notes ticks) + open_jobs ticks ≤ count_by is_released (notes ticks)

  balanced : (ticks : List Tick) → IsScheduleBy p dem ask ticks → Balanced ticks
  balanced [] h = grind (arith, nat_tests, none-sum, sum_below-zero)
  balanced (x ∷ past) h = grind (arith, adds, decision-cause, some-counted, open-after, open-most, balanced past h.0)

  pub few : (ticks : List Tick) → IsScheduleBy p dem ask ticks → AreFew (totals_of (notes_of p dem ask ticks))
  few ticks h = grind (arith, nat_tests, balanced, with-end, completions)

-- every schedule has few decisions
pub has-few : (p : Plan) → IsWithinLimits p → HasFewDecisions p
has-few p lim dem needless ask ticks h = few p dem ask lim needless ticks h

-- if the note is the completion of job k of task i, it isn't after the beginning of tick t
abbrev pub IsInTime : ℕ → ℕ → ℕ → Note → Type 0
IsInTime t i k (Done at_end j l used) = (nat_eq i j && nat_eq k l) ≡ true → IsBy t at_end
IsInTime t i k _ = Unit {0}

-- a unit boundary within the units of n ticks is not after their end
by-end : (from f n q t : ℕ) → 0 < f → from + n ≤ t → q ≤ n * f → IsBy t (position_of from f q)
by-end from f n q t some le within = grind (arith, div-add-mod' q f, le_of_mul-le-mul_right)

module _ (p : Plan) (dem : JobDemands) (ask : PublishedDemand) (lim : IsWithinLimits p) (i k : ℕ) (inside : i < count p) (some_job : 1 ≤ k) where
  some : 0 < period p i
  some = every_period p lim i

  -- how often the notes say that the job completes
  abbrev told : List Note → ℕ
  told = count_by (tells_done i k)

  -- the release notes of a tick have the completion of the job if it is released there and needs nothing
  at-release : (t : ℕ) → told (all_release_notes p dem t) ≡ one_if (nat_eq (dem i k) 0 && nat_eq (release p i k) t)
  at-release t =
      release-sum p dem t (λ note. cond (tells_done i k note) 1 0)
      ∙ (sum_below-same (count p) _ (λ j. empty j * cond (nat_eq i j && nat_eq k (latest p j t)) 1 0) (λ j lt. omega arith)
      ∙ (sum-own (count p) i k empty (λ j. latest p j t) inside ∙ on (nat_eq k (latest p i t)) refl))
    where
      empty : ℕ → ℕ
      empty j = one_if (releases_at p j t && nat_eq (dem j (latest p j t)) 0)

      on : (b : Bool) → nat_eq k (latest p i t) ≡ b
          → (if nat_eq k (latest p i t) then empty i else 0) ≡ one_if (nat_eq (dem i k) 0 && nat_eq (release p i k) t)
      on b e = grind (arith, nat_tests, one_if, latest-is, release-due, some)

  -- what tick x adds to the number of the job's completions
  completion-adds : (x : Tick) (past : List Tick) → IsScheduleBy p dem ask (x ∷ past)
      → told (notes_before_end p dem ask (x ∷ past)) + done_by p dem i k past
      ≡ told (notes_before_end p dem ask past) + one_if (nat_eq (dem i k) 0 && nat_eq (release p i k) (length past)) + done_by p dem i k (x ∷ past)
  completion-adds x past h =
      omega (
        arith,
        next-sum p dem ask (λ note. cond (tells_done i k note) 1 0) nothing (λ t. done_by p dem i k) (tells-job p dem ask lim i k inside some_job) x past h,
        none-weighs (tick_units p past x),
        at-release (length past),
      )

  told-none : told (notes_before_end p dem ask []) ≡ 0
  told-none = none-sum p dem ask (λ note. cond (tells_done i k note) 1 0)

  -- a job that needs nothing is completed by its release, and another once it has had its demand
  told-empty : dem i k ≡ 0 → (ticks : List Tick) → IsScheduleBy p dem ask ticks
      → told (notes_before_end p dem ask ticks) ≡ one_if (nat_lt (release p i k) (length ticks))
  told-empty none [] h = let never : nat_lt (release p i k) 0 ≡ false = grind (arith, nat_tests) in rw never told-none
  told-empty none (x ∷ past) h = grind (arith, completion-adds, told-empty none past h.0)

  told-some : 0 < dem i k → (ticks : List Tick) → IsScheduleBy p dem ask ticks → told (notes_before_end p dem ask ticks) ≡ done_by p dem i k ticks
  told-some needs [] h = omega (arith, told-none, reached-none (dem i k) 0 needs)
  told-some needs (x ∷ past) h = grind (arith, completion-adds, told-some needs past h.0)

  -- the last note of a schedule is no completion
  all-told : (ticks : List Tick) → told (notes_of p dem ask ticks) ≡ told (notes_before_end p dem ask ticks)
  all-told ticks = omega (arith, with-end p dem ask (λ note. cond (tells_done i k note) 1 0) ticks)

  -- of a job that has had its demand, the notes of a schedule have the completion once
  pub told-once : (ticks : List Tick) → IsScheduleBy p dem ask ticks → release p i k < length ticks → exec p ticks i k ≡ dem i k
      → count_by (tells_done i k) (notes_of p dem ask ticks) ≡ 1
  told-once ticks h began had = grind (arith, nat_tests, all-told, cases_lt, told-some, reached-all, told-empty, one_if)

  -- of a job that isn't released yet, the notes of a schedule have no completion
  pub told-never : (ticks : List Tick) → IsScheduleBy p dem ask ticks → length ticks ≤ release p i k
      → count_by (tells_done i k) (notes_of p dem ask ticks) ≡ 0
  told-never ticks h later = grind (arith, nat_tests, all-told, cases_lt, told-some, reached-none, exec-early, told-empty, one_if)

  -- no note of a schedule says that the job completes after its deadline
  pub in-time : (ticks : List Tick) → IsScheduleBy p dem ask ticks → AllByRecursion (IsInTime (due p i k) i k) (notes_of p dem ask ticks)
  in-time ticks h =
      each-append (IsInTime (due p i k) i k) (notes_before_end p dem ask ticks) _
      (each-note p dem ask lim (IsInTime (due p i k) i k) ticks each h) (tt, tt)
    where
      each : (x : Tick) (past : List Tick) (s : Span) → AreFirst p dem ask (x ∷ past) ticks → IsLastSpan p dem ask x past s
          → EachNote p dem ask (IsInTime (due p i k) i k) (IsNow p dem (length past)) s
      each x past s first span = record {
        release = λ j lt. tt;
        empty = λ j lt none mine.
            inl (omega (arith, lt-due p j (length s.past) (every_period p lim j), same-numbers (due p) i j k (latest p j (length s.past)) mine));
        decision = tt;
        idle = λ q units le. tt;
        run = λ q units j l le now. tt;
        done = λ q j l le now whole mine.
            let until : length past < due p i k =
            omega (arith, lt-due p j (length past) (every_period p lim j), ap (due p j) now.1, same-numbers (due p) i j k l mine) in
            by-end (length s.past) ((point p s.entry).speed) (length (x ∷ past) - length s.past) q (due p i k)
            (lim.machine.each s.entry (span.entry lim)).some_speed (omega (arith, until, span.shorter)) (omega (arith, le, span.long));
      }
