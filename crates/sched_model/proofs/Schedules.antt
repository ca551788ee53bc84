-- There is exactly one schedule of each length, with the entry in force on it and what its jobs have had.
use Rattle.std.proofs.Common.{◌≡◌, ℕ, zero, suc, ◌<◌, true, List, [], ◌∷◌, length, get_or, refl, arith, ap, ◌∙◌, sym, subst, drop, ◌-◌, ◌≤◌}
use Rattle.std.proofs.lemmas.List.{ext_get_or}
use Rattle.std.proofs.lemmas.Bool.Decides.{nat_tests}
use Rattle.freq_table.specs.Tables.{lowest_entry}
use Rattle.freq_table.proofs.Chosen.{lowest_within}
use Rattle.grid_fraction.specs.Numbers.{list_below}
use Rattle.sched_model.specs.Plan.{Plan, count, point}
use Rattle.sched_model.specs.Jobs.{JobDemands}
use Rattle.sched_model.specs.Decision.{is_decision}
use Rattle.sched_model.specs.Ticks.{PublishedDemand, Tick, share, units_left, exec, at}
use Rattle.sched_model.specs.Priority.{allotment, key_of, IsLegal}
use Rattle.sched_model.specs.Schedule.{entry_in_force, IsNext, IsScheduleBy, next_tick, schedule_by}
use Rattle.grid_fraction.proofs.Tables.{get-table}
use Rattle.sched_model.proofs.Allotments.{allotment_of, allotment-shares, shares-same}
use Rattle.sched_model.proofs.LevelSums.{share-most}
use Rattle.sched_model.proofs.JobLaws.{latest-is}
pub use Rattle.grid_fraction.proofs.Tables.{length-list_below, each-below}

-- the tick that may follow is determined by the ticks before it
pub next_unique : (p : Plan) (dem : JobDemands) (ask : PublishedDemand) (past : List Tick) (x : Tick)
    → IsNext p dem ask past x → x ≡ next_tick p dem ask past
next_unique p dem ask past x h =
    λ i. record { entry = h.entry i; shares = same i }
  where
    f : ℕ → ℕ
    f e = (point p e).speed

    given : (e : ℕ) → ℕ → ℕ
    given e = allotment (count p) (key_of p.scheduler p (length past)) (f e) (units_left p dem past)

    same : x.shares ≡ list_below (count p) (given (entry_in_force p dem ask past))
    same = ext_get_or 0 x.shares (list_below (count p) (given (entry_in_force p dem ask past)))
        (h.one_share_each ∙ sym (length-list_below (count p) (given (entry_in_force p dem ask past))))
        (λ i lt. at i (subst (λ n. i < n) h.one_share_each lt))
      where
        at : (i : ℕ) → i < count p → get_or x.shares i 0 ≡ get_or (list_below (count p) (given (entry_in_force p dem ask past))) i 0
        at i lt =
            allotment_of (count p) (key_of p.scheduler p (length past)) (f x.entry) (units_left p dem past) (share x) h.legal i lt
            ∙ (ap (λ e. given e i) h.entry
            ∙ sym (get-table (count p) (given (entry_in_force p dem ask past)) i 0 lt))

-- each schedule is the list of `schedule_by` of its length
pub schedule_unique : (p : Plan) (dem : JobDemands) (ask : PublishedDemand) (ticks : List Tick)
    → IsScheduleBy p dem ask ticks → ticks ≡ schedule_by p dem ask (length ticks)
unfolding schedule_by
schedule_unique p dem ask [] h = refl
schedule_unique p dem ask (x ∷ past) h = grind (arith, next_unique, schedule_unique p dem ask past h.0)

-- the tick that `next_tick` computes may follow the ticks before it
pub next_tick-may : (p : Plan) (dem : JobDemands) (ask : PublishedDemand) (past : List Tick)
    → IsNext p dem ask past (next_tick p dem ask past)
next_tick-may p dem ask past = record {
  one_share_each = length-list_below (count p) given;
  entry = refl;
  legal = shares-same (count p) (key_of p.scheduler p (length past)) f (units_left p dem past) given (share (next_tick p dem ask past))
      (λ i lt. sym (get-table (count p) given i 0 lt))
      (allotment-shares (count p) (key_of p.scheduler p (length past)) f (units_left p dem past));
}
  where
    f : ℕ
    f = (point p (entry_in_force p dem ask past)).speed

    given : ℕ → ℕ
    given = allotment (count p) (key_of p.scheduler p (length past)) f (units_left p dem past)

-- there is a schedule of each length, for any published demand
pub schedule_exists : (p : Plan) (dem : JobDemands) (ask : PublishedDemand) (t : ℕ)
    → IsScheduleBy p dem ask (schedule_by p dem ask t) × (length (schedule_by p dem ask t) ≡ t)
unfolding schedule_by
schedule_exists p dem ask zero = (tt, refl)
schedule_exists p dem ask (suc t) = grind (arith, next_tick-may p dem ask (schedule_by p dem ask t), schedule_exists p dem ask t)

-- the schedule of no ticks is empty, and each longer one is a shorter one with its next tick
pub schedule-none : (p : Plan) (dem : JobDemands) (ask : PublishedDemand) → schedule_by p dem ask zero ≡ []
unfolding schedule_by
schedule-none p dem ask = refl

pub schedule-suc : (p : Plan) (dem : JobDemands) (ask : PublishedDemand) (t : ℕ)
    → schedule_by p dem ask (suc t) ≡ next_tick p dem ask (schedule_by p dem ask t) ∷ schedule_by p dem ask t
unfolding schedule_by
schedule-suc p dem ask t = refl

-- the entry at a decision is the one that the published demand picks there
pub force-decided : (p : Plan) (dem : JobDemands) (ask : PublishedDemand) (past : List Tick) → is_decision p dem past ≡ true
    → entry_in_force p dem ask past ≡ lowest_entry p.machine (ask past)
force-decided p dem ask past e = grind arith

pub force-within : (p : Plan) (dem : JobDemands) (ask : PublishedDemand) → 0 < length p.machine.points → (past : List Tick)
    → entry_in_force p dem ask past < length p.machine.points
force-within p dem ask some [] = lowest_within p.machine (ask []) some
force-within p dem ask some (x ∷ past) = grind (arith, nat_tests, force-within p dem ask some past)

-- the past at its own length is itself, and the past at an earlier tick doesn't depend on its last tick
pub at-now : (past : List Tick) → at (length past) past ≡ past
at-now past = let z : length past - length past ≡ 0 = omega arith in rw z refl

pub at-before : (r : ℕ) (x : Tick) (past : List Tick) → r ≤ length past → at r (x ∷ past) ≡ at r past
at-before r x past le = grind (arith, nat_tests)

-- a job has had no more in the earlier ticks than in all of them
pub exec-drop : (p : Plan) (i k n : ℕ) (ticks : List Tick) → exec p (drop n ticks) i k ≤ exec p ticks i k
exec-drop p i k zero ticks = omega arith
exec-drop p i k (suc n) [] = omega arith
exec-drop p i k (suc n) (x ∷ ticks) = omega (arith, exec-drop p i k n ticks)

-- in a legal tick no task gets more than its latest job needs
pub share-legal : (p : Plan) (dem : JobDemands) (past : List Tick) (f : ℕ) (x : Tick) → IsLegal p dem past f x
    → (i : ℕ) → i < count p → share x i ≤ units_left p dem past i
share-legal p dem past f x = share-most (count p) (key_of p.scheduler p (length past)) f (units_left p dem past) (share x)

-- a tick that gives no task more than its latest job needs takes no job over its demand
pub exec-within : (p : Plan) (dem : JobDemands) (x : Tick) (past : List Tick) (i k : ℕ) → share x i ≤ units_left p dem past i
    → exec p past i k ≤ dem i k → exec p (x ∷ past) i k ≤ dem i k
exec-within p dem x past i k own had = grind (arith, nat_tests, latest-is)

-- on a schedule no job gets more than its demand
pub exec-most : (p : Plan) (dem : JobDemands) (ask : PublishedDemand) (past : List Tick) → IsScheduleBy p dem ask past → (i k : ℕ)
    → i < count p → exec p past i k ≤ dem i k
exec-most p dem ask [] h i k lt = omega arith
exec-most p dem ask (x ∷ past) h i k lt =
    exec-within p dem x past i k (share-legal p dem past ((point p x.entry).speed) x h.1.legal i lt) (exec-most p dem ask past h.0 i k lt)
