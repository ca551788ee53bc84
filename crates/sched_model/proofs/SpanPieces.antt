-- The segments of a tick or of a span: at most one more than the jobs that complete in its last tick.
use Rattle.std.proofs.Common.{◌≡◌, ℕ, zero, suc, ◌+◌, ◌-◌, ◌<◌, ◌≤◌, min, Bool, true, false, ◌&&◌, List, [], ◌∷◌, ◌++◌, length, replicate, refl, arith, if◌then◌else◌, ap, ap₂, ◌∙◌, sym, subst, append_assoc, append-nil, nat_eq, nat_le, nat_lt}
use Rattle.std.proofs.lemmas.Bool.{cases_lt, or_parts}
use Rattle.std.proofs.lemmas.Bool.Decides.{nat_tests}
use Rattle.std.proofs.lemmas.List.{replicate-append-replicate}
use Rattle.sched_model.specs.declared.holder.Holder.{Holder}
use Rattle.sched_model.specs.declared.holder.Holder.TheVariants.{Nobody, Held}
use Rattle.sched_model.specs.Priority.{SharesOut, in_order, key_of}
use Rattle.sched_model.specs.Notes.{Piece, before_pieces, pieces_of, given_units, Span, spans_of, spans_with, tick_units}
use Rattle.sched_model.proofs.Orders.{sum_list, sum_list-snoc, AreBelow, below-from, in_order-below, sum_before-prefix, sum_list-in_order, in_order-same}
use Rattle.sched_model.proofs.PieceLemmas.{piece, same_holder-refl}
use Rattle.dvs_base.specs.declared.kind.Scheduler.{Scheduler}
use Rattle.dvs_base.specs.declared.kind.Scheduler.TheVariants.{Edf, Rm}
use Rattle.grid_fraction.proofs.Sums.{sum_below-le, sum_below-zero}
use Rattle.grid_fraction.proofs.Searches.{any_below-false}
use Rattle.sched_model.specs.Plan.{Plan, count, point}
use Rattle.sched_model.specs.Jobs.{JobDemands, latest, due, is_release}
use Rattle.sched_model.specs.Ticks.{PublishedDemand, Tick, share, units_left}
use Rattle.sched_model.specs.Decision.{completes_in, is_decision}
use Rattle.sched_model.specs.Schedule.{IsNext, IsScheduleBy}
use Rattle.sched_model.specs.Admission.{IsWithinLimits}
use Rattle.sched_model.proofs.Limits.{every_period}
use Rattle.sched_model.proofs.JobLaws.{exec-legal, left-stays}
use Rattle.sched_model.proofs.LevelSums.{share-most}
use Rattle.sched_model.proofs.NoteSums.{one_if, completions}
use Rattle.sched_model.proofs.Spans.{stays}

-- how many segments the units have
abbrev pub segments : List Holder → ℕ
segments us = length (pieces_of us)

before-most : (h : Holder) (rs : List Piece) → length (before_pieces h rs) ≤ suc (length rs)
before-most h rs = grind (arith, nat_tests, piece)

before-twice : (h : Holder) (rs : List Piece)
    → length (before_pieces h (before_pieces h rs)) ≡ length (before_pieces h rs)
before-twice h rs = grind (arith, nat_tests, same_holder-refl, piece)

-- the first unit, if there is one, has this holder
abbrev pub Leads : Holder → List Holder → Type 0
Leads h [] = Unit {0}
Leads h (u ∷ us) = u ≡ h

-- one more unit of the holder that leads adds no segment
one-more : (h : Holder) (n : ℕ) (us : List Holder) → Leads h us → segments us ≤ suc n → segments (h ∷ us) ≤ suc n
one-more h n us leads few = grind (arith, nat_tests, before-twice)

leads-run : (h : Holder) (m : ℕ) (us : List Holder) → Leads h us → Leads h (replicate m h ++ us)
leads-run h zero us leads = leads
leads-run h (suc m) us leads = refl

-- any number of units more, of the holder of the first, adds no segment
pub run-leads : (h : Holder) (m n : ℕ) (us : List Holder) → Leads h us → segments us ≤ suc n
    → segments (replicate m h ++ us) ≤ suc n
run-leads h zero n us leads few = few
run-leads h (suc m) n us leads few =
    one-more h n (replicate m h ++ us) (leads-run h m us leads) (run-leads h m n us leads few)

-- a run of units of one holder adds at most one segment
run-most : (h : Holder) (m : ℕ) (us : List Holder) → segments (replicate m h ++ us) ≤ min 1 m + segments us
run-most h zero us = omega arith
run-most h (suc zero) us = omega (arith, before-most h (pieces_of us))
run-most h (suc (suc m)) us = grind (arith, run-most h (suc m) us)

-- the units of the tasks of a list, one task after another, and then the idle ones
abbrev pub laid_out : (given job : ℕ → ℕ) → ℕ → List ℕ → List Holder
laid_out given job room [] = replicate room Nobody
laid_out given job room (i ∷ is) = replicate (given i) (Held i (job i)) ++ laid_out given job (room - given i) is

pub laid-out : (given job : ℕ → ℕ) (room : ℕ) (is : List ℕ)
    → given_units given job is ++ replicate (room - sum_list given is) Nobody
    ≡ laid_out given job room is
laid-out given job room [] = let all : room - 0 ≡ room = omega arith in ap (λ n. replicate n Nobody) all
laid-out given job room (i ∷ is) = grind (arith, append_assoc, laid-out given job (room - given i) is)

-- the tasks of a list take what they need in turn, as far as the room goes
abbrev pub TakeTurns : (need given : ℕ → ℕ) → ℕ → List ℕ → Type 0
TakeTurns need given room [] = Unit {0}
TakeTurns need given room (i ∷ is) = (given i ≡ min room (need i)) × TakeTurns need given (room - given i) is

module _ (n : ℕ) (key : ℕ → ℕ) (room : ℕ) (need given : ℕ → ℕ) (shares : SharesOut n key room need given) where
  turns-from : (before rest : List ℕ) → in_order key n ≡ before ++ rest
      → sum_list given before ≡ min room (sum_list need before) → TakeTurns need given (room - sum_list given before) rest
  turns-from before [] e so_far = tt
  turns-from before (i ∷ rest) e so_far =
      let lt : i < n = (below-from n before (i ∷ rest) (subst (AreBelow n) e (in_order-below key n))).0 in
      let taken = sum_before-prefix key given n i before rest e in
      let needed = sum_before-prefix key need n i before rest e in
      let both : sum_list given before + given i ≡ min room (sum_list need before + need i) =
      omega (arith, shares i lt, taken, needed) in
      let own : given i ≡ min (room - sum_list given before) (need i) = omega (arith, both, so_far) in
      let units_left : room - sum_list given (before ++ i ∷ []) ≡ room - sum_list given before - given i =
      omega (arith, sum_list-snoc given before i) in (
        own,
        subst (λ r. TakeTurns need given r rest) units_left
            (turns-from (before ++ i ∷ []) rest (e ∙ sym (append_assoc before (i ∷ []) rest))
            (omega (arith, both, sum_list-snoc given before i, sum_list-snoc need before i))),
      )

  -- if units are shared out by a key, all tasks in the order of the key take them in turn
  pub take-turns : TakeTurns need given room (in_order key n)
  take-turns =
      let all : room - 0 ≡ room = omega arith in
      subst (λ r. TakeTurns need given r (in_order key n)) all (turns-from [] (in_order key n) refl (omega arith))

-- 1 for a task that gets all it needs, if it needs anything, otherwise 0
abbrev pub served : (need given : ℕ → ℕ) → ℕ → ℕ
served need given i = if nat_lt 0 (need i) && nat_le (need i) (given i) then 1 else 0

-- the segments of the units are at most one more than the tasks that get all they need
pub segments-most : (need given job : ℕ → ℕ) (room : ℕ) (is : List ℕ) → TakeTurns need given room is
    → segments (laid_out given job room is) ≤ min 1 room + sum_list (served need given) is
segments-most need given job room [] turns = grind (arith, append-nil (replicate room Nobody), run-most Nobody room)
segments-most need given job room (i ∷ is) turns = grind (arith, run-most, segments-most need given job (room - given i) is turns.1)

-- the holder for the first task of a list that needs something: its job, or nobody if no task needs any
abbrev pub first_holder : (need job : ℕ → ℕ) → List ℕ → Holder
first_holder need job [] = Nobody
first_holder need job (i ∷ is) = if nat_eq (need i) 0 then first_holder need job is else Held i (job i)

-- without room there are no units
none-laid : (need given job : ℕ → ℕ) (room : ℕ) (is : List ℕ) → room ≡ 0 → TakeTurns need given room is
    → laid_out given job room is ≡ []
none-laid need given job room [] none turns = rw none refl
none-laid need given job room (i ∷ is) none turns = grind (arith, none-laid need given job (room - given i) is (omega (arith, none)) turns.1)

-- a task that needs nothing gets nothing
skips : (need given job : ℕ → ℕ) (room i : ℕ) (is : List ℕ) → TakeTurns need given room (i ∷ is) → need i ≡ 0
    → (TakeTurns need given room is) × (laid_out given job room (i ∷ is) ≡ laid_out given job room is)
skips need given job room i is turns none = grind (arith, nat_tests)

-- the first unit is that of the first task that needs something
pub first-leads : (need given job : ℕ → ℕ) (room : ℕ) (is : List ℕ) → TakeTurns need given room is
    → Leads (first_holder need job is) (laid_out given job room is)
first-leads need given job room [] turns = nobody room
  where
    nobody : (n : ℕ) → Leads Nobody (replicate n Nobody)
    nobody zero = tt
    nobody (suc n) = refl
first-leads need given job room (i ∷ is) turns = go (nat_eq (need i) 0) refl (λ t. first-leads need given job room is t)
  where
    go : (b : Bool) → nat_eq (need i) 0 ≡ b
        → (TakeTurns need given room is → Leads (first_holder need job is) (laid_out given job room is))
        → Leads (first_holder need job (i ∷ is)) (laid_out given job room (i ∷ is))
    go true e ih =
        let none : need i ≡ 0 = grind (arith, nat_tests) in
        let skip = skips need given job room i is turns none in
        rw e (subst (Leads (first_holder need job is)) (sym skip.1) (ih skip.0))
    go false e ih =
        let some : 0 < need i = grind (arith, nat_tests) in
        rw e (own (given i) refl some)
      where
        own : (m : ℕ) → given i ≡ m → 0 < need i → Leads (Held i (job i)) (laid_out given job room (i ∷ is))
        own m q some = grind (arith, nat_tests, none-laid)

-- if no task gets all it needs, the first task that needs something gets every unit
pub first-alone : (need given job : ℕ → ℕ) (room : ℕ) (is : List ℕ) → TakeTurns need given room is
    → sum_list (served need given) is ≡ 0 → laid_out given job room is ≡ replicate room (first_holder need job is)
first-alone need given job room [] turns none = refl
first-alone need given job room (i ∷ is) turns none = grind (arith, none-laid, append-nil, first-alone need given job room is)

-- the first holder depends only on which tasks need something, and on their jobs
first-same : (n : ℕ) (need other job later : ℕ → ℕ) (is : List ℕ) → AreBelow n is
    → ((i : ℕ) → i < n → nat_eq (need i) 0 ≡ nat_eq (other i) 0) → ((i : ℕ) → i < n → job i ≡ later i)
    → first_holder need job is ≡ first_holder other later is
first-same n need other job later [] below needs jobs = refl
first-same n need other job later (i ∷ is) below needs jobs = grind (arith, nat_tests, first-same n need other job later is below.1 needs jobs)

module _ (p : Plan) (dem : JobDemands) (ask : PublishedDemand) (lim : IsWithinLimits p)
    (needless : (i : ℕ) → dem i 0 ≡ 0) where
  abbrev speed : Tick → ℕ
  speed x = (point p x.entry).speed

  -- the scheduler's key of a task at the tick after `past`
  abbrev key_at : List Tick → ℕ → ℕ
  key_at past = key_of p.scheduler p (length past)

  abbrev order_at : List Tick → List ℕ
  order_at past = in_order (key_at past) (count p)

  -- the latest job of task i at the tick after `past`
  abbrev job_at : List Tick → ℕ → ℕ
  job_at past i = latest p i (length past)

  -- the units of the tick after `past`, one task after another
  abbrev laid_at : List Tick → Tick → List Holder
  laid_at past x = laid_out (share x) (job_at past) (speed x) (order_at past)

  units-laid : (past : List Tick) (x : Tick) → tick_units p past x ≡ laid_at past x
  units-laid past x = grind (arith, sum_list-in_order (share x) (key_at past) (count p), laid-out (share x) (job_at past) (speed x) (order_at past))

  turns : (past : List Tick) (x : Tick) → IsNext p dem ask past x
      → TakeTurns (units_left p dem past) (share x) (speed x) (order_at past)
  turns past x next = take-turns (count p) (key_at past) (speed x) (units_left p dem past) (share x) next.legal

  -- a job that gets all it needs completes
  served-completes : (past : List Tick) (x : Tick) → IsNext p dem ask past x → (i : ℕ) → i < count p
      → served (units_left p dem past) (share x) i ≤ one_if (completes_in p dem x past i)
  served-completes past x next i lt =
      grind (arith, share-most (count p) (key_at past) (speed x) (units_left p dem past) (share x) next.legal i lt, exec-legal)

  -- the segments of a tick are at most one more than the jobs that complete in it
  tick-few : (past : List Tick) (x : Tick) → IsNext p dem ask past x
      → segments (tick_units p past x) ≤ suc (completions p dem x past)
  tick-few past x next =
      omega (
        arith,
        ap segments (units-laid past x),
        segments-most (units_left p dem past) (share x) (job_at past) (speed x) (order_at past) (turns past x next),
        sum_list-in_order (served (units_left p dem past) (share x)) (key_at past) (count p),
        sum_below-le (count p) (served (units_left p dem past) (share x)) (λ i. one_if (completes_in p dem x past i)) (served-completes past x next),
      )

  -- the holder of the first unit of the tick after `past`
  abbrev pub first_at : List Tick → Holder
  first_at past = first_holder (units_left p dem past) (job_at past) (order_at past)

  tick-leads : (past : List Tick) (x : Tick) → IsNext p dem ask past x → Leads (first_at past) (tick_units p past x)
  tick-leads past x next = grind (arith, nat_tests, units-laid, first-leads, turns)

  -- if no decision follows a tick, no job completes in it
  none-served : (past : List Tick) (x : Tick) → IsNext p dem ask past x → is_decision p dem (x ∷ past) ≡ false
      → (i : ℕ) → i < count p → served (units_left p dem past) (share x) i ≡ 0
  none-served past x next e i lt =
      let none : completes_in p dem x past i ≡ false =
      any_below-false (count p) (completes_in p dem x past) (or_parts (is_release p (length (x ∷ past))) _ e).1 i lt in
      let zero : one_if (completes_in p dem x past i) ≡ 0 = ap one_if none in
      omega (arith, served-completes past x next i lt, zero)

  -- if no decision follows a tick, one holder has all its units
  tick-alone : (past : List Tick) (x : Tick) → IsNext p dem ask past x → is_decision p dem (x ∷ past) ≡ false
      → tick_units p past x ≡ replicate (speed x) (first_at past)
  tick-alone past x next e = grind (arith, nat_tests, sum_list, sum_list-in_order, sum_below-zero, none-served, units-laid, first-alone, turns)

  -- if no decision follows a tick, the first unit of the next tick has the same holder
  first-stays : (past : List Tick) (x : Tick) → IsNext p dem ask past x → is_decision p dem (x ∷ past) ≡ false
      → first_at (x ∷ past) ≡ first_at past
  first-stays past x next e =
      first-same (count p) (units_left p dem (x ∷ past)) (units_left p dem past) (job_at (x ∷ past)) (job_at past) (order_at (x ∷ past))
      (in_order-below (key_at (x ∷ past)) (count p)) needs same-job
      ∙ ap (first_holder (units_left p dem past) (job_at past))
      (in_order-same (key_at (x ∷ past)) (key_at past) (count p) (same-key p.scheduler))
    where
      same-job : (i : ℕ) → i < count p → job_at (x ∷ past) i ≡ job_at past i
      same-job = stays p dem (every_period p lim) x past e

      same-key : (s : Scheduler) (i : ℕ) → i < count p → key_of s p (length (x ∷ past)) i ≡ key_of s p (length past) i
      same-key Edf i lt = ap (due p i) (same-job i lt)
      same-key Rm i lt = refl

      part : (need given : ℕ) → ◌≡◌ {A = ℕ} (if nat_lt 0 need && nat_le need given then 1 else 0) 0
          → nat_eq (need - given) 0 ≡ nat_eq need 0
      part need given none = grind (arith, nat_tests, cases_lt)

      needs : (i : ℕ) → i < count p → nat_eq (units_left p dem (x ∷ past) i) 0 ≡ nat_eq (units_left p dem past i) 0
      needs i lt =
          ap (λ n. nat_eq n 0) (left-stays p dem x past i (every_period p lim i) (needless i) (same-job i lt))
          ∙ part (units_left p dem past i) (share x i) (none-served past x next e i lt)

  -- the span that ends with tick x has few segments; if no decision follows, it has one holder
  pub record HasFew (x : Tick) (past : List Tick) (s : Span) : Type 0 where
    pub few : segments s.units ≤ suc (completions p dem x past)
    pub alone : is_decision p dem (x ∷ past) ≡ false → (n : ℕ) × (s.units ≡ replicate n (first_at (x ∷ past)))

  opened-few : (past : List Tick) (x : Tick) → IsNext p dem ask past x
      → HasFew x past (record { past = past; entry = x.entry; units = tick_units p past x })
  opened-few past x next = record {
    few = tick-few past x next;
    alone = λ e. (speed x, tick-alone past x next e ∙ ap (replicate (speed x)) (sym (first-stays past x next e)));
  }

  -- the last span of these spans has few segments
  abbrev pub LastHasFew : Tick → List Tick → List Span → Type 0
  LastHasFew x past [] = ⊥
  LastHasFew x past (s ∷ spans) = HasFew x past s

  longer-few : (x y : Tick) (past : List Tick) (spans : List Span) → IsNext p dem ask (y ∷ past) x
      → is_decision p dem (y ∷ past) ≡ false → LastHasFew y past spans → LastHasFew x (y ∷ past) (spans_with (tick_units p (y ∷ past) x) spans)
  longer-few x y past [] next e h = absurd h
  longer-few x y past (s ∷ spans) next e h =
      let (n, run) = h.alone e in
      let h : Holder = first_at (y ∷ past) in
      let us : List Holder = tick_units p (y ∷ past) x in
      let ends : ℕ = completions p dem x (y ∷ past) in
      record {
        few =
            subst (λ earlier. segments (earlier ++ us) ≤ suc ends) (sym run)
            (run-leads h n ends us (tick-leads (y ∷ past) x next) (tick-few (y ∷ past) x next));
        alone = λ d. (
          n + speed x,
          ap₂ (λ us vs. us ++ vs) run (tick-alone (y ∷ past) x next d)
              ∙ (replicate-append-replicate n (speed x) h
              ∙ ap (replicate (n + speed x)) (sym (first-stays (y ∷ past) x next d))),
        );
      }

  pub last-few : (x : Tick) (past : List Tick) → IsScheduleBy p dem ask (x ∷ past)
      → LastHasFew x past (spans_of p dem (x ∷ past))
  last-few x [] h = opened-few [] x h.1
  last-few x (y ∷ past) h = grind (arith, opened-few (y ∷ past) x h.1, longer-few, last-few y past h.0)
