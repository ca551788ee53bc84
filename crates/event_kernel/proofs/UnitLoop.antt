-- The loop over the units of one tick.
use Rattle.std.proofs.Common.{◌≡◌, ℕ, ◌+◌, ◌-◌, ◌<◌, ◌≤◌, min, Bool, true, false, not, ◌&&◌, ◌||◌, List, [], ◌∷◌, ◌++◌, length, replicate, refl, arith, ap, ap₂, ◌∙◌, sym, subst, ◌⊎◌, append-nil, append_assoc, if◌then◌else◌, nat_eq, nat_le, nat_lt}
use Rattle.std.specs.Prelude.{count_by}
use Rattle.std.proofs.Math.Logic.{⊎_map}
use Rattle.grid_fraction.specs.Numbers.{sum_below, any_below}
use Rattle.grid_fraction.proofs.Sums.{sum_below-same}
use Rattle.grid_fraction.proofs.Searches.{any_below-same}
use Rattle.std.proofs.lemmas.Bool.Decides.{nat_tests}
use Rattle.freq_table.specs.declared.limits.TheConstants.{TOP_SPEED}
use Rattle.sched_model.specs.declared.state.Row.{Row}
use Rattle.sched_model.specs.declared.holder.Holder.{Holder}
use Rattle.sched_model.specs.declared.holder.Holder.TheVariants.{Nobody, Held}
use Rattle.sched_model.specs.Plan.{Plan, count, worst, point}
use Rattle.sched_model.specs.Jobs.{JobDemands, due, latest}
use Rattle.sched_model.specs.Ticks.{Tick, exec, units_left, share}
use Rattle.sched_model.specs.Priority.{in_order, key_of, allotment}
use Rattle.sched_model.specs.Decision.{completes_in}
use Rattle.sched_model.specs.Schedule.{entry_in_force}
use Rattle.sched_model.specs.Notes.{Span, tick_units, same_holder}
use Rattle.sched_model.specs.States.{row_at, prior_row, prior_state, after_advance, CanRun, StateView, state_of}
use Rattle.sched_model.specs.Greedy.{IsFirstOpen}
use Rattle.sched_model.proofs.Schedules.{length-list_below, force-within}
use Rattle.grid_fraction.proofs.Tables.{get-table, table-same}
use Rattle.sched_model.proofs.Allotments.{handed-end}
use Rattle.sched_model.proofs.Orders.{in_order-below}
use Rattle.sched_model.proofs.JobLaws.{exec-legal}
use Rattle.sched_model.proofs.States.{row_by, row-ran, state-ran}
use Rattle.agenda.specs.Agenda.{IsFirstUndone}
use Rattle.governor.specs.Meanings.{OwnDemand}
use Rattle.governor.specs.Schedule.{ask_of, course}
use Rattle.event_kernel.specs.declared.span_trace.SpanTrace.{SpanTrace}
use Rattle.event_kernel.specs.Segment.{after_idle, after_units, force_of, CanEnter}
use Rattle.event_kernel.specs.SpanTraces.{HeldNow, HoldsSpan}
use Rattle.event_kernel.specs.Tickwork.{after_service, span_at, tick_at, whole_span, most_units}
use Rattle.event_kernel.specs.declared.progress.Setting.{Setting}
use Rattle.event_kernel.specs.declared.in_force.InForce.{InForce}
use Rattle.event_kernel.specs.Settings.{IsInSpan, HasWorked}
use Rattle.event_kernel.proofs.PlanBounds.{parts_of, bounds}
use Rattle.event_kernel.proofs.Courses.{course-next, course-len, exec-within}
use Rattle.event_kernel.proofs.OpenSegment.{Shows, held-in, enters}
use Rattle.event_kernel.proofs.GivenUnits.{raised, sum-raised, key, job, had, units_by, given_units-same, given_row, ends_in, HasHanded, start, start-units, row-is, shows, first-open, none-open, gives, gives-units, gives-had, count_idle}

module _ (demand : OwnDemand) (p : Plan) (dem : JobDemands) (t : ℕ) where
  abbrev pub past : List Tick
  past = course demand p dem t

  -- the number of units of the tick
  abbrev pub fast : ℕ
  fast = (point p (entry_in_force p dem (ask_of demand p dem) past)).speed

  -- the trace holds the span with the units `us` of the tick after it; `given` is the units that each task got
  abbrev pub Wrote : (ℕ → ℕ) → List Holder → ℕ → SpanTrace → Type 0
  Wrote given us more trace =
      HoldsSpan p dem (ask_of demand p dem) (length past)
      (record { past = (span_at demand p dem t).past; entry = (span_at demand p dem t).entry; units = (span_at demand p dem t).units ++ us })
      (λ i. had p dem past i + given i) (most_units (length past) + more) trace

  -- the units of the tick are handed out but for `rest`, and the trace holds those
  pub record HoldsHanded (rest : ℕ) (completed : Bool) (st : StateView) (trace : SpanTrace) : Type 0 where
    pub given : ℕ → ℕ
    pub hand : HasHanded p dem past fast given rest completed st
    pub writing : Wrote given (units_by p dem past given) (sum_below (count p) given) trace

  -- the trace after n more units of one holder
  wrote-more : (given given' : ℕ → ℕ) (us vs : List Holder) (more more' : ℕ) (st : StateView) (h : Holder) (n : ℕ) (trace : SpanTrace) → 0 < n
      → Wrote given us more trace → Shows p dem (length past) st (λ i. had p dem past i + given i) → HeldNow p (length past) h
      → ((i : ℕ) → i < count p → (had p dem past i + given i) + count_by (same_holder (Held i (job p dem past i))) (replicate n h)
      ≡ had p dem past i + given' i) → us ++ replicate n h ≡ vs → more + n ≡ more'
      → Wrote given' vs more' (after_units p st (force_of p (span_at demand p dem t)) h n trace)
  wrote-more given given' us vs more more' st h n trace some w sh now had_is units much =
      let s0 = span_at demand p dem t in
      let e = enters p dem (ask_of demand p dem) (length past) (record { past = s0.past; entry = s0.entry; units = s0.units ++ us })
      (λ i. had p dem past i + given i) (λ i. had p dem past i + given' i) (most_units (length past) + more) st h n trace some w sh now had_is in
      let all : most_units (length past) + more + n ≡ most_units (length past) + more' = omega (arith, much) in
      subst (λ m. HoldsSpan p dem (ask_of demand p dem) (length past) (record { past = s0.past; entry = s0.entry; units = s0.units ++ vs })
      (λ i. had p dem past i + given' i) m (after_units p st (force_of p s0) h n trace)) all
      (subst (λ ls. HoldsSpan p dem (ask_of demand p dem) (length past) (record { past = s0.past; entry = s0.entry; units = ls })
      (λ i. had p dem past i + given' i) (most_units (length past) + more + n) (after_units p st (force_of p s0) h n trace))
      (append_assoc s0.units us (replicate n h) ∙ ap (λ ls. s0.units ++ ls) units) e)

module _ {demand : OwnDemand} {set : Setting} {force : InForce} {t : ℕ} {st0 : StateView} {trace0 : SpanTrace}
    (at : IsInSpan set demand force t st0 trace0) where
  open parts_of set use {p, dem}
  open bounds set.plan.now set.sound.limits use {some_period, some_point, some_speed, low_speed}

  abbrev so_far : List Tick
  so_far = past demand p dem t

  abbrev s0 : Span
  s0 = span_at demand p dem t

  long : length so_far ≡ t
  long = course-len demand p dem t

  within : (i : ℕ) → i < count p → had p dem so_far i ≤ dem i (job p dem so_far i)
  within i lt = exec-within demand p dem t i (job p dem so_far i) lt

  pub entry-there : force.index < length p.machine.points
  entry-there = subst (λ m. m < length p.machine.points) (sym at.in_force) (force-within p dem (ask_of demand p dem) some_point so_far)

  pub speed-is : force.speed ≡ (point p force.index).speed
  speed-is = ap (λ (f : InForce). f.speed) at.force_is ∙ ap (λ (f : InForce). (point p f.index).speed) (sym at.force_is)

  pub some-speed : 0 < force.speed
  some-speed = omega (arith, speed-is, some_speed force.index entry-there)

  pub begin : HoldsHanded demand p dem t force.speed false st0 trace0
  begin =
      subst (λ f. HoldsHanded demand p dem t f false st0 trace0) (sym (speed-is ∙ ap (λ m. (point p m).speed) at.in_force))
      (subst (λ s. HoldsHanded demand p dem t (fast demand p dem t) false s trace0) (sym at.state) (record {
        given = λ _. 0;
        hand = start p dem so_far (fast demand p dem t);
        writing = subst (λ us. Wrote demand p dem t (λ _. 0) us (sum_below (count p) (λ _. 0)) trace0) (sym (start-units p dem so_far)) none;
      }))
    where
      w0 : HoldsSpan p dem (ask_of demand p dem) (length so_far) (record { past = s0.past; entry = s0.entry; units = s0.units ++ [] }) (had p dem so_far)
          (most_units (length so_far)) trace0
      w0 =
          subst (λ ls. HoldsSpan p dem (ask_of demand p dem) (length so_far) (record { past = s0.past; entry = s0.entry; units = ls }) (had p dem so_far)
          (most_units (length so_far)) trace0) (sym (append-nil s0.units))
          (subst (λ n. HoldsSpan p dem (ask_of demand p dem) n s0 (had p dem so_far) (most_units n) trace0) (sym long) at.writing)

      none : Wrote demand p dem t (λ _. 0) [] (sum_below (count p) (λ _. 0)) trace0
      none = record {
        done = w0.done;
        segments = w0.segments;
        place = w0.place;
        taken = w0.taken;
        had = λ i lt. omega (arith, w0.had i lt);
        few = omega (arith, w0.few);
        notes = w0.notes;
      }

  module _ {rest : ℕ} {completed : Bool} {st : StateView} {trace : SpanTrace} (w : HoldsHanded demand p dem t rest completed st trace) where
    pub rows-there : length st.rows ≡ count p
    rows-there = ap (λ (s : StateView). length s.rows) w.hand.state ∙ length-list_below (count p) (given_row p dem so_far w.given)

    slow : fast demand p dem t ≤ TOP_SPEED
    slow = low_speed (entry_in_force p dem (ask_of demand p dem) so_far)

    -- at most as many units as are left can be added
    pub can-enter : {units : ℕ} → units ≤ rest → CanEnter p st force units trace
    can-enter le = record {
      can = record {
        entry = entry-there;
        some_speed = some-speed;
        place = omega (arith, w.writing.place, w.writing.few, w.hand.sum, slow, long, at.before_end, set.sound.low_ticks, at.later);
        task = held-in p (length so_far) rows-there trace.segment.holder w.writing.taken;
      };
      fits = omega (arith, w.writing.place, w.writing.few, w.hand.sum, slow, long, at.before_end, set.sound.low_ticks, le);
    }

    sh : Shows p dem (length so_far) st (λ i. had p dem so_far i + w.given i)
    sh = shows p dem so_far w.hand within

    entered-is : (h : Holder) (n : ℕ) → after_units p st force h n trace ≡ after_units p st (force_of p s0) h n trace
    entered-is h n = ap (λ f. after_units p st f h n trace) at.force_is

    -- the first task that is not done gets units
    module _ (i share : ℕ) (u : IsFirstUndone p st (count p) i) (se : share ≡ min rest (dem i (row_at st i).job - (row_at st i).used)) where
      row : row_at st i ≡ given_row p dem so_far w.given i
      row = row-is p dem so_far w.hand i u.below

      o : IsFirstOpen (count p) (key p dem so_far) (units_left p dem so_far) w.given i
      o = first-open p dem so_far w.hand i u

      need_is : dem i (row_at st i).job - (row_at st i).used ≡ dem i (job p dem so_far i) - (had p dem so_far i + w.given i)
      need_is = ap (λ (r : Row). dem i r.job - r.used) row

      -- the share can be run, and is not 0
      pub ready : CanRun st i share × ((row_at st i).used ≤ dem i (row_at st i).job) × (0 < rest → 0 < share)
      ready =
          let used = ap (λ (r : Row). r.used) row in
          let need = ap (λ (r : Row). dem i r.job) row in (
            record {
              task = omega (arith, u.below, rows-there);
              open_job = u.open_job;
              room = omega (arith, se, used, need, ap (λ (r : Row). r.worst) row, o.needs, set.sound.within.most i (job p dem so_far i) u.below);
            },
            omega (arith, used, need, o.needs),
            λ pos. omega (arith, se, used, need, o.needs),
          )

      pub turned : (whole now : Bool) (st' : StateView) (trace' : SpanTrace) → 0 < rest → whole ≡ nat_eq share (dem i (row_at st i).job - (row_at st i).used)
          → now ≡ (completed || whole) → st' ≡ after_service st i share whole
          → trace' ≡ after_units p st force (Held i (row_at st i).job) share trace
          → HoldsHanded demand p dem t (rest - share) now st' trace'
      turned whole now st' trace' pos we ne sis pis = record {
        given = raised w.given i share;
        hand = gives p dem so_far w.hand st' i share whole now pos within o
            (se ∙ ap (λ v. min rest v) need_is) (we ∙ ap (λ v. nat_eq share v) need_is) sis ne;
        writing =
            let hold : Held i (row_at st i).job ≡ Held i (job p dem so_far i) = ap (λ (r : Row). Held i r.job) row in
            subst (λ q. Wrote demand p dem t (raised w.given i share) (units_by p dem so_far (raised w.given i share))
            (sum_below (count p) (raised w.given i share)) q)
            (sym (pis ∙ (entered-is (Held i (row_at st i).job) share ∙ ap (λ h. after_units p st (force_of p s0) h share trace) hold)))
            (wrote-more demand p dem t w.given (raised w.given i share) (units_by p dem so_far w.given) _ (sum_below (count p) w.given) _ st
            (Held i (job p dem so_far i)) share trace (ready.2 pos) w.writing sh (u.below, refl) (λ k lt. gives-had p dem so_far w.given i share k)
            (sym (gives-units p dem so_far w.hand i share pos o))
            (sym (sum-raised (count p) w.given i share u.below)));
      }

    -- the trace holds the whole tick, with the units that nobody took
    abbrev pub HasIdled : SpanTrace → Type 0
    HasIdled trace' = Wrote demand p dem t w.given (units_by p dem so_far w.given ++ replicate rest Nobody) (sum_below (count p) w.given + rest) trace'

    pub full : rest ≡ 0 → HasIdled trace
    full none =
        let same : sum_below (count p) w.given ≡ sum_below (count p) w.given + rest = omega (arith, none) in
        subst (λ m. Wrote demand p dem t w.given (units_by p dem so_far w.given ++ replicate rest Nobody) m trace) same
        (subst (λ us. Wrote demand p dem t w.given us (sum_below (count p) w.given) trace)
        (sym (ap (λ n. units_by p dem so_far w.given ++ replicate n Nobody) none ∙ append-nil (units_by p dem so_far w.given))) w.writing)

    pub idled : (trace' : SpanTrace) → 0 < rest → trace' ≡ after_units p st force Nobody rest trace → HasIdled trace'
    idled trace' pos pis =
        subst (λ q. HasIdled q) (sym (pis ∙ entered-is Nobody rest))
        (wrote-more demand p dem t w.given w.given (units_by p dem so_far w.given) _ (sum_below (count p) w.given) _ st Nobody rest trace pos w.writing sh
        tt (λ i lt. omega (arith, count_idle i (job p dem so_far i) rest)) refl refl)

    pub idle : (trace' : SpanTrace) → trace' ≡ after_idle p st force rest trace → HasIdled trace'
    idle trace' is = go (nat_lt 0 rest) refl
      where
        go : (b : Bool) → nat_lt 0 rest ≡ b → HasIdled trace'
        go true e = idled trace' (grind (arith, nat_tests)) (is ∙ ap (λ b. if b then after_units p st force Nobody rest trace else trace) e)
        go false e =
            let none : rest ≡ 0 = grind (arith, nat_tests) in
            subst HasIdled (sym (is ∙ ap (λ b. if b then after_units p st force Nobody rest trace else trace) e)) (full none)

    -- at the end of the loop the units are those of the schedule's tick
    module _ (ends : (rest ≡ 0) ⊎ ((k : ℕ) → k < count p → (row_at st k).done ≡ true)) where
      abbrev x : Tick
      x = tick_at demand p dem t

      gets : (i : ℕ) → i < count p → share x i ≡ allotment (count p) (key_of p.scheduler p (length so_far)) (fast demand p dem t) (units_left p dem so_far) i
      gets i lt = get-table (count p) (allotment (count p) (key_of p.scheduler p (length so_far)) (fast demand p dem t) (units_left p dem so_far)) i 0 lt

      same : (i : ℕ) → i < count p → w.given i ≡ share x i
      same i lt =
          handed-end (count p) (key p dem so_far) (fast demand p dem t) (units_left p dem so_far) w.given rest w.hand.handed
          (⊎_map (λ z. z) (none-open p dem so_far w.hand) ends) i lt ∙ sym (gets i lt)

      own : (i : ℕ) → i < count p → share x i ≤ units_left p dem so_far i
      own i lt = omega (arith, gets i lt)

      had-next : (i : ℕ) → i < count p → had p dem so_far i + w.given i ≡ exec p (x ∷ so_far) i (job p dem so_far i)
      had-next i lt =
          ap (λ v. had p dem so_far i + v) (same i lt)
          ∙ sym (exec-legal p dem x so_far i (some_period i) (set.sound.within.none i) (own i lt))

      units : units_by p dem so_far w.given ++ replicate rest Nobody ≡ tick_units p so_far x
      units =
          ap₂ (λ us m. us ++ replicate m Nobody)
          (given_units-same (job p dem so_far) w.given (share x) (count p) (in_order (key p dem so_far) (count p))
          (in_order-below (key p dem so_far) (count p)) same)
          (omega (arith, w.hand.sum, sum_below-same (count p) w.given (share x) same))

      state : after_advance st (length so_far + 1) ≡ prior_state p dem (x ∷ so_far)
      state =
          ap (λ (s : StateView). after_advance s (length so_far + 1)) w.hand.state
          ∙ (ap (λ rows. record { now = length so_far + 1; rows = rows; base_at = (state_of p dem so_far).base_at; base = (state_of p dem so_far).base })
          (table-same (count p) (given_row p dem so_far w.given) (prior_row p dem (x ∷ so_far)) (λ i lt.
          ap (λ g. row_by (due p i (job p dem so_far i)) (job p dem so_far i) (had p dem so_far i + g)
          (nat_le (dem i (job p dem so_far i)) (had p dem so_far i + g)) (worst p i)) (same i lt)
          ∙ sym (row-ran p dem some_period x so_far i (set.sound.within.none i) (own i lt))))
          ∙ sym (state-ran p dem some_period x so_far))

      completes : any_below (count p) (ends_in p dem so_far w.given) ≡ any_below (count p) (completes_in p dem x so_far)
      completes =
          any_below-same (count p) (ends_in p dem so_far w.given) (completes_in p dem x so_far) (λ i lt.
          ap (λ u. not (nat_le (dem i (job p dem so_far i)) (had p dem so_far i)) && nat_le (dem i (job p dem so_far i)) u) (had-next i lt))

      done : (trace' : SpanTrace) → HasIdled trace' → HoldsSpan p dem (ask_of demand p dem) t (whole_span demand p dem t)
          (λ i. exec p (x ∷ so_far) i (latest p i t)) (most_units (t + 1)) trace'
      done trace' d =
          subst (λ n. HoldsSpan p dem (ask_of demand p dem) n (whole_span demand p dem t) (λ i. exec p (x ∷ so_far) i (latest p i n))
          (most_units (n + 1)) trace') long
          (subst (λ us. HoldsSpan p dem (ask_of demand p dem) (length so_far) (record { past = s0.past; entry = s0.entry; units = s0.units ++ us })
          (λ i. exec p (x ∷ so_far) i (job p dem so_far i)) (most_units (length so_far + 1)) trace') units (record {
            done = d.done;
            segments = d.segments;
            place = d.place;
            taken = d.taken;
            had = λ i lt. d.had i lt ∙ had-next i lt;
            few = omega (arith, d.few, w.hand.sum, slow);
            notes = d.notes;
          }))

      pub finished : (trace' : SpanTrace) (st' : StateView) → HasIdled trace' → st' ≡ after_advance st (t + 1) → HasWorked set demand t st' trace' completed
      finished trace' st' d is =
          let later : x ∷ so_far ≡ course demand p dem (t + 1) = sym (course-next demand p dem t) in
          record {
            state = is ∙ (ap (λ n. after_advance st (n + 1)) (sym long) ∙ (state ∙ ap (λ ps. prior_state p dem ps) later));
            writing = subst (λ (ps : List Tick). HoldsSpan p dem (ask_of demand p dem) t (whole_span demand p dem t) (λ i. exec p ps i (latest p i t))
                (most_units (t + 1)) trace') later (done trace' d);
            completes = w.hand.ends ∙ completes;
          }
