-- The numbers of the notes of a run, with those of published demands, fit in their types, and the trace of a run is within
-- the limits of traces.
use Rattle.std.proofs.lemmas.Bool.Decides.{nat_tests}
use Rattle.std.proofs.Common.{ℕ, ◌+◌, ◌-◌, ◌*◌, ◌/◌, ◌<◌, ◌≤◌, ◌^◌, List, [], ◌∷◌, length, arith, mul-le-mul_right, ◌≡◌, ◌++◌, sym, subst, length-append}
use Rattle.std.proofs.Math.Nat.{mul-le-mul, div-le_self, mod-le}
use Rattle.std.specs.List.{AllByRecursion}
use Rattle.std.specs.Prelude.{sum_by}
use Rattle.std.proofs.lemmas.List.{length-map}
use Rattle.std.proofs.lemmas.List.Elements.{All-from_recursion}
use Rattle.std.proofs.lemmas.List.Sums.{sum_by-le}
use Rattle.dvs_base.specs.declared.kind.Scheduler.{Scheduler}
use Rattle.dvs_base.specs.declared.kind.GovernorKind.{GovernorKind}
use Rattle.dvs_base.specs.declared.limits.TheConstants.{MOST_TICKS, MOST_TASKS, MOST_LINES}
use Rattle.grid_fraction.specs.declared.Frac.{Frac}
use Rattle.grid_fraction.specs.Numbers.{sum_below}
use Rattle.grid_fraction.proofs.Sums.{sum_below-le, sum_below-limit}
use Rattle.grid_fraction.proofs.Least.{least-below}
use Rattle.task_model.specs.declared.limits.TheConstants.{LONGEST_PERIOD, LONGEST_HYPERPERIOD}
use Rattle.freq_table.specs.declared.limits.TheConstants.{TOP_SPEED, MOST_MILLIVOLTS}
use Rattle.freq_table.specs.Tables.{speed_at, lowest_entry}
use Rattle.freq_table.proofs.Chosen.{lowest_within}
use Rattle.sched_model.specs.Plan.{Plan, count, period, worst, hyper, rate, top_speed, point, names, task, offset}
use Rattle.sched_model.specs.Jobs.{JobDemands, latest, deadline, earliest, last_release, IsWithin}
use Rattle.sched_model.specs.Ticks.{Tick, wleft, PublishedDemand}
use Rattle.sched_model.specs.Priority.{in_order}
use Rattle.sched_model.specs.Tests.{IsEdfFeasible, IsRmFeasible, total_rate}
use Rattle.sched_model.specs.StaticDemand.{full_demand, static_speed, rm_static}
use Rattle.sched_model.specs.CycleDemand.{rate_for, cycle_units, SinceRelease, units_at_mark, allotment_left_of, since_release, edf_cycle, rm_cycle}
use Rattle.sched_model.specs.AheadDemand.{due_first, edf_ahead}
use Rattle.sched_model.specs.Demand.{demand_by, published}
use Rattle.sched_model.specs.Admission.{IsAdmitted, PassesTest, IsWithinLimits}
use Rattle.sched_model.proofs.Limits.{low_period, low_worst, low_hyper, deadline-soon, every_period, energy-most}
use Rattle.sched_model.proofs.JobLaws.{last_release-le, latest-small}
use Rattle.sched_model.proofs.Orders.{sum_list, sum_list-in_order}
use Rattle.sched_model.proofs.StaticShare.{heaviest_within}
use Rattle.dvs_base.specs.declared.note.Note.{Note}
use Rattle.sched_model.specs.declared.holder.Holder.TheVariants.{Held}
use Rattle.sched_model.specs.Schedule.{IsScheduleBy, schedule}
use Rattle.sched_model.specs.Notes.{Span, position_of, run_energy_told, idle_energy_told, notes_before_end}
use Rattle.trace_reader.specs.Traces.{IsPlace, IsNoteOf, lines_for_tasks, IsTrace}
use Rattle.sched_model.proofs.Spans.{IsLastSpan, IsNow}
use Rattle.sched_model.proofs.Walk.{at_unit, EachNote, each-note}
use Rattle.dvs_base.specs.declared.kind.Version.{Version}
use Rattle.dvs_base.specs.declared.note.Note.TheVariants.{Run, End}
use Rattle.dvs_base.specs.Parts.{name_of}
use Rattle.task_model.specs.declared.task.Task.{Task}
use Rattle.sched_model.proofs.Schedules.{length-list_below, schedule_exists}
use Rattle.dvs_base.proofs.Lists.{each-append}
use Rattle.dvs_base.specs.NoteTasks.{energy_of_task}
use Rattle.trace_text.specs.TraceText.{task_text, task_energy}
use Rattle.sched_model.proofs.Units.{each-weaker}
use Rattle.trace_writer.specs.RunText.{task_texts}
use Rattle.trace_laws.proofs.OneEnd.{schedule-ended}
use Rattle.trace_laws.specs.RunTraces.{trace_of_run, IsLimitedRun, KeepsLimits}
use Rattle.note_laws.proofs.FewNotes.{has-few-notes}

-- both numbers of a fraction are below 2^128
pub record IsLow (d : Frac) : Type 0 where
  pub num : d.num < 2 ^ 128
  pub den : d.den < 2 ^ 128

module _ (p : Plan) (adm : IsAdmitted p) (dem : JobDemands) (within : IsWithin p dem) (past : List Tick)
    (few : length past ≤ MOST_TICKS) where
  few_tasks : count p ≤ MOST_TASKS
  few_tasks = adm.limits.tasks.few

  some_task : 0 < count p
  some_task = adm.limits.tasks.some

  -- the speed of each entry is at most the highest that a machine may have
  low_speed : (e : ℕ) → e < length p.machine.points → speed_at p.machine e ≤ TOP_SPEED
  low_speed e lt = (adm.limits.machine.each e lt).low_speed

  low_top : top_speed p ≤ TOP_SPEED
  low_top = low_speed (length p.machine.points - 1) (omega (arith, adm.limits.machine.some))

  -- the work that the highest speed does in at most the longest hyperperiod is below 2^128
  room : (n ticks : ℕ) → n ≤ top_speed p * ticks → ticks ≤ LONGEST_HYPERPERIOD → n < 2 ^ 128
  room n ticks le short = omega (arith, mul-le-mul_right ticks low_top)

  full-low : IsLow (full_demand p)
  full-low = record { num = omega (arith, low_top); den = omega arith }

  edf-static-low : IsEdfFeasible p → IsLow (record { num = total_rate p; den = hyper p })
  edf-static-low test = grind (arith, nat_tests, room, low_hyper)

  rm-static-low : IsRmFeasible p → IsLow (rm_static p)
  rm-static-low test = grind (arith, nat_tests, heaviest_within, low_period, room)

  charged-most : (i : ℕ) → i < count p → cycle_units p dem past i ≤ worst p i
  charged-most i lt = grind (arith, within.most i (latest p i (length past)) lt)

  edf-cycle-low : IsEdfFeasible p → IsLow (edf_cycle p dem past)
  edf-cycle-low test =
      let rates : ℕ → ℕ = λ i. rate_for p i (cycle_units p dem past i) in
      let most : sum_below (count p) rates ≤ total_rate p =
      sum_below-le (count p) rates (rate p) (λ i lt. mul-le-mul_right (hyper p / period p i) (charged-most i lt)) in
      record {
        num = room (sum_below (count p) rates) (hyper p) (omega (arith, most, test)) (low_hyper p adm.limits);
        den = omega (arith, low_hyper p adm.limits);
      }

  -- the earliest deadline is at most the longest period away
  earliest-soon : (t : ℕ) → earliest p t ≤ t + LONGEST_PERIOD
  earliest-soon t = grind (arith, nat_tests, least-below, some_task, deadline-soon)

  allotted-most : (v : SinceRelease) (i : ℕ) → allotment_left_of p v i ≤ units_at_mark p v
  allotted-most v i = grind arith

  rm-cycle-low : IsLow (rm_cycle p dem past)
  rm-cycle-low =
      let v : SinceRelease = since_release p dem past in
      let soon : v.first ≤ 2 ^ 41 =
      omega (arith, earliest-soon (last_release p (length past)), last_release-le p (length past), few) in
      let entry = lowest_within p.machine (rm_static p) adm.limits.machine.some in
      let speed : static_speed p ≤ TOP_SPEED = low_speed (lowest_entry p.machine (rm_static p)) entry in
      let since : v.first - v.mark ≤ 2 ^ 41 = omega (arith, soon) in
      let units : units_at_mark p v ≤ 2 ^ 41 * TOP_SPEED = mul-le-mul since speed in
      record {
        num =
            omega (
              arith,
              sum_below-limit (count p) (units_at_mark p v) (allotment_left_of p v) (λ i lt. allotted-most v i),
              units,
              mul-le-mul_right (units_at_mark p v) few_tasks,
            );
        den = omega (arith, soon);
      }

  -- the units that are due first are at most those that may be left
  first-most : (due left : ℕ → ℕ) (is : List ℕ) → due_first p due left is ≤ sum_list left is
  first-most due left [] = omega arith
  first-most due left (i ∷ is) = omega (arith, first-most due left is)

  left-most : (i : ℕ) → i < count p → wleft p dem past i ≤ 2 ^ 61
  left-most i lt = grind (arith, low_worst p adm.limits i lt)

  edf-ahead-low : IsLow (edf_ahead p dem past)
  edf-ahead-low =
      let due : ℕ → ℕ = λ i. deadline p i (length past) in
      let left : ℕ → ℕ = wleft p dem past in
      record {
        num =
            omega (
              arith,
              first-most due left (in_order due (count p)),
              sum_list-in_order left due (count p),
              sum_below-limit (count p) (2 ^ 61) left left-most,
              few_tasks,
            );
        den = omega (arith, earliest-soon (length past), few);
      }

  demand-low : (s : Scheduler) → PassesTest s p → (g : GovernorKind) → IsLow (demand_by s g p dem past)
  demand-low s test g = grind (arith, nat_tests, full-low, edf-static-low, rm-static-low, edf-cycle-low, rm-cycle-low, edf-ahead-low)

  pub published-low : (g : GovernorKind) → IsLow (published p g dem past)
  unfolding published
  published-low g = demand-low p.scheduler adm.test g

-- the most units of a run
abbrev most_units : ℕ
most_units = 2 ^ 60

-- the most energy of at most `most_units` units
abbrev pub most_energy : ℕ
most_energy = 2 ^ 100

-- the note's numbers fit in their types, and its energy is at most `most_energy`
abbrev pub IsLowNote : Plan → Note → Type 0
IsLowNote p n = IsNoteOf (count p) n × (run_energy_told n ≤ most_energy) × (idle_energy_told n ≤ most_energy)

-- the numbers of a position of a run are below 2^64
is-place : (from f q : ℕ) → from ≤ MOST_TICKS → q ≤ most_units → IsPlace (position_of from f q)
is-place from f q early few = (omega (arith, div-le_self q f, early, few), omega (arith, mod-le q f, few))

module _ (p : Plan) (lim : IsWithinLimits p) (dem : JobDemands) (within : IsWithin p dem) (ask : PublishedDemand)
    (low : (past : List Tick) → length past ≤ MOST_TICKS → IsLow (ask past)) where
  abbrev AreLow : List Note → Type 0
  AreLow = AllByRecursion (IsLowNote p)

  -- the job numbers of a run are below 2^64
  job-low : (i t : ℕ) → t ≤ MOST_TICKS → latest p i t < 2 ^ 64
  job-low i t early = omega (arith, latest-small p i t (every_period p lim i), early)

  -- the notes of a span have low numbers
  module _ (x : Tick) (past : List Tick) (s : Span) (l : IsLastSpan p dem ask x past s) (few : length (x ∷ past) ≤ MOST_TICKS) where
    early : length s.past ≤ MOST_TICKS
    early = omega (arith, few, l.shorter)

    span_speed : (point p s.entry).speed ≤ TOP_SPEED
    span_speed = (lim.machine.each s.entry (l.entry lim)).low_speed

    low_volts : (point p s.entry).millivolts ≤ MOST_MILLIVOLTS
    low_volts = (lim.machine.each s.entry (l.entry lim)).low_millivolts

    low_units : length s.units ≤ most_units
    low_units = grind (arith, nat_tests, mul-le-mul, span_speed)

    place : (q : ℕ) → q ≤ length s.units → IsPlace (at_unit p s q)
    place q le = is-place (length s.past) ((point p s.entry).speed) q early (omega (arith, le, low_units))

    job : (i k : ℕ) → IsNow p dem (length past) (Held i k) → k < 2 ^ 64
    job i k now = omega (arith, now.1, job-low i (length past) (omega (arith, few)))

    each-low : EachNote p dem ask (IsLowNote p) (IsNow p dem (length past)) s
    each-low = grind (arith, nat_tests, early, job-low, span_speed, low_units, energy-most, low_volts, place, job, low_worst)

  -- all notes but the last have low numbers
  pub notes-low : (ticks : List Tick) → length ticks ≤ MOST_TICKS → IsScheduleBy p dem ask ticks
      → AreLow (notes_before_end p dem ask ticks)
  notes-low ticks few h = each-note p dem ask lim (IsLowNote p) ticks (λ x past s first l. each-low x past s l (omega (arith, first.fewer, few))) h

-- the energy that a note adds to one task is at most that of its run
own-most : (i : ℕ) (n : Note) → energy_of_task i n ≤ run_energy_told n
own-most i (Run from to j k units energy) = grind arith
own-most i _ = omega arith

-- the most notes of a trace: the most lines without the first two and without two for each task
abbrev most_notes : ℕ
most_notes = MOST_LINES - (2 + 2 * MOST_TASKS)

-- a sum over at most `most_notes` notes, each at most `most_energy`, is below 2^128
sum-low : (f : Note → ℕ) (notes : List Note) → length notes ≤ most_notes
    → AllByRecursion (λ n. f n ≤ most_energy) notes → sum_by f notes < 2 ^ 128
sum-low f notes few each =
    omega (
      arith,
      sum_by-le f most_energy notes (All-from_recursion (λ n. f n ≤ most_energy) notes each),
      mul-le-mul_right most_energy few,
    )

module _ (v : Version) (p : Plan) (g : GovernorKind) (dem : JobDemands) (ticks : ℕ) (adm : IsAdmitted p)
    (run : IsLimitedRun p g dem ticks) where
  abbrev past : List Tick
  past = schedule p g dem ticks

  legal : IsScheduleBy p dem (published p g dem) past
  legal = (schedule_exists p dem (published p g dem) ticks).0

  long : length past ≡ ticks
  long = (schedule_exists p dem (published p g dem) ticks).1

  -- the notes before the last
  abbrev notes : List Note
  notes = notes_before_end p dem (published p g dem) past

  abbrev last : Note
  last = End (length past) (sum_by run_energy_told notes) (sum_by idle_energy_told notes)

  all-low : AllByRecursion (IsLowNote p) notes
  all-low = grind (arith, nat_tests, notes-low, early, published-low, long, legal)

  few-lines : length (notes ++ last ∷ []) ≤ most_notes
  few-lines = grind (arith, nat_tests, has-few-notes, legal, long)

  few-before : length notes ≤ most_notes
  few-before = omega (arith, few-lines, length-append notes (last ∷ []))

  run-low : sum_by run_energy_told notes < 2 ^ 128
  run-low = grind (arith, nat_tests, sum-low, few-before, each-weaker, all-low)

  idle-low : sum_by idle_energy_told notes < 2 ^ 128
  idle-low = grind (arith, nat_tests, sum-low, few-before, each-weaker, all-low)

  shares-low : (i : ℕ) → task_energy (notes ++ last ∷ []) i < 2 ^ 128
  shares-low i = grind (arith, nat_tests, sum-low, few-lines, each-append, each-weaker, own-most, all-low)

  named : length (names p) ≡ count p
  named = length-map p.tasks (λ (t : Task). t.name)

  listed : length (task_texts p) ≡ count p
  listed = length-list_below (count p) (λ i. task_text (name_of (names p) i) (period p i) (offset p i) (task p i).worst)

  lines-low : lines_for_tasks v (length (names p)) (length (task_texts p)) ≤ 2 * MOST_TASKS
  lines-low = grind (arith, named, listed, adm.limits.tasks.few)

  -- the trace of the run, in either version, is within the limits of traces
  trace-fits : IsTrace (names p) (task_texts p) (trace_of_run v p g dem ticks)
  trace-fits = record {
    pair = run.pair;
    some_ticks = run.some_ticks;
    low_ticks = run.low_ticks;
    each =
        subst (λ c. AllByRecursion (IsNoteOf c) (notes ++ last ∷ [])) (sym named)
        (each-append (IsNoteOf (count p)) notes (last ∷ [])
        (each-weaker (IsLowNote p) (IsNoteOf (count p)) (λ n h. h.0) notes all-low)
        ((omega (arith, long, run.low_ticks), run-low, idle-low), tt));
    ended = schedule-ended p dem (published p g dem) past;
    shares = λ _ i lt. shares-low i;
    lines = omega (arith, lines-low, few-lines);
  }

-- every run of an admitted plan within the limits has a trace
pub keeps-limits : (p : Plan) → IsAdmitted p → KeepsLimits p
keeps-limits p adm v g dem ticks run = trace-fits v p g dem ticks adm run
