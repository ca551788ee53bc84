-- Refusals of replays, first differences and their lines, a schedule that has a text, and demands of a run, by evaluation.
use Rattle.std.proofs.Common.{◌≡◌, ◌<◌, ◌≤◌, ◌++◌, ℕ, zero, suc, length, nat_eq, false, true≢false, List, [], ◌∷◌, Ok, Err, refl, sym, subst, arith}
use Rattle.std.proofs.lemmas.Bool.Decides.{nat_tests}
use Rattle.dvs_base.specs.declared.kind.Scheduler.TheVariants.{Edf}
use Rattle.dvs_base.specs.declared.kind.GovernorKind.TheVariants.{Plain}
use Rattle.dvs_base.specs.declared.kind.Version.{Version}
use Rattle.dvs_base.specs.declared.kind.Version.TheVariants.{One, Two}
use Rattle.dvs_base.specs.declared.note.Note.{Note}
use Rattle.dvs_base.specs.declared.note.Note.TheVariants.{Release, Speed, Run, Idle, Done, End}
use Rattle.dvs_base.specs.declared.note.Pos.{Pos}
use Rattle.task_model.specs.DemandRows.{DemandRow}
use Rattle.sched_model.specs.Plan.{Plan, plan_of, names, worst}
use Rattle.sched_model.specs.Jobs.{JobDemands, release, due, latest, demand_of}
use Rattle.sched_model.specs.Priority.{in_order}
use Rattle.sched_model.specs.Schedule.{schedule_by}
use Rattle.sched_model.specs.Notes.{notes_before_end}
use Rattle.trace_reader.specs.Traces.{TraceView, IsTrace}
use Rattle.trace_writer.specs.RunText.{task_texts}
use Rattle.event_kernel.specs.Runs.{MeetsDemands}
use Rattle.replay_laws.specs.OwnList.{Asking, notes_by}
use Rattle.replay.specs.declared.fault.ReplayFault.TheVariants.{OverWorst, TooManyJobs, Differs}
use Rattle.replay.specs.Comparison.{FirstUnequal, comparison}
use Rattle.replay.specs.Replays.{IsFirstDifference, replay_of}
use Rattle.replay.specs.SameTexts.{HasTextFor}

-- a trace of a number of ticks with these notes
abbrev trace_over : ℕ → Version → List Note → TraceView
trace_over ticks version notes =
    record { version = version; plan = record { scheduler = Edf; governor = Plain; ticks = ticks }; notes = notes }

abbrev trace : Version → List Note → TraceView
trace = trace_over 2

abbrev at_tick : ℕ → Pos
at_tick tick = record { tick = tick; offset = 0 }

abbrev first : Note
first = Release 0 0 1

-- both ticks are idle
abbrev idle : Note
idle = Idle (at_tick 0) (at_tick 2) 8 0

abbrev last : Note
last = End 2 0 0

-- in version 1 the second note is on line 4, after the version, the plan and the first note
version_1 : comparison 3 (trace One (first ∷ idle ∷ last ∷ [])) (first ∷ last ∷ []) ≡ Err (Differs 4 last idle)
version_1 = refl

-- in version 2 it is after the lines of three tasks too, also if the run has its end there
end_wanted : comparison 3 (trace Two (first ∷ idle ∷ last ∷ [])) (first ∷ last ∷ []) ≡ Err (Differs 7 last idle)
end_wanted = refl

-- the end of the trace is after the energies of the three tasks too
end_found : comparison 3 (trace Two (first ∷ last ∷ [])) (first ∷ idle ∷ last ∷ []) ≡ Err (Differs 10 idle last)
end_found = refl

-- an end differs if its energy does
energy_of_end : comparison 3 (trace One (last ∷ [])) (End 2 0 1 ∷ []) ≡ Err (Differs 3 (End 2 0 1) last)
energy_of_end = refl

-- for equal notes the totals are the answer
equal_notes :
    comparison 3 (trace Two (first ∷ idle ∷ last ∷ [])) (first ∷ idle ∷ last ∷ [])
    ≡ Ok (record { run = 0; idle = 0; released = 1; finished = 0; decisions = 0 })
equal_notes = refl

-- one task with period 1, whose worst case is 2 units with twice the charge of 1
abbrev at_each_tick : Plan
at_each_tick =
    plan_of (record { name = 97 ∷ []; period = 1; worst = 2; offset = 0 } ∷ [])
    (record { points = record { speed = 8; millivolts = 1000 } ∷ []; idle = 0; charge = 1 }) Edf

-- its first job is done after `used` units
abbrev done_with : ℕ → Note
done_with used = Done (record { tick = 0; offset = used }) 0 1 used

-- a job with 5 units is refused before too many jobs are
ends_first :
    (asked : Asking)
    → replay_of at_each_tick asked (trace_over 100001 One (done_with 5 ∷ [])) ≡ Err (OverWorst 0 1 5 4)
ends_first asked = refl

-- a job with its worst case isn't refused, and too many jobs are refused before the notes are compared
jobs_next :
    (asked : Asking)
    → replay_of at_each_tick asked (trace_over 100001 One (done_with 4 ∷ [])) ≡ Err (TooManyJobs 100001)
jobs_next asked = refl

-- the highest speed as published demand
abbrev highest : Asking
highest dem past = record { num = 8; den = 1 }

-- a list by which the first job needs 1 unit with twice the charge of 1, and each other job its worst case
abbrev one_row : List DemandRow
one_row = record { task = 0; job = 1; units = 1 } ∷ []

abbrev short_first : JobDemands
short_first = demand_of at_each_tick one_row

-- the notes of the schedule of one tick for this list
abbrev short_notes : List Note
short_notes =
    first
    ∷ Speed 0 8 8 1
    ∷ Run (at_tick 0) (record { tick = 0; offset = 3 }) 0 1 3 3000000000
    ∷ done_with 3
    ∷ Idle (record { tick = 0; offset = 3 }) (at_tick 1) 5 0
    ∷ End 1 3000000000 0
    ∷ []

short_schedule : notes_by at_each_tick highest short_first 1 ≡ short_notes
unfolding schedule_by release due latest in_order notes_before_end
short_schedule = refl

-- the trace of these notes has a text
short_trace : IsTrace (names at_each_tick) (task_texts at_each_tick) (trace_over 1 One short_notes)
short_trace = record {
  pair = refl;
  some_ticks = omega arith;
  low_ticks = omega arith;
  each = (omega arith, (omega arith, (omega arith, (omega arith, (omega arith, (omega arith, tt))))));
  ended = (refl, (refl, (refl, (refl, (refl, refl)))));
  shares = λ lines. absurd (true≢false (sym lines));
  lines = omega arith;
}

-- so the schedule for this list has a text: its first job needs less than the worst case, and each other job as much
has_text : HasTextFor One at_each_tick highest Plain 1 one_row
has_text = record {
  within = record { most = most; none = λ i. refl };
  trace =
      subst (λ (notes : List Note). IsTrace (names at_each_tick) (task_texts at_each_tick) (trace_over 1 One notes))
      (sym short_schedule) short_trace;
}
  where
    most : (i k : ℕ) → i < 1 → short_first i k ≤ worst at_each_tick i
    most zero zero lt = omega arith
    most zero (suc zero) lt = omega arith
    most zero (suc (suc k)) lt =
        let later : nat_eq 1 (suc (suc k)) ≡ false = grind (arith, nat_tests) in
        rw later (omega arith)
    most (suc i) k lt = omega (arith, lt)

-- two lists whose first notes differ don't differ first in their second notes
first_notes_differ : (w f : Note) → FirstUnequal (first ∷ last ∷ []) (idle ∷ last ∷ []) 1 w f → ⊥
first_notes_differ w f d = after d.before d.place_is d.wanted_are d.found_are
  where
    after : (ns : List Note) → length ns ≡ 1 → (first ∷ last ∷ []) ≡ ns ++ w ∷ d.more → (idle ∷ last ∷ []) ≡ ns ++ f ∷ d.others → ⊥
    after [] place wanted found = omega (arith, place)
    after (n ∷ ns) place wanted found = absurd (cc)

-- a difference is of two unequal notes, on a line after the version and the plan
difference_shown : (p : Plan) (asked : Asking)
    → (IsFirstDifference p asked (trace One []) 3 first first → ⊥) × (IsFirstDifference p asked (trace One []) 2 last first → ⊥)
difference_shown p asked = (λ d. d.2.unequal refl, λ d. omega (arith, d.1))

-- the decision of a run of one tick, which is its first and its last, counts: the speed 8 doesn't meet the demand 9
one_decision : MeetsDemands (λ p s. record { num = 9; den = 1 }) (record { plan = at_each_tick; demands = record { worsts = []; rows = [] }; ticks = 1 }) → ⊥
unfolding schedule_by
one_decision meets = true≢false (sym (meets 0 (omega arith) refl))
