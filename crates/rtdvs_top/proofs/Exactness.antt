-- A replay or a migration is done exactly if the trace file is the text of a run, which then has a text in version 2.
use Rattle.std.proofs.Common.{◌≡◌, ℕ, ◌≤◌, Bool, true, false, List, Some, None, Result, Ok, Err, IsOk, refl, sym, ap, ◌∙◌, true≢false, nat_lt, if◌then◌else◌, arith, inl, inr, [], ◌∷◌, length, map, Option, subst}
use Rattle.std.proofs.lemmas.Bool.Decides.{nat_tests}
use Rattle.dvs_base.specs.declared.kind.Version.TheVariants.{Two}
use Rattle.dvs_base.specs.declared.note.Note.{Note}
use Rattle.dvs_base.specs.declared.note.Totals.{Totals}
use Rattle.dvs_base.specs.declared.limits.TheConstants.{MOST_JOBS, LONGEST_TRACE}
use Rattle.sched_model.specs.Plan.{Plan, names, plan_of}
use Rattle.sched_model.specs.Jobs.{released_jobs, demand_of}
use Rattle.sched_model.specs.Demand.{published}
use Rattle.sched_model.specs.Admission.{IsWithinLimits, IsAdmitted}
use Rattle.sched_model.specs.RunNotes.{run_notes}
use Rattle.trace_writer.specs.RunText.{task_texts}
use Rattle.trace_reader.specs.Traces.{TraceView, IsEnded, IsTrace, IsTextOf, text_of}
use Rattle.trace_text.specs.TraceText.{task_text}
use Rattle.replay_laws.specs.FixedDemands.{fixed_of}
use Rattle.replay.specs.Replays.{too_many, replay_of}
use Rattle.replay.specs.declared.fault.ReplayFault.{ReplayFault}
use Rattle.replay.specs.declared.fault.ReplayFault.TheVariants as replay_fault
use Rattle.replay.proofs.Exact.{Passes, replayed-passes, some-replayed, is-replayed}
use Rattle.rtdvs_top.specs.Asked.{asked_with}
use Rattle.std.specs.Prelude.{IfOk}
use Rattle.statuses.specs.Steps.{IsTestStep}
use Rattle.rtdvs_top.specs.Trace.{replay_status, totals_at, task_line, lines_of_tasks, trace_of, trace_at, traced_of, use_text, answer_of_traced, trace_answer, IsScheduleText, AreFilesOf, TellsOwn, IsMigratable, IsDoneUnless, AcceptsScheduleTexts}
use Rattle.rtdvs_top.proofs.DeniedPlans.{given-once, given-both, passes-admission, admission-gives}
use Rattle.dvs_base.specs.Outside.{Files, file_of}
use Rattle.dvs_base.specs.Checks.{and_then}
use Rattle.dvs_base.specs.declared.kind.GovernorKind.{GovernorKind}
use Rattle.dvs_base.specs.declared.kind.Version.{Version}
use Rattle.dvs_base.specs.Parts.{name_of}
use Rattle.grid_fraction.specs.Numbers.{list_below}
use Rattle.task_model.specs.declared.task.Task.{Task}
use Rattle.task_model.specs.Tasks.{task_at}
use Rattle.task_model.specs.DemandRows.{DemandRow}
use Rattle.freq_table.specs.Tables.{Table}
use Rattle.sched_model.specs.Totals.{totals_of}
use Rattle.trace_reader.specs.declared.trace.TraceFault.{TraceFault}
use Rattle.trace_reader.proofs.HeadTexts.{task_lines-lines}
use Rattle.trace_reader.proofs.ShortTexts.{text-short}
use Rattle.trace_reader.proofs.TraceTexts.{reads-found, reads-only, version-lines}
use Rattle.replay_laws.proofs.SameLists.{own-lists}
use Rattle.trace_laws.specs.RunTraces.{trace_of_run, IsLimitedRun}
use Rattle.trace_laws.proofs.TraceLimits.{keeps-limits}
use Rattle.replay.proofs.Texts.{names-distinct, names-named}
use Rattle.words.specs.Commands.{TracedView, CommandView, traced}
use Rattle.command_files.specs.Meanings.{longest, bytes_from, bytes_at, tasks_at, machine_at}
use Rattle.command_files.specs.Admissions.{admission}
use Rattle.rtdvs_top.specs.Promises.{IsAnswer, Answers}
use Rattle.statuses.specs.declared.status.FileKind.{FileKind}
use Rattle.statuses.specs.declared.status.FileKind.TheVariants as file
use Rattle.statuses.specs.declared.status.Status.{Status}
use Rattle.statuses.specs.declared.status.Status.TheVariants as status
use Rattle.statuses.specs.declared.status.TextFault.TheVariants as text_fault
use Rattle.statuses.specs.Refused.{or_status, trace_status}
use Rattle.command_files.proofs.FileLoads.{short_file}
use Rattle.trace_writer.proofs.SumLines.{below-first}
use Rattle.rtdvs_top.specs.Prepared.{ProvesDone, IsComparable}

-- a replay that has totals is done
pub replayed-some : (r : Result Totals ReplayFault) → IsOk (or_status replay_status r) → (totals : Totals) × (r ≡ Ok totals)
replayed-some (Ok totals) h = (totals, refl)
replayed-some (Err why) h = absurd (true≢false (sym h))

-- the limit on jobs holds if it refuses nothing
pub few-of-none : (p : Plan) (ticks : ℕ) → too_many p ticks ≡ None → released_jobs p ticks ≤ MOST_JOBS
few-of-none p ticks = go (nat_lt MOST_JOBS (released_jobs p ticks)) refl
  where
    go : (b : Bool) → nat_lt MOST_JOBS (released_jobs p ticks) ≡ b
        → (if b then Some (replay_fault.TooManyJobs (released_jobs p ticks)) else None) ≡ None
        → released_jobs p ticks ≤ MOST_JOBS
    go true e none = absurd cc
    go false e none = grind (arith, nat_tests, e)

module _ (p : Plan) (lim : IsWithinLimits p) (t : TraceView) (ended : IsEnded t.notes) where
  -- a trace that has totals passes the comparison
  pub passes : IsOk (totals_at (p, t)) → Passes p lim (published p t.plan.governor) t ended
  unfolding totals_at
  passes ok =
      let asked = published p t.plan.governor in
      let done = replayed-some (replay_of p asked t) ok in
      (replayed-passes p lim asked t ended done.0 done.1).0

  -- the run for the demands that a trace with totals fixes has the notes of the trace
  pub own-notes : IsOk (totals_at (p, t))
      → run_notes p t.plan.governor (demand_of p (fixed_of p t.notes)) t.plan.ticks ≡ t.notes
  own-notes ok = sym (passes ok).same

-- a trace that was compared with the schedule of an admitted plan has a text in version 2
pub migratable : (p : Plan) (t : TraceView) → IsAdmitted p → IsComparable p t → (r : Result Totals Status)
    → IsTestStep (totals_at (p, t)) r (λ totals. totals) → IfOk r (λ totals. IsMigratable p t)
unfolding totals_at
migratable p t adm c (Err s) step = tt
migratable p t adm c (Ok totals) step =
    let ok : IsOk (totals_at (p, t)) = subst IsOk (sym step.gives) refl in
    let lim = adm.limits in
    let g = t.plan.governor in
    let ticks = t.plan.ticks in
    let dem = demand_of p (fixed_of p t.notes) in
    let some = replayed-some (replay_of p (published p g) t) ok in
    let own = is-replayed p lim (published p g) t c.ended ((own-lists p lim).published_own g) some.0 some.1 in
    let limited : IsLimitedRun p g dem ticks = record {
      pair = c.pair;
      some_ticks = c.some_ticks;
      low_ticks = c.low_ticks;
      within = own.notes.within;
      few = few-of-none p ticks (passes p lim t c.ended ok).few;
    } in
    let same : trace_of_run Two p g dem ticks ≡ record t { version = Two } =
    λ i. record {
      version = Two;
      plan = record { scheduler = sym c.scheduler i; governor = g; ticks = ticks };
      notes = own-notes p lim t c.ended ok i;
    } in
    record {
      scheduler = c.scheduler;
      trace = subst (λ (u : TraceView). IsTrace (names p) (task_texts p) u) same (keeps-limits p adm Two g dem ticks limited);
    }

-- the line of a task of a list
abbrev line_of_task : List Task → ℕ → List ℕ
line_of_task tasks i =
    task_text (name_of (map (λ (t : Task). t.name) tasks) i) (task_at tasks i).period (task_at tasks i).offset (task_at tasks i).worst

-- the lines of the tasks, by their numbers and one after another
task-lines : (tasks : List Task) → list_below (length tasks) (line_of_task tasks) ≡ lines_of_tasks tasks
task-lines [] = refl
task-lines (t ∷ tasks) =
    below-first (length tasks) (line_of_task (t ∷ tasks))
    ∙ ap (λ (l : List (List ℕ)). task_text t.name t.period t.offset t.worst ∷ l) (task-lines tasks)

-- a file that is the text of a schedule of a plan is read, its plan is admitted, and its trace is that of its schedule
module _ (r : TracedView) (files : Files) (v : Version) (p : Plan) (g : GovernorKind) (ticks : ℕ) (rows : List DemandRow)
    (bytes : List ℕ) (of : AreFilesOf r files p bytes) (h : IsScheduleText v p g ticks rows bytes) where
  abbrev t : TraceView
  t = trace_of_run v p g (demand_of p rows) ticks

  -- the trace of the run keeps the limits of traces
  whole : IsTrace (names p) (task_texts p) t
  whole =
      keeps-limits p h.admitted v g (demand_of p rows) ticks
      (record { pair = h.pair; some_ticks = h.some_ticks; low_ticks = h.low_ticks; within = h.within; few = h.few })

  fits : IsTrace (names p) (lines_of_tasks p.tasks) t
  fits = subst (λ (l : List (List ℕ)). IsTrace (names p) l t) (task-lines p.tasks) whole

  text : bytes ≡ text_of (names p) (lines_of_tasks p.tasks) t
  text = h.text ∙ ap (λ (l : List (List ℕ)). text_of (names p) l t) (task-lines p.tasks)

  read : trace_of p.tasks bytes ≡ Ok t
  read =
      let named = names-named p.tasks h.admitted.limits.tasks.each in
      let lines = version-lines v (lines_of_tasks p.tasks) (task_lines-lines (names p) (map task_line p.tasks) named) in
      reads-only Two (names p) (lines_of_tasks p.tasks) bytes t named (names-distinct p.tasks h.admitted.limits.tasks) lines tt (fits, text)

  compared : replay_of p (published p g) t ≡ Ok (totals_of t.notes)
  compared =
      some-replayed p h.admitted.limits (published p g) t whole.ended
      ((own-lists p h.admitted.limits).published_own g) rows (record { within = h.within; notes_are = refl }) h.few

  -- it is not too long
  held : bytes_at file.Trace r.trace files ≡ Ok bytes
  held =
      let named = names-named p.tasks h.admitted.limits.tasks.each in
      let lines = task_lines-lines (names p) (map task_line p.tasks) named in
      let short = text-short (names p) (lines_of_tasks p.tasks) t named lines fits in
      rw of.bytes_are (short_file file.Trace bytes (subst (λ (b : List ℕ). length b ≤ LONGEST_TRACE) (sym text) short))

  read-at : trace_at p.tasks r.trace files ≡ Ok t
  read-at = rw (held, read) refl

  admitted : admission p ≡ Ok p
  admitted = passes-admission p.scheduler p h.admitted.test

  traced-is : traced_of r p.tasks files ≡ Ok (p, t)
  traced-is = rw (of.machine_is, read-at, admitted) refl

  -- if the trace file is the text of a schedule, the answer is what is printed for its trace
  pub printed-done : trace_answer r files ≡ Ok (use_text r.asked (p, t) (totals_of t.notes))
  unfolding totals_at
  printed-done = rw (of.tasks_are, traced-is, compared) refl

-- a file whose bytes are taken has these bytes
held-file : (kind : FileKind) (held : Option (List ℕ)) (bytes : List ℕ) → bytes_from kind held ≡ Ok bytes → held ≡ Some bytes
held-file kind None bytes e = absurd (cc)
held-file kind (Some b) bytes e = fits (nat_lt (longest kind) (length b)) e
  where
    fits : (long : Bool) → (if long then Err (status.Text (text_fault.TooLong kind)) else Ok b) ≡ Ok bytes → Some b ≡ Some bytes
    fits true e = absurd (cc)
    fits false e = cc

-- what a trace file means, if it has a meaning
trace-given : (t : TraceView) (r : Result TraceView TraceFault) → or_status trace_status r ≡ Ok t → r ≡ Ok t
trace-given t (Ok u) h = cc
trace-given t (Err e) h = absurd (cc)

-- the trace t with other notes
abbrev with_notes : TraceView → List Note → TraceView
with_notes t notes = record { version = t.version; plan = t.plan; notes = notes }

-- a trace of an admitted plan that has totals
module _ (r : TracedView) (files : Files) (tasks : List Task) (machine : Table) (bytes : List ℕ) (t : TraceView) where
  abbrev plan : Plan
  plan = plan_of tasks machine t.plan.scheduler

  own-text : tasks_at r.tasks files ≡ Ok tasks → machine_at r.machine files ≡ Ok machine
      → bytes_at file.Trace r.trace files ≡ Ok bytes → IsTextOf (names plan) (lines_of_tasks tasks) bytes t
      → IsAdmitted plan → IsOk (totals_at (plan, t)) → TellsOwn r files plan t
  unfolding totals_at
  own-text ts ms bs found adm ok =
      let g = t.plan.governor in
      let ended = found.0.ended in
      let lim = adm.limits in
      let some = replayed-some (replay_of plan (published plan g) t) ok in
      let own = is-replayed plan lim (published plan g) t ended ((own-lists plan lim).published_own g) some.0 some.1 in
      let same : trace_of_run t.version plan g (demand_of plan (fixed_of plan t.notes)) t.plan.ticks ≡ t =
      ap (with_notes t) (own-notes plan lim t ended ok) in
      let lines = sym (task-lines tasks) in
      let text : bytes ≡ text_of (names plan) (task_texts plan) t =
      found.1 ∙ ap (λ (l : List (List ℕ)). text_of (names plan) l t) lines in
      record {
        files_are = record {
          tasks_are = ts;
          machine_is = ms;
          bytes_are = subst (λ (b : List ℕ). file_of files r.trace ≡ Some b) text (held-file file.Trace (file_of files r.trace) bytes bs);
        };
        list = own.list;
        schedule = record {
          admitted = adm;
          within = own.notes.within;
          few = few-of-none plan t.plan.ticks (passes plan lim t ended ok).few;
          pair = found.0.pair;
          some_ticks = found.0.some_ticks;
          low_ticks = found.0.low_ticks;
          text = ap (text_of (names plan) (task_texts plan)) (sym same);
        };
      }

-- a replay or a migration that has an answer is of the schedule for the trace's own list
pub done-own : (r : TracedView) (files : Files) (tasks : List Task) (p : Plan) (t : TraceView)
    → tasks_at r.tasks files ≡ Ok tasks → traced_of r tasks files ≡ Ok (p, t) → IsAdmitted p → IsOk (trace_answer r files)
    → (q : Plan) × (u : TraceView) × TellsOwn r files q u
done-own r files tasks p t ts e adm ok =
    let m = given-both (machine_at r.machine files) _ (p, t) e in
    let x = given-both (trace_at tasks r.trace files) _ (p, t) m.2 in
    let q : Plan = plan_of tasks m.0 x.0.plan.scheduler in
    let a = given-both (admission q) _ (p, t) x.2 in
    let b = given-both (bytes_at file.Trace r.trace files) _ x.0 x.1 in
    let pair : (p, t) ≡ (a.0, x.0) = given-once a.2 refl in
    let own = pair ∙ ap (λ (y : Plan). (y, x.0)) (admission-gives q a.0 a.1).0 in
    let found = (reads-found Two (map (λ (t : Task). t.name) tasks) (lines_of_tasks tasks) b.0 x.0 (trace-given x.0 (trace_of tasks b.0) b.2)).0 in
    let answer : trace_answer r files ≡ answer_of_traced r.asked (p, t) = rw (ts, e) refl in
    let totals : IsOk (totals_at (p, t)) = first-ok (totals_at (p, t)) (λ totals. Ok (use_text r.asked (p, t) totals)) (subst IsOk answer ok) in
    let both = subst (λ (y : Plan × TraceView). IsAdmitted y.0 × IsOk (totals_at y)) own (adm, totals) in
    (q, x.0, own-text r files tasks m.0 b.0 x.0 ts m.1 b.1 found both.0 both.1)
  where
    first-ok : {A B : Type 0} (step : Result A Status) (next : A → Result B Status) → IsOk (and_then step next) → IsOk step
    first-ok (Ok y) next h = refl
    first-ok (Err s) next h = absurd (true≢false (sym h))

-- if there is an answer, the status is `Done`, unless the outside or memory explains it
pub done-unless : (loads_rose puts_rose : Type 0) (answer : Result (List ℕ) Status) (s : Status)
    → IsAnswer loads_rose puts_rose answer s → IsOk answer → IsDoneUnless loads_rose puts_rose s
done-unless loads_rose puts_rose answer status.Done h ok = tt
done-unless loads_rose puts_rose answer status.NoMemory h ok = tt
done-unless loads_rose puts_rose answer (status.Load kind) (inl e) ok = absurd (true≢false (sym (subst IsOk e ok)))
done-unless loads_rose puts_rose answer (status.Load kind) (inr rose) ok = rose
done-unless loads_rose puts_rose answer status.Write h ok = h.1
done-unless loads_rose puts_rose answer s h ok = absurd (true≢false (sym (subst IsOk h ok)))

-- the exactness of a command's ending, from what it met and whose answer its status is
pub accepts-texts : (files : Option Files) (c : CommandView) (loads_rose puts_rose : Type 0) (s : Status) → ProvesDone files c s
    → Answers (asked_with files c) loads_rose puts_rose s → AcceptsScheduleTexts (asked_with files c) loads_rose puts_rose s
accepts-texts (Some files) (traced r) loads_rose puts_rose s met answers = (
  λ e.
      let m = subst (ProvesDone (Some files) (traced r)) e met in
      let ok = subst (IsAnswer loads_rose puts_rose (trace_answer r files)) e answers in
      done-own r files m.0 m.2 m.3 m.1 m.4 m.5 ok,
  λ v p g ticks rows bytes of tells.
      let ok = subst IsOk (sym (printed-done r files v p g ticks rows bytes of tells)) refl in
      done-unless loads_rose puts_rose (trace_answer r files) s answers ok,
)
accepts-texts files c loads_rose puts_rose s met answers = tt
