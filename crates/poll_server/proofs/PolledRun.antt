-- A run of a server as a whole: its notes, where the server's jobs are done, what is answered, and the bound on it.
use Rattle.std.proofs.Common.{◌≡◌, ℕ, ◌*◌, ◌<◌, ◌≤◌, ◌⊎◌, inl, inr, List, refl, arith, ap, ◌∙◌, sym, subst, eq-or-lt_of_le, ◌+◌, ◌-◌, false, length, replicate, ap₂}
use Rattle.std.specs.Prelude.{Option, Some, None}
use Rattle.std.proofs.Math.Logic.{⊎_elim}
use Rattle.std.proofs.Math.Nat.{mul-le-mul_right}
use Rattle.dvs_base.specs.declared.note.Note.{Note}
use Rattle.dvs_base.specs.declared.note.Pos.{Pos}
use Rattle.request_list.specs.Requests.{AreRequests}
use Rattle.sched_model.specs.Plan.{Plan, period, count, offset}
use Rattle.sched_model.specs.Jobs.{JobDemands, due, release, released_jobs, demand_of}
use Rattle.sched_model.specs.Totals.{totals_of}
use Rattle.sched_model.proofs.Schedules.{length-list_below, schedule_exists}
use Rattle.grid_fraction.proofs.Tables.{get-table}
use Rattle.note_laws.specs.InTime.{IsBy}
use Rattle.poll_server.specs.declared.served.Outcome.TheVariants.{Pending}
use Rattle.poll_server.specs.ServerJobs.{ServerView, budget, request_count, server_of, polled_demand, job_release}
use Rattle.poll_server.specs.Outcomes.{done_at, IsOutcome, ServedView}
use Rattle.poll_server.specs.Bound.{latest_job, latest_end, IsServedBy, KeepsBound, jobs_before, HaveJobs}
use Rattle.poll_server.specs.Polled.{IsPolled, polled_notes}
use Rattle.poll_server.specs.EachOutcome.{job_of, outcome_by, outcome_of, served_by, outcomes_of, served_of}
use Rattle.poll_server.proofs.RequestJobs.{belongs, one-job, job-some, job-most, have-jobs}
use Rattle.poll_server.proofs.JobEnds.{IsEndBy, ends-never, ends-in-time, HearsAll, hears-all, none-told}
use Rattle.std.specs.Option.{option_or}
use Rattle.std.proofs.lemmas.List.{length-replicate}
use Rattle.dvs_base.specs.declared.note.Totals.{Totals}
use Rattle.demand_list.specs.Demands.{DemandsView}
use Rattle.grid_fraction.specs.Numbers.{ceil_div}
use Rattle.grid_fraction.proofs.Sums.{sum_where-other}
use Rattle.sched_model.specs.Ticks.{Tick}
use Rattle.sched_model.specs.Admission.{IsAdmitted}
use Rattle.request_list.specs.declared.requests.Request.{Request}
use Rattle.sched_model.proofs.Limits.{every_period}
use Rattle.governor.specs.Meanings.{OwnDemand}
use Rattle.governor.specs.Schedule.{ask_of}
use Rattle.event_kernel.specs.Heard.{HasHeard}
use Rattle.event_kernel.specs.Runs.{Run, notes_of_run, MeetsDeadlines}
use Rattle.replay_laws.specs.OwnList.{ticks_by}
use Rattle.replay_laws.proofs.SameLists.{own-lists}
use Rattle.poll_server.specs.declared.ends.Ends.{Ends}
use Rattle.poll_server.specs.declared.served.Outcome.{Outcome}
use Rattle.poll_server.specs.Walks.{IsServable, AreTaken, AreEnds, Hears, end_at}
use Rattle.poll_server.proofs.Takings.{before-released}
use Rattle.poll_server.proofs.ServerRuns.{same-notes}
use Rattle.poll_server.proofs.Steps.{some-budget, some-period}

-- a later job is due no earlier
due-up : (p : Plan) (i j k : ℕ) → j ≤ k → due p i j ≤ due p i k
unfolding due
due-up p i j k le = let more : j * period p i ≤ k * period p i = mul-le-mul_right (period p i) le in omega (arith, more)

-- a position not after a tick is not after a later one
by-later : (t u : ℕ) (q : Pos) → t ≤ u → IsBy t q → IsBy u q
by-later t u q le (inl before) = inl (omega arith)
by-later t u q le (inr (at_tick, none)) = ⊎_elim (λ e. inr (at_tick ∙ e, none)) (λ l. inl (omega (arith, at_tick, l))) (eq-or-lt_of_le le)

-- a server with a period and a budget, and the notes of a run
module _ (s : ServerView) (h : AreRequests s.requests) (some : 0 < period s.plan s.task) (room : 0 < budget s) (notes : List Note) where
  outcome-is : (m : ℕ) → m < request_count s → (o : Option Pos) → done_at notes s.task (job_of s m) ≡ o
      → IsOutcome s notes m (outcome_by (job_of s m) o)
  outcome-is m lt None e = λ k own. ap (done_at notes s.task) (one-job s m k (job_of s m) own (belongs s h some room m lt)) ∙ e
  outcome-is m lt (Some q) e = (belongs s h some room m lt, e)

  -- each outcome is that of its request by the notes
  pub are-polled : IsPolled s notes (served_by s notes)
  are-polled = record {
    all = length-list_below (request_count s) (outcome_of s notes);
    outcomes = λ m lt. subst (IsOutcome s notes m) (sym (get-table (request_count s) (outcome_of s notes) m Pending lt))
        (outcome-is m lt (done_at notes s.task (job_of s m)) refl);
    totals = refl;
  }

  served-by : (t u m : ℕ) (o : Option Pos) → t ≤ u → IsEndBy t o → IsServedBy u (outcome_by (job_of s m) o)
  served-by t u m None le by = absurd by
  served-by t u m (Some q) le by = by-later t u q le by

  -- the bound is kept, if each job of the server that is due within the run is done by then
  pub keeps-bound : (ticks : ℕ)
      → ((k : ℕ) → 1 ≤ k → due s.plan s.task k ≤ ticks → IsEndBy (due s.plan s.task k) (done_at notes s.task k))
      → KeepsBound s ticks (served_by s notes)
  keeps-bound ticks met m lt within =
      let soon : due s.plan s.task (job_of s m) ≤ latest_end s m = due-up s.plan s.task (job_of s m) (latest_job s m) (job-most s h some room m lt) in
      let by = met (job_of s m) (job-some s h some room m lt) (omega (arith, soon, within)) in
      subst (IsServedBy (latest_end s m)) (sym (get-table (request_count s) (outcome_of s notes) m Pending lt))
      (served-by (due s.plan s.task (job_of s m)) (latest_end s m) m (done_at notes s.task (job_of s m)) soon by)

-- the run of a server's plan for `ticks` ticks, with a list of what its first jobs take
abbrev pub run_of : ServerView → DemandsView → ℕ → Run
run_of s d ticks = record { plan = s.plan; demands = d; ticks = ticks }

-- each request of a server belongs to a job, and a later request never to an earlier job
pub server_jobs : (p : Plan) (i : ℕ) (requests : List Request) → IsAdmitted p → i < count p → AreRequests requests
    → HaveJobs (server_of p i requests)
server_jobs p i requests adm lt h =
    have-jobs (server_of p i requests) h (some-period (server_of p i requests) adm) (some-budget (server_of p i requests) adm lt)

-- the jobs of one task released within the ticks are no more than those of all tasks
pub jobs-within : (p : Plan) (i ticks : ℕ) → i < count p → ceil_div (ticks - offset p i) (period p i) ≤ released_jobs p ticks
jobs-within p i ticks lt =
    omega (arith, sum_where-other (count p) (λ j. false) (λ j. ceil_div (ticks - offset p j) (period p j)) i lt refl)

-- what `poll` returns is the function of its arguments, each request has its outcome, and the bound is kept
pub record Answered (demand : OwnDemand) (s : ServerView) (ticks : ℕ) (r : ServedView) : Type 0 where
  pub served : r ≡ served_of demand s ticks
  pub outcomes : IsPolled s (polled_notes demand s ticks) r
  pub bound : KeepsBound s ticks r

-- a run by a governor's demand of a server and a list of what its first n jobs take
module _ (demand : OwnDemand) (s : ServerView) (d : DemandsView) (n ticks : ℕ) (n_is : n ≡ jobs_before s ticks)
    (servable : IsServable s n d) (run : Run) (run_is : run ≡ run_of s d ticks) where
  some : 0 < period s.plan s.task
  some = every_period s.plan servable.server.plan.limits s.task

  abbrev dem : JobDemands
  dem = demand_of s.plan d.rows

  abbrev ticks_run : List Tick
  ticks_run = ticks_by s.plan (ask_of demand s.plan) dem ticks

  -- the notes of the run are those of the run of all that the server's jobs take
  notes-are : notes_of_run demand run ≡ polled_notes demand s ticks
  notes-are =
      ap (notes_of_run demand) run_is
      ∙ sym (same-notes demand s some ((own-lists s.plan servable.server.plan.limits).looks demand) ticks d.rows
      (subst (λ (m : ℕ). AreTaken s m d.rows) n_is servable.rows)
      ((schedule_exists s.plan dem (ask_of demand s.plan dem) ticks).1))

  -- a listener that heard the notes has the ends of the server's first n jobs
  ends-are : (from to : Ends) → from.task ≡ s.task → from.ends.items ≡ replicate n None
      → HasHeard Hears from (notes_of_run demand run) to
      → AreEnds s (polled_notes demand s ticks) n to.ends.items
  ends-are from to task empty heard = record {
    long = all.long ∙ from_long;
    told = λ k lt.
        all.told k (subst (λ (m : ℕ). k < m) (sym from_long) lt)
        ∙ (ap (λ (o : Option Pos). option_or o (done_at (notes_of_run demand run) from.task (k + 1))) (nothing k)
        ∙ ap₂ (λ (l : List Note) (i : ℕ). done_at l i (k + 1)) notes-are task);
    no_later = λ k later.
        let over : jobs_before s ticks < k = subst (λ (m : ℕ). m < k) n_is later in
        let polled = schedule_exists s.plan (polled_demand s) (ask_of demand s.plan (polled_demand s)) ticks in
        let after : ticks ≤ job_release s k = before-released s ticks k some over in
        ends-never s.plan (polled_demand s) (ask_of demand s.plan (polled_demand s)) servable.server.plan.limits
        (ticks_by s.plan (ask_of demand s.plan) (polled_demand s) ticks) polled.0 s.task k servable.server.task (omega arith)
        (subst (λ (m : ℕ). m ≤ release s.plan s.task k) (sym polled.1) after);
  }
    where
      all : HearsAll from (notes_of_run demand run) to
      all = hears-all from (notes_of_run demand run) to heard

      from_long : length from.ends.items ≡ n
      from_long = ap length empty ∙ length-replicate n None

      nothing : (k : ℕ) → end_at from.ends.items k ≡ None
      nothing k = ap (λ (l : List (Option Pos)). end_at l k) empty ∙ none-told n k

  -- each job of the server that is due within the run is done by then
  ends-met : MeetsDeadlines demand run → (k : ℕ) → 1 ≤ k → due s.plan s.task k ≤ ticks
      → IsEndBy (due s.plan s.task k) (done_at (polled_notes demand s ticks) s.task k)
  ends-met met k first within =
      let run = schedule_exists s.plan dem (ask_of demand s.plan dem) ticks in
      subst (λ (l : List Note). IsEndBy (due s.plan s.task k) (done_at l s.task k)) (sym (ap (notes_of_run demand) run_is) ∙ notes-are)
      (ends-in-time s.plan dem (ask_of demand s.plan dem) servable.server.plan.limits ticks_run run.0 s.task k servable.server.task first
      (subst (MeetsDeadlines demand) run_is met)
      (subst (λ (m : ℕ). due s.plan s.task k ≤ m) (sym run.1) within))

  pub answered : MeetsDeadlines demand run → (from to : Ends) → from.task ≡ s.task → from.ends.items ≡ replicate n None
      → HasHeard Hears from (notes_of_run demand run) to → (outcomes : List Outcome) (totals : Totals)
      → ((notes : List Note) → AreEnds s notes n to.ends.items → outcomes ≡ outcomes_of s notes)
      → totals ≡ totals_of (notes_of_run demand run) → (r : ServedView) → r ≡ record { outcomes = outcomes; totals = totals }
      → Answered demand s ticks r
  answered met from to task empty heard outcomes totals each sums r is =
      let all = polled_notes demand s ticks in
      let room = some-budget s servable.server.plan servable.server.task in
      let served : r ≡ served_of demand s ticks = is ∙ ap₂ (λ (o : List Outcome) (t : Totals). record { outcomes = o; totals = t })
      (each all (ends-are from to task empty heard)) (sums ∙ ap totals_of notes-are) in
      record {
        served = served;
        outcomes = subst (IsPolled s all) (sym served) (are-polled s servable.server.requests some room all);
        bound = subst (KeepsBound s ticks) (sym served) (keeps-bound s servable.server.requests some room all ticks (ends-met met));
      }
