use Rattle.std.proofs.Common.{◌≡◌, ℕ, ◌+◌, List, [], ◌∷◌, ◌++◌, append_assoc, length, arith, Bool, nat_eq, ap, ap₂, ◌∙◌, sym, subst, eq-eqb, rules}
use Rattle.std.specs.Prelude.{slice_set}
use Rattle.dvs_base.specs.declared.note.Note.{Note}
use Rattle.dvs_base.specs.declared.note.Note.TheVariants.{Release, Done}
use Rattle.event_kernel.specs.Boundary.{needs_nothing}
use Rattle.event_kernel.specs.Segment.{with_notes}
use Rattle.event_kernel.specs.SpanNotes.{kept_notes}
use Rattle.event_kernel.proofs.SpanBuffer.{kept_notes-append}
use Rattle.sched_model.specs.declared.state.Row.{Row}
use Rattle.sched_model.specs.Jobs.{JobDemands}
use Rattle.sched_model.specs.Plan.{period}
use Rattle.sched_model.specs.States.{row_at, after_finish, released_row, CanRelease, StateView}
use Rattle.sched_model.proofs.States.{row_read}
use Rattle.agenda.specs.Agenda.{next_job_row, with_next_job}
use Rattle.agenda.proofs.StateQueues.{with_row}
use Rattle.agenda.specs.Stands.{Stands}
use Rattle.event_kernel.specs.declared.progress.Setting.{Setting}
use Rattle.event_kernel.specs.Current.{latest_demands}
use Rattle.event_kernel.specs.Runs.{demands_of}
use Rattle.event_kernel.proofs.LatestDemands.{demands-long, demand-written}
use Rattle.event_kernel.proofs.BoundaryReleases.{opened-done, opening-done}
use Rattle.event_kernel.proofs.progress.Progress.release_one.Given.{Over}
use Rattle.event_kernel.proofs.progress.Progress.release_one.Goals as goal

-- the demand of the next job is written, and its row
written : (set : Setting) (s : StateView) (i : ℕ) (row : Row) (n : ℕ) (needs : List ℕ) (next : StateView) → CanRelease set.plan.now s i
    → needs ≡ latest_demands set s → n ≡ demands_of set.plan.now set.demands.now i row.job → next ≡ with_row s i row
    → slice_set needs i n ≡ latest_demands set next
written set s i row n needs next can before is moved =
    ap (λ (xs : List ℕ). slice_set xs i n) before ∙ (demand-written set s i row can.task can.below n is
    ∙ ap (λ (v : StateView). latest_demands set v) (sym moved))

pub index_mut-requires : goal.index_mut-requires
index_mut-requires g c =
    omega (
      arith,
      c.requires.can.below,
      ap (λ (xs : List ℕ). length xs) c.requires.current.demands,
      demands-long c.args.set.now c.args.self.now.state,
    )

-- a job that needs nothing
module _ (g : Over) (c : goal.After-push-then-complete g) where
  abbrev s : StateView
  s = c.args.self.now.state

  abbrev i : ℕ
  i = c.args.task

  abbrev dem : JobDemands
  dem = demands_of c.args.set.now.plan.now c.args.set.now.demands.now

  is : c.index.result.now ≡ row_at s i
  is = row_read s _ i c.index.result.now c.state.view_is c.requires.can.task c.index.ensures

  none : dem i ((row_at s i).job + 1) ≡ 0
  none = sym (ap (λ (r : Row). dem i (r.job + 1)) is) ∙ (sym c.demand-needs.ensures ∙ c.if-complete.true)

  state-is : c.finish.new.self ≡ with_next_job c.args.set.now.plan.now s i (needs_nothing dem s i)
  state-is =
      c.finish.ensures
      ∙ (ap (λ (v : StateView). after_finish v i) c.release.ensures
      ∙ opened-done c.args.set.now.plan.now dem s i c.requires.can.task (eq-eqb (dem i ((row_at s i).job + 1)) 0 none))

pub returns-then-complete-clause-state : goal.returns-then-complete-clause-state
returns-then-complete-clause-state g c = state-is g c

pub returns-then-complete-clause-trace : goal.returns-then-complete-clause-trace
returns-then-complete-clause-trace g c =
    let trace = c.args.self.now.trace in
    let job = c.index.result.now.job + 1 in
    let now = c.state.inside.now in
    let release : Note = Release now (i g c) job in
    let done : Note = Done (record { tick = now; offset = 0 }) (i g c) job 0 in
    ap (λ (ns : List Note). record { segment = trace.segment; notes = ns })
    (c.push-then-complete.ensures
    ∙ (ap (λ (ns : List Note). kept_notes (ns ++ done ∷ [])) c.push.ensures
    ∙ kept_notes-append (trace.notes ++ release ∷ []) (done ∷ [])))
    ∙ (ap (λ (ns : List Note). record { segment = trace.segment; notes = kept_notes ns }) (append_assoc trace.notes (release ∷ []) (done ∷ []))
    ∙ (ap₂ (λ t k. with_notes trace (Release t (i g c) (k + 1) ∷ Done (record { tick = t; offset = 0 }) (i g c) (k + 1) 0 ∷ []))
    (ap (λ (v : StateView). v.now) c.state.view_is) (ap (λ (r : Row). r.job) (is g c))
    ∙ ap (λ ns. with_notes trace ns) (sym (opening-done (dem g c) (s g c) (i g c) (none g c)))))

pub returns-then-complete-clause-current : goal.returns-then-complete-clause-current
returns-then-complete-clause-current g c =
    let p = c.args.set.now.plan.now in
    let same : nat_eq c.demand-needs.result 0 ≡ needs_nothing (dem g c) (s g c) (i g c) =
    ap (λ n. nat_eq n 0) (c.demand-needs.ensures ∙ ap (λ (r : Row). dem g c (i g c) (r.job + 1)) (is g c)) in
    record {
      of = search rules;
      counters = search rules;
      agenda = subst (λ (v : StateView). Stands p v c.renew.new.self) (sym (state-is g c))
          (subst (λ (b : Bool). Stands p (with_next_job p (s g c) (i g c) b) c.renew.new.self) same c.renew.ensures);
      demands = written c.args.set.now (s g c) (i g c) (next_job_row (period p (i g c)) (needs_nothing (dem g c) (s g c) (i g c)) (row_at (s g c) (i g c)))
          c.demand-needs.result c.args.self.now.needs.items c.finish.new.self c.requires.can c.requires.current.demands
          (c.demand-needs.ensures ∙ ap (λ (r : Row). dem g c (i g c) (r.job + 1)) (is g c)) (state-is g c);
    }

pub returns-else-complete-clause-current : goal.returns-else-complete-clause-current
returns-else-complete-clause-current g c =
    let p = c.args.set.now.plan.now in
    let s = c.args.self.now.state in
    let i = c.args.task in
    let row = row_read s _ i c.index.result.now c.state.view_is c.requires.can.task c.index.ensures in
    record {
      of = search rules;
      counters = search rules;
      agenda = search rules;
      demands = written c.args.set.now s i (released_row (period p i) (row_at s i)) c.demand-needs.result
          c.args.self.now.needs.items c.release.new.self c.requires.can c.requires.current.demands
          (c.demand-needs.ensures ∙ ap (λ (r : Row). demands_of p c.args.set.now.demands.now i (r.job + 1)) row) c.release.ensures;
    }
