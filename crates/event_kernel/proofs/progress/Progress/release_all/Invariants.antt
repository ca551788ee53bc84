use Rattle.std.proofs.Common.{◌≡◌, ◌≤◌, ℕ}
use Rattle.sched_model.specs.Plan.{count}
use Rattle.governor.specs.Schedule.{course}
use Rattle.agenda.specs.Agenda.{due_left}
use Rattle.event_kernel.specs.Current.{IsCurrent}
use Rattle.event_kernel.specs.Segment.{with_notes}
use Rattle.event_kernel.specs.Runs.{demands_of}
use Rattle.event_kernel.proofs.BoundaryReleases.{HasReleased, notes_upto}
use Rattle.event_kernel.proofs.progress.Progress.release_all.Given as goal

-- the rows of the first `released` tasks are released
abbrev pub invariant-loop-task : goal.invariant-loop-task
invariant-loop-task g l =
    let set = l.fn.set in
    let p = set.plan.now in
    let dem = demands_of p set.demands.now in
    let past = course g.G.Governor.demand p dem l.fn.self.state.now in
    record {
      released : ℕ;
      within : released ≤ count p;
      so_far : HasReleased p dem past released l.any l.self.state;
      current : IsCurrent g.G.Governor.stands set l.self;
      trace : l.self.trace ≡ with_notes l.fn.self.trace (notes_upto p dem past released);
    }

abbrev pub decreases-loop-task : goal.decreases-loop-task
decreases-loop-task g l = due_left l.fn.set.plan.now l.self.state
