use Rattle.std.proofs.Common.{◌≤◌, ◌-◌}
use Rattle.event_kernel.specs.SpanNotes.{HasBooked, HeardAll}
use Rattle.event_kernel.specs.Current.{IsCurrent}
use Rattle.event_kernel.specs.Runs.{demands_of}
use Rattle.event_kernel.specs.Settings.{IsBetween}
use Rattle.event_kernel.specs.Tickwork.{notes_before}
use Rattle.event_kernel.proofs.kernel.Kernel.spans.Given as goal

abbrev pub invariant-loop-set : goal.invariant-loop-set
invariant-loop-set g l =
    let before = notes_before g.G.Governor.demand l.set.plan.now (demands_of l.set.plan.now l.set.demands.now) l.progress.state.now in
    record {
      between : IsBetween l.set g.G.Governor.demand l.progress.state;
      current : IsCurrent g.G.Governor.stands l.set l.progress;
      limit : l.progress.state.now ≤ l.set.ticks;
      told : HeardAll g.L.Listener.heard g.L.Listener.stops l.fn.to l.to before;
      booked : HasBooked l.set.plan.now l.account before;
    }

abbrev pub decreases-loop-set : goal.decreases-loop-set
decreases-loop-set g l = l.set.ticks - l.progress.state.now
