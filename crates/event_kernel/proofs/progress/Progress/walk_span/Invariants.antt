use Rattle.std.proofs.Common.{◌≡◌, ◌-◌}
use Rattle.event_kernel.specs.Current.{IsCurrent}
use Rattle.event_kernel.specs.Settings.{IsInSpan, next_event}
use Rattle.event_kernel.proofs.progress.Progress.walk_span.Given as goal

abbrev pub invariant-loop-force : goal.invariant-loop-force
invariant-loop-force g l =
    record {
      in_span : IsInSpan l.fn.set g.G.Governor.demand l.fn.force l.self.state.now l.self.state l.self.trace;
      event : l.event ≡ next_event l.fn.set l.self.state;
      current : IsCurrent g.G.Governor.stands l.fn.set l.self;
    }

abbrev pub decreases-loop-force : goal.decreases-loop-force
decreases-loop-force g l = l.fn.set.ticks - l.self.state.now
