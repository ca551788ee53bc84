use Rattle.event_kernel.specs.Current.{IsCurrent}
use Rattle.event_kernel.specs.Runs.{demands_of}
use Rattle.event_kernel.proofs.UnitLoop.{HoldsHanded}
use Rattle.event_kernel.proofs.progress.Progress.work.Given as goal

abbrev pub invariant-loop-rest : goal.invariant-loop-rest
invariant-loop-rest g l =
    let m = g.G.Governor in
    let p = l.fn.set.plan.now in
    let run = l.self in
    record {
      so_far : HoldsHanded m.demand p (demands_of p l.fn.set.demands.now) l.fn.self.state.now l.rest l.completed run.state run.trace;
      current : IsCurrent m.stands l.fn.set run;
    }

abbrev pub decreases-loop-rest : goal.decreases-loop-rest
decreases-loop-rest g l = l.rest
