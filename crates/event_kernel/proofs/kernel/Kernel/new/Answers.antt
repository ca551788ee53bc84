use Rattle.std.proofs.Common.{rules}
use Rattle.sched_model.specs.States.{opening}
use Rattle.event_kernel.specs.Runs.{run_for}
use Rattle.event_kernel.proofs.ListedDemands.{demand-within}
use Rattle.event_kernel.proofs.MetRuns.{run-met}
use Rattle.event_kernel.proofs.kernel.Kernel.new.Goals as goal

pub invariant_of-set : goal.invariant_of-set
invariant_of-set g c = record {
  sound = record {
    limits = c.scheduler-admitted.ensures.admitted.limits;
    list = c.requires.list;
    within = demand-within c.args.plan.now c.args.demands.now c.requires.list c.worsts-within.ensures.within;
    low_ticks = c.requires.low_ticks;
  };
}

pub invariant_of-result : goal.invariant_of-result
invariant_of-result g c =
    let m = g.G.Governor in
    let p = c.args.plan.now in
    let d = c.args.demands.now in
    let admitted = c.scheduler-admitted.ensures.admitted in
    let worsts = c.worsts-within.ensures.within in record {
      state = search rules;
      current = search rules;
      booked = search rules;
      met = λ t. run-met m.the_kind m.serves m.demand m.calm m.safe g.met.G.Governor.laws
          (run_for p d t) admitted c.requires.list worsts
          (g.met.G.Governor.serves_plan c.args.governor p (opening p) c.requires.stands);
    }
