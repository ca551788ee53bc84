use Rattle.kernel_tests.proofs.FirstReleases.{HasFirstReleased}
use Rattle.kernel_tests.proofs.choices.release_all.Given as goal

abbrev pub invariant-loop-task : goal.invariant-loop-task
invariant-loop-task g l = record {
  released : HasFirstReleased l.fn.plan l.task l.any l.state;
  counters : g.G.Governor.stands l.governor l.fn.plan l.state;
}
