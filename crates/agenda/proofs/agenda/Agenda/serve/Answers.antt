use Rattle.sched_model.proofs.States.{left-run}
use Rattle.agenda.proofs.StateQueues.{stand-run}
use Rattle.agenda.proofs.agenda.Agenda.serve.Goals as goal

pub returns : goal.returns
returns c =
    let s = c.args._state.now in
    let a = c.args.self.now in
    let h = c.requires.stand in
    let can = c.requires.can in
    record {
      queues = stand-run c.args._plan.now s a.ready a.calendar h.queues c.args.task c.args.units can.task;
      left = left-run s a.left.items h.left c.args.task c.args.units c.index_mut.result.now can c.index_mut.ensures.value;
    }
