use Rattle.std.proofs.Common.{arith, ap}
use Rattle.freq_table.specs.Tables.{Table}
use Rattle.demand_list.proofs.Rows.{worst-listed, worsts-long}
use Rattle.event_kernel.proofs.jobs.demand.Goals as goal

pub overflow_add-result : goal.overflow_add-result
overflow_add-result c =
    let p = c.args.plan.now in
    let d = c.args.demands.now in
    omega (
      arith,
      c.units.ensures.units,
      c.job_charge.ensures.charge,
      ap (λ (m : Table). m.charge) c.machine.ensures.machine,
      c.worsts-within.ensures.within c.args.task c.args.job (omega (arith, worsts-long p.tasks d c.requires.list, c.requires.task)),
      worst-listed p.tasks d c.requires.list c.args.task c.requires.task,
      (c.machine.ensures.admitted.limits.tasks.each c.args.task c.requires.task).low_worst,
      c.machine.ensures.admitted.limits.machine.low_charge,
    )
