use Rattle.std.proofs.Common.{ℕ, ◌≤◌, length, slice_index, ◌∙◌, arith}
use Rattle.edf_demand.proofs.Calendars.{more-below, more-due, all-in}
use Rattle.edf_demand.proofs.walk.first_deadlines.Goals as goal

pub loop-task-preserved : goal.loop-task-preserved
loop-task-preserved c =
    let l = c.loop-task in
    record {
      one_each = c.insert.ensures.limit ∙ l.invariant.one_each;
      below = more-below l.task (slice_index c.args.deadlines.now l.task) c.task.result.period
          (slice_index c.args.deadlines.now) l.next.entries c.insert.new.self.entries l.invariant.below
          c.insert.ensures.entries;
      due = more-due l.task (slice_index c.args.deadlines.now l.task) c.task.result.period
          (slice_index c.args.deadlines.now) l.next.entries c.insert.new.self.entries l.invariant.below
          c.insert.ensures.entries (λ i. slice_index c.args.deadlines.now l.task) l.invariant.due;
    }

pub returns : goal.returns
returns c =
    let l = c.loop-task in
    let n : ℕ = length c.args.tasks.now in
    let counted = c.count-task-end.ensures in
    let from : n ≤ l.task = omega (arith, c.loop-task-test.false, counted.count) in
    let to : l.task ≤ n = omega (arith, l.auto.task-end, counted.count) in
    record {
      queue = record {
        one_each = l.invariant.one_each;
        calendar = all-in l.task n (slice_index c.args.deadlines.now) l.next (omega (arith, counted.some, counted.count))
            from to l.invariant.one_each l.invariant.below l.invariant.due c.requires.some;
      };
      deadlines = λ i lt. l.invariant.due i (omega (arith, lt, from));
    }
