use Rattle.std.proofs.Common.{◌≡◌, ◌+◌, ◌-◌, Bool, true, false, if◌then◌else◌, sym, subst, ◌∙◌, ap, arith}
use Rattle.std.specs.Prelude.{map, slice_set}
use Rattle.std.proofs.Math.Seq.{map-set_same}
use Rattle.sched_model.specs.declared.state.Row.{Row}
use Rattle.sched_model.specs.Plan.{period}
use Rattle.sched_model.specs.States.{no_row, row_at, row_wleft}
use Rattle.sched_model.proofs.States.{row_read, left-set}
use Rattle.agenda.specs.Agenda.{StandFor, next_job_row, with_next_job}
use Rattle.agenda.proofs.StateQueues.{first-is-due, after-open, after-closed, opened-entry}
use Rattle.agenda.proofs.agenda.Agenda.renew.Goals as goal

pub replace_first-requires : goal.replace_first-requires
replace_first-requires c =
    let f = c.first-first.ensures in
    first-is-due c.args.plan.now c.args.state.now c.args.task c.args.self.now.calendar.entries c.first-first.result
    c.requires.stand.queues.releases c.requires.past c.requires.due f.value f.first

pub returns-then-not-done : goal.returns-then-not-done
returns-then-not-done c =
    let p = c.args.plan.now in
    let s = c.args.state.now in
    let a = c.args.self.now in
    let i = c.args.task in
    let can = c.requires.can in
    let h = c.requires.stand in
    let t = c.replace_first.ensures in
    let first = first-is-due p s i a.calendar.entries c.first-first.result h.queues.releases c.requires.past c.requires.due
    c.first-first.ensures.value c.first-first.ensures.first in
    let read = c.index-row.result.now in
    let row : read ≡ row_at s i = row_read s _ i read c.state.view_is can.task c.index-row.ensures in
    record {
      queues = subst (λ (b : Bool). StandFor p (with_next_job p s i b) c.insert.new.self c.replace_first.new.self) (sym c.if-not-done.true)
          (after-open p s a.ready a.calendar h.queues i c.requires.due can.task can.done first t.out
          (record { task = i; due = read.deadline + c.period-period.result; period = c.period-period.result })
          c.replace_first.new.self t.limit t.entries c.insert.new.self
          (opened-entry p s i false c.period-period.result read.deadline can.task c.period-period.ensures.period
          (ap (λ (r : Row). r.deadline) row))
          c.insert.ensures);
      left = subst (λ (b : Bool). slice_set a.left.items i read.worst ≡ map row_wleft (with_next_job p s i b).rows) (sym c.if-not-done.true)
          (left-set s a.left.items h.left i (next_job_row (period p i) false (row_at s i)) read.worst
          (omega (arith, ap (λ (r : Row). r.worst) row)));
    }

pub returns-else-not-done : goal.returns-else-not-done
returns-else-not-done c =
    let p = c.args.plan.now in
    let s = c.args.state.now in
    let a = c.args.self.now in
    let i = c.args.task in
    let can = c.requires.can in
    let h = c.requires.stand in
    let t = c.replace_first.ensures in
    let first = first-is-due p s i a.calendar.entries c.first-first.result h.queues.releases c.requires.past c.requires.due
    c.first-first.ensures.value c.first-first.ensures.first in
    let read = c.index-row.result.now in
    let row : read ≡ row_at s i = row_read s _ i read c.state.view_is can.task c.index-row.ensures in
    let none = ap (λ (b : Bool). if b then 0 else (row_at s i).worst - (row_at s i).used) can.done in
    record {
      queues = subst (λ (b : Bool). StandFor p (with_next_job p s i b) a.ready c.replace_first.new.self) (sym c.if-not-done.false)
          (after-closed p s a.ready a.calendar h.queues i c.requires.due can.task can.done first t.out
          (record { task = i; due = read.deadline + c.period-period.result; period = c.period-period.result })
          c.replace_first.new.self t.limit t.entries
          (opened-entry p s i true c.period-period.result read.deadline can.task c.period-period.ensures.period
          (ap (λ (r : Row). r.deadline) row)));
      left = subst (λ (b : Bool). a.left.items ≡ map row_wleft (with_next_job p s i b).rows) (sym c.if-not-done.false)
          (h.left ∙ sym (map-set_same row_wleft s.rows i (next_job_row (period p i) true (row_at s i)) no_row (sym none)));
    }
