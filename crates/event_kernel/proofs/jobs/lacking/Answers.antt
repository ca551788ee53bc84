use Rattle.std.proofs.Common.{◌≡◌, ℕ, ◌<◌, List, length, get_or, arith, ap, ap₂, ◌-◌, ◌∙◌, slice_index_or}
use Rattle.sched_model.specs.declared.state.Row.{Row}
use Rattle.sched_model.specs.Plan.{count}
use Rattle.sched_model.specs.States.{StateView, row_at}
use Rattle.sched_model.proofs.States.{row_read}
use Rattle.event_kernel.specs.declared.progress.Setting.{Setting}
use Rattle.event_kernel.specs.Current.{latest_demands}
use Rattle.event_kernel.specs.Runs.{demands_of}
use Rattle.event_kernel.proofs.LatestDemands.{demands-long, demand-at}
use Rattle.event_kernel.proofs.jobs.lacking.Goals as goal

-- what is read is the demand of the task's latest job and the units that the job has had
reads : (set : Setting) (s v : StateView) (i : ℕ) (needs : List ℕ) (read : Row) → i < count set.plan.now → length s.rows ≡ count set.plan.now
    → needs ≡ latest_demands set s → v ≡ s → read ≡ get_or v.rows i read
    → (slice_index_or needs i 0 ≡ demands_of set.plan.now set.demands.now i (row_at s i).job) × (read.used ≡ (row_at s i).used)
reads set s v i needs read lt rows kept is found = (
  ap (λ (xs : List ℕ). slice_index_or xs i 0) kept ∙ demand-at set s i lt 0,
  ap (λ (r : Row). r.used) (row_read s v i read is (omega (arith, lt, rows)) found),
)

pub bounds-needs-task : goal.bounds-needs-task
bounds-needs-task c =
    omega (arith, c.requires.task, ap (λ (xs : List ℕ). length xs) c.requires.needs, demands-long c.args._set.now c.args.state.now)

pub overflow_sub-result : goal.overflow_sub-result
overflow_sub-result c =
    let r = reads c.args._set.now c.args.state.now _ c.args.task c.args.needs.now c.index.result.now c.requires.task c.requires.rows
    c.requires.needs c.state.view_is c.index.ensures in
    omega (arith, c.requires.within, r.0, r.1)

pub returns : goal.returns
returns c =
    let r = reads c.args._set.now c.args.state.now _ c.args.task c.args.needs.now c.index.result.now c.requires.task c.requires.rows
    c.requires.needs c.state.view_is c.index.ensures in
    ap₂ (λ a b. a - b) r.0 r.1
