use Rattle.std.proofs.Common.{◌≡◌, ◌<◌, ◌-◌, ◌∙◌, ap₂, ℕ, arith}
use Rattle.std.specs.Prelude.{slice_index}
use Rattle.std.proofs.lemmas.List.{get_or_read}
use Rattle.sched_model.specs.Plan.{count}
use Rattle.cc_rm.proofs.KeptCounters.{counts-ran}
use Rattle.cc_rm.proofs.cycle.CcRmGovernor.ran.Goals as goal

pub returns : goal.returns
returns c =
    let g = c.args.self.now in
    let below : c.args.task < count c.args._plan.now = omega (arith, c.requires.can.task, c.requires.of.rows) in
    let was : c.index.result.now ≡ slice_index g.rests.items c.args.task =
    get_or_read g.rests.items c.args.task c.index.result.now
    (omega (arith, below, c.requires.counters.one_each)) c.index.ensures 0 in
    let rest : c.saturating_sub-rest.result ≡ slice_index g.rests.items c.args.task - c.args.units =
    c.saturating_sub-rest.ensures ∙ ap₂ (λ (a b : ℕ). a - b) was c.from.ensures in
    rw (c.lower.ensures.speed, c.lower.ensures.rests, c.lower.ensures.left, rest)
    (counts-ran c.args._plan.now c.args._view.now c.requires.of c.args.task
    below g.static_speed g.rests.items g.allotments c.requires.counters
    c.args.units c.requires.can.open_job c.requires.can.room)
