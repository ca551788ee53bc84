use Rattle.std.proofs.Common.{◌≡◌, ℕ, ◌+◌, ◌-◌, ◌*◌, ap, ap₂, ◌∙◌, sym, arith}
use Rattle.sched_model.specs.Plan.{period, offset}
use Rattle.sched_model.specs.Jobs.{release}
use Rattle.poll_server.specs.ServerJobs.{ServerView}
use Rattle.poll_server.proofs.server.Server.release_after.Goals as goal

pub returns : goal.returns
unfolding release
returns c =
    let s = c.args.self.now in
    let back : c.args.jobs + 1 - 1 ≡ c.args.jobs = omega arith in
    let first : c.offset.result ≡ offset s.plan s.task = c.offset.ensures.offset ∙ ap (λ (v : ServerView). offset v.plan v.task) c.self.view_is in
    let each : c.period.result ≡ period s.plan s.task = c.period.ensures.period ∙ ap (λ (v : ServerView). period v.plan v.task) c.self.view_is in
    ap₂ (λ (o q : ℕ). o + c.args.jobs * q) first each ∙ ap (λ (n : ℕ). offset s.plan s.task + n * period s.plan s.task) (sym back)
