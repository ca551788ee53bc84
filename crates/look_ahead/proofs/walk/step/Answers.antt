use Rattle.std.proofs.Common.{ℕ, sym, ap, ◌∙◌, arith}
use Rattle.look_ahead.specs.Walk.{next_spare}
use Rattle.look_ahead.proofs.WalkLoop.{none_spare}
use Rattle.look_ahead.proofs.walk.step.Goals as goal

pub returns-then-job-eq0-2-clause-spare : goal.returns-then-job-eq0-2-clause-spare
returns-then-job-eq0-2-clause-spare c =
    let hyper = c.args.hyper in
    let job = c.args.job in
    let spare = c.args.totals.spare in
    let none = none_spare hyper job.rate job.slack spare (omega (arith, c.if-job-eq0.false)) in
    sym (ap (λ (n : ℕ). next_spare hyper job.rate n job.slack spare) c.if-job-eq0-2.true ∙ none)
