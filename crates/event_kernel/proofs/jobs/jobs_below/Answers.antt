use Rattle.std.proofs.Common.{◌≡◌, ℕ, ◌+◌, ◌-◌, ◌*◌, ◌/◌, ◌%◌, ◌<◌, ◌≤◌, min, arith, ap, ap₂, ◌∙◌, sym}
use Rattle.std.proofs.lemmas.Grind.{div_ceil_times}
use Rattle.grid_fraction.specs.Numbers.{ceil_div}
use Rattle.grid_fraction.proofs.Ceilings.{quotient}
use Rattle.sched_model.specs.Plan.{period, offset}
use Rattle.sched_model.proofs.Limits.{every_period}
use Rattle.event_kernel.proofs.jobs.jobs_below.Goals as goal

-- a quotient rounded up is the floor, and one more if there is a remainder
ceil-is : (n d : ℕ) → 0 < d → n / d + min 1 (n % d) ≡ ceil_div n d
ceil-is n d pos =
    let times = div_ceil_times n d pos in
    sym (quotient (n + (d - 1)) d (n / d + min 1 (n % d)) (low (n / d + min 1 (n % d)) times.1) (high (n / d + min 1 (n % d)) times.0))
  where
    low : (q : ℕ) → q * d < n + d → q * d ≤ n + (d - 1)
    low q h = omega arith

    high : (q : ℕ) → n ≤ q * d → n + (d - 1) < (q + 1) * d
    high q h = omega (arith, h, pos)

pub returns-clause-jobs : goal.returns-clause-jobs
returns-clause-jobs c =
    let p = c.args.plan.now in
    let i = c.args.task in
    let n = c.args.ticks - offset p i in
    let span_is : c.saturating_sub-span.result ≡ n = c.saturating_sub-span.ensures ∙ ap (λ o. c.args.ticks - o) c.offset.ensures.offset in
    c.div_ceil.ensures ∙ (ap₂ (λ m d. m / d + min 1 (m % d)) span_is c.period.ensures.period
    ∙ ceil-is n (period p i) (every_period p c.scheduler-admitted.ensures.admitted.limits i))
