use Rattle.std.proofs.Common.{◌≡◌, ℕ, ◌*◌, ◌/◌, get_or, ◌∙◌, ap, ap₂, arith}
use Rattle.std.proofs.lemmas.List.{get_or_read}
use Rattle.sched_model.specs.Plan.{period, hyper}
use Rattle.cc_edf_laws.proofs.CycleLaws.{rate_place, rate_most, sum_fits}
use Rattle.cc_edf.proofs.cycle.CcEdf.charge.Goals as goal

pub overflow_sub-self : goal.overflow_sub-self
overflow_sub-self c =
    let rates = c.args.self.now.rates.items in
    let i = c.args.task in
    let within = rate_place c.args.plan.now c.args.view.now c.requires.of rates c.args.self.now.sum c.requires.counters i c.requires.task in
    let was : c.index-old.result.now ≡ get_or rates i 0 = get_or_read rates i c.index-old.result.now within c.index-old.ensures 0 in
    omega (arith, was, rate_most c.args.plan.now c.args.view.now c.requires.of rates c.args.self.now.sum c.requires.counters i c.requires.task)

pub overflow_add-self : goal.overflow_add-self
overflow_add-self c =
    let rates = c.args.self.now.rates.items in
    let i = c.args.task in
    let plan = c.args.plan.now in
    let within = rate_place plan c.args.view.now c.requires.of rates c.args.self.now.sum c.requires.counters i c.requires.task in
    let was : c.index-old.result.now ≡ get_or rates i 0 = get_or_read rates i c.index-old.result.now within c.index-old.ensures 0 in
    let fits =
    sum_fits plan c.args.view.now c.requires.of rates c.args.self.now.sum c.requires.counters i c.requires.task c.scheduler-admitted.ensures.admitted
    c.args.units c.requires.within in
    let units : c.from.result ≡ c.args.units = c.from.ensures in
    let jobs : c.from-2.result ≡ hyper plan / period plan i =
    c.from-2.ensures ∙ ap₂ (λ (a b : ℕ). a / b) c.hyper.ensures.hyper c.period.ensures.period in
    let same : c.from.result * c.from-2.result ≡ c.args.units * (hyper plan / period plan i) =
    ap (λ (x : ℕ). x * c.from-2.result) units ∙ ap (λ (x : ℕ). c.args.units * x) jobs in
    omega (arith, was, fits, same)
