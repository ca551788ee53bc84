use Rattle.std.proofs.Common.{◌≡◌, ℕ, ◌+◌, ◌-◌, min, ap, ◌∙◌}
use Rattle.poll_server.specs.ServerJobs.{arrived_units, taken_units}
use Rattle.poll_server.proofs.Steps.{takes-is, stands-next}
use Rattle.poll_server.proofs.taking.Waiting.take.Goals as goal

pub returns-clause-stands : goal.returns-clause-stands
returns-clause-stands c =
    let s = c.args.server.now in
    let all = c.arrive.ensures.arrived ∙ ap (arrived_units s) c.release_after.ensures in
    let had = c.arrive.ensures.taken ∙ c.requires.stands.counted in
    let waits : c.min-units.result ≡ min (c.arrive.new.self.arrived - c.arrive.new.self.taken) c.from.result =
    c.min-units.ensures ∙ ap (λ (w : ℕ). min w c.from.result) c.saturating_sub-waiting.ensures in
    let takes : c.from-2.result ≡ taken_units s (c.args.jobs + 1) =
    takes-is s c.args.jobs c.arrive.new.self.arrived c.arrive.new.self.taken c.from.result c.from-2.result all had
    (c.from.ensures ∙ c.budget.ensures.budget) (c.from-2.ensures ∙ waits) in
    stands-next s c.args.jobs c.release_after.result c.from-2.result c.arrive.new.self c.arrive.ensures.passed c.release_after.ensures
    had takes
