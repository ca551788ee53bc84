use Rattle.std.proofs.Common.{◌≡◌, ap, ◌∙◌, arith}
use Rattle.freq_table.specs.declared.machine.Pick.{Pick}
use Rattle.freq_table.specs.Tables.{Table, lowest_entry, lowest_pick}
use Rattle.static_gov.proofs.StaticSpeed.{lowest-enough}
use Rattle.rtdvs_c.proofs.admit.admitted_numbers.Goals as goal

-- the entry that a demand picks is in the table
pub point-point-requires : goal.point-point-requires
point-point-requires c =
    let m = c.args.plan.now.machine in
    let d = c.static_demand-demand.result in
    let pick : c.lowest-pick.result ≡ lowest_pick m d = c.lowest-pick.ensures ∙ ap (λ (x : Table). lowest_pick x d) c.machine.ensures.machine in
    let entry : c.lowest-pick.result.index ≡ lowest_entry m d = ap (λ (p : Pick). p.index) pick in
    rw c.machine-2.ensures.machine (omega (arith, entry, c.machine.ensures.admitted.limits.machine.some))

pub returns-clause-lowest : goal.returns-clause-lowest
returns-clause-lowest c = lowest-enough c.args.plan.now c.machine.ensures.admitted
