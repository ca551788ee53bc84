use Rattle.std.proofs.Common.{ap}
use Rattle.event_kernel.specs.Runs.{Run}
use Rattle.event_kernel.proofs.DrivenRuns.{drives-ended, drives-early}
use Rattle.event_kernel.proofs.kernel.Kernel.drive_by.Goals as goal

pub returns : goal.returns
returns g c =
    let m = g.L.Listener in
    let account = c.in_ok-account.ensures in
    let end = c.finish.ensures in
    drives-ended m.heard m.balked m.stops g.G.Governor.the_kind g.G.Governor.demand c.args.self _ _ _ c.finish.result
    (ap (λ (r : Run). r.ticks) c.self.view_is) account.account_totals account.few account.met account.told
    end.totals end.heard end.balked end.later end.rose

pub returns-in_err-account : goal.returns-in_err-account
returns-in_err-account g c =
    let m = g.L.Listener in
    let account = c.in_err-account.ensures in
    drives-early m.heard m.balked m.stops g.G.Governor.the_kind g.G.Governor.demand c.args.self _ _ c.from_residual.result
    c.from_residual.ensures.0 account.met account.told
