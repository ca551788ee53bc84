use Rattle.std.proofs.Common.{◌≡◌, ◌<◌, ◌≤◌, length, true, rules, arith}
use Rattle.grid_fraction.specs.Fraction.{meets}
use Rattle.freq_table.specs.Tables.{speed_at}
use Rattle.freq_table.proofs.Chosen.{lowest_pick-met, lowest_pick-none}
use Rattle.freq_table.proofs.machine.Machine.lowest.Goals as goal

pub returns-then-meets : goal.returns-then-meets
returns-then-meets c =
    let inside : c.loop-i.i < length c.args.self.now.points = search rules in
    let here : meets (speed_at c.args.self.now c.loop-i.i) c.args.d ≡ true = search rules in
    lowest_pick-met c.args.self.now c.args.d c.loop-i.i inside c.loop-i.invariant here

pub returns : goal.returns
returns c =
    let some : 1 ≤ length c.args.self.now.points = search rules in
    let last : c.len.result ≡ length c.args.self.now.points = search rules in
    rw last (lowest_pick-none c.args.self.now c.args.d some (λ k lt. c.loop-i.invariant k (let inside : k < c.loop-i.i = omega arith in inside)))
