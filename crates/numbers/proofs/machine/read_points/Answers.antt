use Rattle.std.proofs.Common.{rules, ◌≡◌, arith, [], ◌∷◌, ◌++◌, true}
use Rattle.std.proofs.lemmas.Grind.{common_steps}
use Rattle.freq_table.specs.MachineFile.{may_follow, last_of}
use Rattle.freq_table.proofs.Points.{ArePoints-push}
use Rattle.numbers.proofs.machine.read_points.Goals as goal

pub loop-one-preserved : goal.loop-one-preserved
loop-one-preserved c =
    let pushed : c.push.new.self.items ≡ c.loop-one.points.items ++ c.in_ok-point.point ∷ [] = grind (arith, common_steps) in
    let after : may_follow (last_of c.loop-one.points.items) c.in_ok-point.point ≡ true = grind (arith, common_steps) in
    record {
      count = search rules;
      limits = rw pushed (ArePoints-push c.loop-one.points.items c.in_ok-point.point c.loop-one.invariant.limits c.in_ok-point.ensures.limits after);
      rest = grind (arith, common_steps);
    }
