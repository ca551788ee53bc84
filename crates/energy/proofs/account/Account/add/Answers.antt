use Rattle.std.proofs.Common.{arith}
use Rattle.std.proofs.lemmas.Grind.{common_steps}
use Rattle.energy.proofs.Books.{sums-after}
use Rattle.energy.proofs.account.Account.add.Goals as goal

pub returns-in-Release-clause-sums : goal.returns-in-Release-clause-sums
returns-in-Release-clause-sums c = sums-after c.args.self.now _ c.args.note.now c.args.point c.requires.task c.requires.point (grind (arith, common_steps))

pub returns-in-Speed-clause-sums : goal.returns-in-Speed-clause-sums
returns-in-Speed-clause-sums c = sums-after c.args.self.now _ c.args.note.now c.args.point c.requires.task c.requires.point (grind (arith, common_steps))

pub returns-in-Run-clause-sums : goal.returns-in-Run-clause-sums
returns-in-Run-clause-sums c = sums-after c.args.self.now _ c.args.note.now c.args.point c.requires.task c.requires.point (grind (arith, common_steps))

pub returns-in-Idle-clause-sums : goal.returns-in-Idle-clause-sums
returns-in-Idle-clause-sums c = sums-after c.args.self.now _ c.args.note.now c.args.point c.requires.task c.requires.point (grind (arith, common_steps))

pub returns-in-Done-clause-sums : goal.returns-in-Done-clause-sums
returns-in-Done-clause-sums c = sums-after c.args.self.now _ c.args.note.now c.args.point c.requires.task c.requires.point (grind (arith, common_steps))
