use Rattle.statuses.proofs.difference.put_differs.Goals as goal

pub returns : goal.returns
returns g c = rw c.line_of-line.ensures at c.put_line.ensures
