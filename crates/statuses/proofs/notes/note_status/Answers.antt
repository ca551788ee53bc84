use Rattle.statuses.proofs.Texts.{noted}
use Rattle.statuses.proofs.notes.note_status.Goals as goal

pub returns-in-Differs : goal.returns-in-Differs
returns-in-Differs g c = rw c.in-Differs.is (noted _ _ _ c.put_difference.result c.put_difference.ensures)
