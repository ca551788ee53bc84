use Rattle.dvs_base.proofs.TextPuts.{wrote-some-more, writes-then, writes-part}
use Rattle.statuses.proofs.difference.put_difference.Goals as goal

pub returns-in_err-put_differs : goal.returns-in_err-put_differs
returns-in_err-put_differs g c =
    writes-part _ _ _ c.from_residual.result c.from_residual.ensures.0 (wrote-some-more _ _ _ _ c.in_err-put_differs.ensures)

pub returns : goal.returns
returns g c =
    rw (c.prefixed_note-wanted.ensures, c.prefixed_note-found.ensures)
    at (writes-then _ _ _ _ _ c.put_two.result c.in_ok-put_differs.ensures c.put_two.ensures)
