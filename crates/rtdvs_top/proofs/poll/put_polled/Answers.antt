use Rattle.std.proofs.Common.{List, ℕ, ◌∙◌, ap₂, subst}
use Rattle.dvs_base.specs.WritesText.{WritesText}
use Rattle.dvs_base.proofs.TextPuts.{wrote-some-more, writes-then, writes-part}
use Rattle.rtdvs_top.specs.Poll.{polled_line}
use Rattle.rtdvs_top.proofs.poll.put_polled.Goals as goal

pub returns-in_err-count : goal.returns-in_err-count
returns-in_err-count g c =
    writes-part _ _ _ c.from_residual.result c.from_residual.ensures.0 (wrote-some-more _ _ _ _ c.in_err-count.ensures.wrote)

pub returns : goal.returns
returns g c =
    let text = c.last_line.ensures.text ∙ ap₂ polled_line c.in_ok-count.ensures.served c.totals.ensures in
    writes-then _ _ _ _ _ c.put_line.result c.in_ok-count.ensures.wrote
    (subst (λ (t : List ℕ). WritesText (g.W.Sink.shows c.put_requests.new.out) (g.W.Sink.shows c.put_line.new.out) t c.put_line.result) text
    c.put_line.ensures)
