use Rattle.std.proofs.Common.{◌≡◌, ◌++◌, ℕ, ap, sym}
use Rattle.dvs_base.proofs.TextPuts.{wrote-some-more, wrote-then-some, writes-then, writes-part}
use Rattle.rtdvs_top.specs.Generated.{head_text, edf_text, workload_totals, workload_text}
use Rattle.rtdvs_top.specs.declared.prepared.EdfTotals.{EdfTotals}
use Rattle.rtdvs_top.proofs.generated.put_workload.Goals as goal

-- the text of a workload is its first line and the lines of its totals
all-lines : (seed n ticks : ℕ) (t : EdfTotals) → t ≡ workload_totals seed n ticks
    → workload_text seed n ticks ≡ head_text seed n ticks ++ edf_text t
unfolding workload_text
all-lines seed n ticks t is = ap (λ (x : EdfTotals). head_text seed n ticks ++ edf_text x) (sym is)

pub returns-in_err-put_line : goal.returns-in_err-put_line
returns-in_err-put_line g c =
    rw (all-lines _ _ _ _ c.requires) (writes-part _ _ _ c.from_residual.result c.from_residual.ensures.0
    (wrote-some-more _ _ _ _ (rw c.head_line.ensures.text at c.in_err-put_line.ensures)))

pub returns-in_err-put_two : goal.returns-in_err-put_two
returns-in_err-put_two g c =
    rw (all-lines _ _ _ _ c.requires) (writes-part _ _ _ c.from_residual-in_err-put_two.result c.from_residual-in_err-put_two.ensures.0
    (wrote-then-some _ _ _ _ _ (rw c.head_line.ensures.text at c.in_ok-put_line.ensures) (wrote-some-more _ _ _ _
    (rw (c.totals_line-full.ensures.text, c.totals_line-fixed.ensures.text) at c.in_err-put_two.ensures))))

pub returns : goal.returns
returns g c =
    rw (all-lines _ _ _ _ c.requires) (writes-then _ _ _ _ _ c.put_two-2.result (rw c.head_line.ensures.text at c.in_ok-put_line.ensures)
    (writes-then _ _ _ _ _ c.put_two-2.result
    (rw (c.totals_line-full.ensures.text, c.totals_line-fixed.ensures.text) at c.in_ok-put_two.ensures)
    (rw (c.totals_line-cycle.ensures.text, c.totals_line-ahead.ensures.text) at c.put_two-2.ensures)))
