use Rattle.std.proofs.Common.{◌≡◌, ℕ, suc, List, [], ◌∷◌, ◌++◌, length, ap, ◌∙◌, append-nil, arith}
use Rattle.dvs_base.specs.Parts.{joined}
use Rattle.dvs_base.proofs.JoinedTexts.{joined-append}
use Rattle.grid_fraction.specs.Numbers.{list_below}
use Rattle.rtdvs_top.specs.Response.{response_text}
use Rattle.statuses.proofs.NumberedPuts.{next-put, part-put}
use Rattle.dvs_base.proofs.TextPuts.{writes-part}
use Rattle.rtdvs_top.proofs.response.put_responses.Goals as goal

-- the lines of the first n numbers, and of number n after them
joined-below : (f : ℕ → List ℕ) (n : ℕ) → joined (list_below (suc n) f) ≡ joined (list_below n f) ++ f n
joined-below f n = joined-append (list_below n f) (f n ∷ []) ∙ ap (λ (t : List ℕ). joined (list_below n f) ++ t) (append-nil (f n))

pub loop-i-preserved : goal.loop-i-preserved
loop-i-preserved g c =
    let f = response_text c.args.tasks.now c.args.response.now in
    next-put f (λ n. joined (list_below n f)) (length c.args.tasks.now) (λ n lt. joined-below f n) _ _ _ c.loop-i.i _
    (omega (arith, c.loop-i-test.true, c.count-i-end.ensures.count)) c.response_line-line.ensures.text c.loop-i.invariant c.in_ok-put_line.ensures

pub returns-in_err-put_line : goal.returns-in_err-put_line
returns-in_err-put_line g c =
    let f = response_text c.args.tasks.now c.args.response.now in
    writes-part _ _ _ c.from_residual.result c.from_residual.ensures.0
    (part-put f (λ n. joined (list_below n f)) (length c.args.tasks.now) (λ n lt. joined-below f n) _ _ _ c.loop-i.i _
    (omega (arith, c.loop-i-test.true, c.count-i-end.ensures.count)) c.response_line-line.ensures.text c.loop-i.invariant c.in_err-put_line.ensures)
