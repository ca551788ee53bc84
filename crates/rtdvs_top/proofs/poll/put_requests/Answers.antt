use Rattle.std.proofs.Common.{◌≡◌, ◌∙◌, ap, arith, refl, rules}
use Rattle.poll_server.specs.ServerJobs.{request_count}
use Rattle.poll_server.specs.Outcomes.{outcome_at}
use Rattle.rtdvs_top.specs.Poll.{outcome_text, request_lines}
use Rattle.statuses.proofs.NumberedPuts.{next-put, part-put}
use Rattle.dvs_base.proofs.TextPuts.{writes-part}
use Rattle.rtdvs_top.proofs.poll.put_requests.Goals as goal

pub loop-m-preserved : goal.loop-m-preserved
loop-m-preserved g c =
    let s = c.args.polling.now in
    let outcomes = c.args.served.now.outcomes in
    let n : c.count-m-end.result ≡ request_count s = c.count-m-end.ensures.count ∙ ap request_count c.polling.view_is in
    let text = c.outcome_line-line.ensures.text ∙ ap (outcome_text s c.loop-m.m) c.outcome-outcome.ensures in
    record {
      wrote = next-put (λ m. outcome_text s m (outcome_at outcomes m)) (request_lines s outcomes) (request_count s) (λ m lt. refl) _ _ _
          c.loop-m.m _ (omega (arith, c.loop-m-test.true, n)) text c.loop-m.invariant.wrote c.in_ok-put_line.ensures;
      counted = search rules;
      few = search rules;
    }

pub returns-in_err-put_line-clause-wrote : goal.returns-in_err-put_line-clause-wrote
returns-in_err-put_line-clause-wrote g c =
    let s = c.args.polling.now in
    let outcomes = c.args.served.now.outcomes in
    let n : c.count-m-end.result ≡ request_count s = c.count-m-end.ensures.count ∙ ap request_count c.polling.view_is in
    let text = c.outcome_line-line.ensures.text ∙ ap (outcome_text s c.loop-m.m) c.outcome-outcome.ensures in
    writes-part _ _ _ c.from_residual.result c.from_residual.ensures.0
    (part-put (λ m. outcome_text s m (outcome_at outcomes m)) (request_lines s outcomes) (request_count s) (λ m lt. refl) _ _ _ c.loop-m.m _
    (omega (arith, c.loop-m-test.true, n)) text c.loop-m.invariant.wrote c.in_err-put_line.ensures)
