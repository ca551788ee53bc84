use Rattle.std.proofs.Common.{rules, ◌≡◌, ◌≤◌, ◌+◌, [], ◌∷◌, ◌++◌, length, ap, ◌∙◌, length-append, arith}
use Rattle.csv_text.specs.Rows.{records_left}
use Rattle.request_list.specs.declared.limits.TheConstants.{MOST_REQUESTS}
use Rattle.request_list.proofs.Texts.{AreRequestsTo, one-more}
use Rattle.request_list.proofs.read.read_rows.Goals as goal

pub loop-requests-preserved : goal.loop-requests-preserved
loop-requests-preserved c =
    let so_far = c.loop-requests.requests.items in
    let r = c.in-Ok.request in
    let all : c.push.new.self.items ≡ so_far ++ r ∷ [] = search rules in
    let left : length (records_left c.loop-requests.reader) ≡ 1 + length (records_left c.next_record.new.reader) = search rules in
    let long : length c.push.new.self.items ≡ length so_far + 1 = ap length all ∙ length-append so_far (r ∷ []) in
    let few : length so_far + 1 ≤ MOST_REQUESTS = omega (arith, c.if-row-le-MOST_REQUESTS.true, c.loop-requests.invariant.count) in
    let to : AreRequestsTo (so_far ++ r ∷ []) r.arrival =
    one-more so_far r c.loop-requests.earlier c.loop-requests.invariant.limits c.in-Ok.ensures.limits c.in-Ok.ensures.order few in
    record {
      default_reader = search rules;
      count = omega (arith, c.loop-requests.invariant.count, long);
      all = omega (arith, c.loop-requests.invariant.all, left);
      few = omega (arith, long, few);
      limits = rw all to;
      rest = search rules;
    }
