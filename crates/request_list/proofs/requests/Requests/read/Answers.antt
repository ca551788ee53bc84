use Rattle.request_list.proofs.Texts.{found-if, answered}
use Rattle.request_list.proofs.requests.Requests.read.Goals as goal

pub returns-clause-found : goal.returns-clause-found
returns-clause-found c = found-if c.read_requests.result c.args.bytes.now c.read_requests.ensures.file c.read_requests.ensures.limits

pub returns-clause-texts : goal.returns-clause-texts
returns-clause-texts c requests text =
    answered (λ r. r) c.read_requests.result requests c.args.bytes.now c.read_requests.ensures.file text
