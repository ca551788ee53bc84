use Rattle.std.proofs.Common.{◌≡◌, ◌≤◌}
use Rattle.dvs_base.specs.WritesText.{Wrote}
use Rattle.rtdvs_top.specs.Poll.{request_lines, served_among}
use Rattle.rtdvs_top.proofs.poll.put_requests.Given as goal

-- the lines of the requests so far were put, and those that are served are counted
abbrev pub invariant-loop-m : goal.invariant-loop-m
invariant-loop-m g l = record {
  wrote : Wrote (g.W.Sink.shows l.fn.out) (g.W.Sink.shows l.out) (request_lines l.polling l.served.outcomes l.m);
  counted : l.count ≡ served_among l.served.outcomes l.m;
  few : l.count ≤ l.m;
}
