use Rattle.std.proofs.Common.{rules}
use Rattle.rtdvs_top.proofs.least.prepare_least.Goals as goal

pub returns : goal.returns
returns g c files known =
    let m = c.in_ok-machine.ensures.step files known in
    record {
      prepared = record {
        answer = search (rules, m);
        puttable = tt;
        tells = search (rules, m);
        named = search (rules, m);
        met = search (rules, m);
        tested = search (rules, m);
        told = search (rules, m);
      };
      refused = tt;
      failed = tt;
      loads = search (rules, m);
      counts = search (rules, m);
    }
